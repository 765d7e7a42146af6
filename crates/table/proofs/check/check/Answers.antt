-- `table::check::check` meets its contract: each part tells what its test says of the definition's, in the definition's order, and the
-- laws of the whole check put them together.
-- Assumes nothing.
use mathlib.Core.Path.{◌≡◌}
use Rattle.std.proofs.lemmas.Result.{err_from_is_err_and}
use Rattle.rules.specs.Outcome.{accepted}
use Rattle.rules.specs.Table.{check_types, type_bytes}
use Rattle.table.specs.Laws.Tests.{told_wrong, told_right}
use Rattle.table.specs.Laws.Types.{types_told}
use Rattle.table.specs.Laws.Check.{header_refused, types_refused, tree_refused, use_refused, depth_refused, all_accepted}
use Rattle.table.proofs.check.check.Goals as goal
use Rattle.table.proofs.check.check.Goals.{Else-not-types_fit}

types_right : (c : Else-not-types_fit) → check_types (type_bytes c.in_ok-table.table.bytes.now) ≡ accepted tt
types_right c = rw (← c.types.ensures) (told_right _ (types_told _ _ c.types_fit.ensures) c.if-not-types_fit.false)

pub returns-in_err-table : goal.returns-in_err-table
returns-in_err-table c =
    let p = err_from_is_err_and c.from_residual.result c.from_residual.ensures.1 in rw (p.1, p.2) (header_refused _ c.in_err-table.ensures)

pub returns-then-not-types_fit : goal.returns-then-not-types_fit
returns-then-not-types_fit c =
    types_refused _ _ c.in_ok-table.ensures (rw (← c.types.ensures) (told_wrong _ (types_told _ _ c.types_fit.ensures) c.if-not-types_fit.true))

pub returns-in_err-depth : goal.returns-in_err-depth
returns-in_err-depth c =
    let p = err_from_is_err_and c.from_residual-in_err-depth.result c.from_residual-in_err-depth.ensures.1 in
    rw (p.1, p.2) (tree_refused _ _ c.in_ok-table.ensures (types_right (goal.at.returns-in_err-depth c).Else-not-types_fit) c.in_err-depth.ensures)

pub returns-then-not-used_once : goal.returns-then-not-used_once
returns-then-not-used_once c =
    use_refused _ _ c.in_ok-table.ensures (types_right (goal.at.returns-then-not-used_once c).Else-not-types_fit) _ c.in_ok-depth.ensures
    (told_wrong _ c.used_once.ensures c.if-not-used_once.true)

pub returns-then-depth-gt-MOST_DEPTH : goal.returns-then-depth-gt-MOST_DEPTH
returns-then-depth-gt-MOST_DEPTH c =
    depth_refused _ _ c.in_ok-table.ensures (types_right (goal.at.returns-then-depth-gt-MOST_DEPTH c).Else-not-types_fit) _ c.in_ok-depth.ensures
    (told_right _ c.used_once.ensures c.if-not-used_once.false) c.if-depth-gt-MOST_DEPTH.true

pub returns : goal.returns
returns c =
    all_accepted _ _ c.in_ok-table.ensures (types_right (goal.at.returns c).Else-not-types_fit) _ c.in_ok-depth.ensures
    (told_right _ c.used_once.ensures c.if-not-used_once.false) c.if-depth-gt-MOST_DEPTH.false
