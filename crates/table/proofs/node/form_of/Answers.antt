-- `table::node::form_of` meets its contract: a number that is no byte is no kind's.
-- Assumes nothing.
use mathlib.Core.Path.{◌∙◌, sym, ap}
use Prim.Native.Nat.{◌<◌}
use native.Mathlib.Omega.{arith}
use Rattle.table.specs.Laws.Kinds.{kind_above}
use Rattle.table.specs.Sorts.{form_by}
use Rattle.table.proofs.node.form_of.Goals as goal

pub returns-in_default : goal.returns-in_default
returns-in_default c =
    let far : c.args.kind < 256 → ⊥ = c.in_default.ensures in
    c.no_form.ensures ∙ ap form_by (sym (kind_above c.args.kind (omega (arith, far))))
