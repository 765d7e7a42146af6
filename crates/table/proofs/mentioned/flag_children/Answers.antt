-- `table::mentioned::flag_children` meets its contract. The loop's invariant: the flags of the children from `i` on are set.
-- Assumes nothing.
use mathlib.Core.Path.{◌≡◌, ap, ◌∙◌}
use mathlib.Core.Bool.{Bool}
use mathlib.Core.List.{List}
use Prim.Native.Nat.{ℕ, suc, ◌-◌}
use native.Mathlib.Omega.{arith}
use lib.ListN.{get_or, drop}
use Rattle.rules.proofs.Laws.Rising.{flagged, flagged_by}
use Rattle.table.specs.Lists.{list_at}
use Rattle.table.specs.Listing.{no_child, next_child}
use Rattle.table.proofs.mentioned.flag_children.Goals as goal

pub loop-i-init : goal.loop-i-init
loop-i-init c = no_child (list_at c.args.made.now.lists) c.args.children.now c.args.flags.now

pub loop-i-preserved : goal.loop-i-preserved
loop-i-preserved c =
    let a = c.args in
    let j = c.loop-i.i - 1 in
    let e : c.loop-i.i ≡ suc j = omega arith in
    let vars = list_at a.made.now.lists in
    c.flag_list.ensures
    ∙ ap (λ (fs : List Bool). flagged fs (vars (get_or a.children.now j 0)))
    (c.loop-i.invariant ∙ ap (λ (k : ℕ). flagged_by vars (drop k a.children.now) a.flags.now) e)
    ∙ next_child vars a.children.now a.flags.now j (omega arith)
