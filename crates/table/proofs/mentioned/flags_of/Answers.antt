-- `table::mentioned::flags_of` meets its contract: the flags that a node's children and its own name set are those of its variables.
-- Assumes nothing.
use mathlib.Core.Path.{◌≡◌, refl, sym, ap, ◌∙◌, subst}
use mathlib.Core.Bool.{Bool, true, false}
use mathlib.Core.List.{List, [], ◌∷◌}
use Prim.Native.Nat.{ℕ}
use native.Mathlib.Omega.{arith}
use lib.ListN.{get_or, take, set, replicate}
use Rattle.rules.proofs.Laws.Parts.{node_at}
use Rattle.rules.proofs.Laws.Rising.{rising, flagged_by}
use Rattle.rules.proofs.Laws.Variables.{places}
use Rattle.table.specs.Sorts.{node_of}
use Rattle.table.specs.Lists.{list_at}
use Rattle.table.specs.Listing.{Children, next_own, next_children, flags_plain, flags_own}
use Rattle.table.specs.Laws.Reading.{nodes_begin, sizes, node_place, node_known}
use Rattle.table.proofs.mentioned.flags_of.Goals as goal
use Rattle.table.proofs.mentioned.flags_of.Goals.{After-read_known-node, After-flag_children}

-- the node is that of the table
node_is : (c : After-read_known-node) → node_of c.read_known-node.result ≡ node_at c.args.t.now c.args.n
node_is c = c.read_known-node.ensures ∙ node_place c.args.t.now _ c.requires.table (nodes_begin c.args.t.now _ c.pair.ensures.0) c.args.n

pub pair-requires : goal.pair-requires
pair-requires c = let w = sizes c.args.t.now _ c.requires.table refl in omega (arith, w.whole, w.base_is)

pub overflow_mul-n : goal.overflow_mul-n
overflow_mul-n c = let w = sizes c.args.t.now _ c.requires.table refl in omega (arith, w.small, c.requires.inside)

pub overflow_add-pair-2 : goal.overflow_add-pair-2
overflow_add-pair-2 c = let w = sizes c.args.t.now _ c.requires.table refl in omega (arith, w.small, c.requires.inside)

pub read_known-node-requires : goal.read_known-node-requires
read_known-node-requires c =
    let based = nodes_begin c.args.t.now _ c.pair.ensures.0 in
    let w = sizes c.args.t.now _ c.requires.table based in
    record { inside = omega (arith, w.whole, c.requires.inside); known = node_known c.args.t.now _ c.requires.table based c.args.n c.requires.inside }

pub flag_children-requires : goal.flag_children-requires
flag_children-requires c =
    let x = node_of c.read_known-node.result in
    subst (λ (k : ℕ). Children c.args.made.now.lists (take k (x.a ∷ x.b ∷ x.c ∷ []))) (sym c.places_of.ensures)
    (next_children c.args.t.now c.args.made.now.lists c.args.n c.requires x (node_is (goal.at.flag_children-requires c).After-read_known-node))

pub bounds-flags-node : goal.bounds-flags-node
bounds-flags-node c =
    next_own c.args.t.now c.args.made.now.lists c.args.n c.requires _ (node_is (goal.at.bounds-flags-node c).After-read_known-node)
    (sym c.names_one.ensures ∙ c.if-names_one.true)

-- the flags that the children set
children_set : (c : After-flag_children) → let x = node_of c.read_known-node.result in
    c.flag_children.new.flags ≡ flagged_by (list_at c.args.made.now.lists) (take (get_or places x.kind 0) (x.a ∷ x.b ∷ x.c ∷ [])) (replicate 32 false)
children_set c =
    let x = node_of c.read_known-node.result in
    c.flag_children.ensures ∙ ap (λ (k : ℕ). flagged_by (list_at c.args.made.now.lists) (take k (x.a ∷ x.b ∷ x.c ∷ [])) (replicate 32 false)) c.places_of.ensures

pub returns-then-names_one : goal.returns-then-names_one
returns-then-names_one c =
    let at = goal.at.returns-then-names_one c in
    ap (λ (fs : List Bool). rising 0 (set fs c.read_known-node.result.tag true)) (children_set at.After-flag_children)
    ∙ flags_own c.args.t.now c.args.made.now.lists c.args.n c.requires _ (node_is at.After-read_known-node) (sym c.names_one.ensures ∙ c.if-names_one.true)

pub returns-else-names_one : goal.returns-else-names_one
returns-else-names_one c =
    let at = goal.at.returns-else-names_one c in
    ap (rising 0) (children_set at.After-flag_children)
    ∙ flags_plain c.args.t.now c.args.made.now.lists c.args.n c.requires _ (node_is at.After-read_known-node) (sym c.names_one.ensures ∙ c.if-names_one.false)
