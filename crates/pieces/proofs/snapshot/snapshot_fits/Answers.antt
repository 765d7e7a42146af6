-- `pieces::snapshot::snapshot_fits` meets its contract. The loop's invariant: each word before i is in its type; the first that is not decides.
-- Assumes nothing.
use mathlib.Core.Path.{◌≡◌, ap, ◌∙◌}
use Prim.Native.Nat.{◌+◌}
use native.Mathlib.Omega.{arith}
use lib.ListN.{length, get_or}
use borrow.Author.Rules.{rules}
use Rattle.rules.specs.Value.{at, type_of, in_type}
use Rattle.rules.specs.Table.{types_of}
use Rattle.table.specs.Lists.{list_at}
use Rattle.pieces.specs.Laws.Snapshot.{named_row}
use Rattle.pieces.proofs.Snapshots.{stands_short, stands_all, stands_not}
use Rattle.pieces.proofs.Turns.{Turn, turn, told}
use Rattle.pieces.proofs.snapshot.snapshot_fits.Goals as goal
use Rattle.pieces.proofs.snapshot.snapshot_fits.Goals.{After-from, After-in_type}

pub of-variables-requires : goal.of-variables-requires
of-variables-requires c = named_row c.requires.named

read : (c : After-from) → Turn c.args.t.now c.args.lists.now.lists c.args.node c.loop-i.i c.from.result
read c = turn c.requires.named c.of-variables.ensures c.loop-i-test.true c.from.ensures

answer : (c : After-in_type) → let s = c.args in
    in_type (type_of (types_of s.t.now) (get_or (list_at s.lists.now.lists s.node) c.loop-i.i 0)) (at s.old.now (s.from + c.loop-i.i)) ≡ c.in_type.result
answer c = told (read (goal.at.After-in_type c).After-from) c.type_of.ensures _ (search rules) c.in_type.ensures

pub type_of-requires : goal.type_of-requires
type_of-requires c = (c.requires.named.long, (read c).known)

pub returns-then-end-from : goal.returns-then-end-from
returns-then-end-from c =
    stands_short (types_of c.args.t.now) (list_at c.args.lists.now.lists c.args.node) c.args.old.now c.args.from c.args.end c.requires.inside
    (omega (arith, ap length c.of-variables.ensures))

pub returns-then-not-in_type : goal.returns-then-not-in_type
returns-then-not-in_type c =
    stands_not (types_of c.args.t.now) (list_at c.args.lists.now.lists c.args.node) c.args.old.now c.args.from c.args.end c.requires.inside
    (omega (arith, ap length c.of-variables.ensures)) c.loop-i.i (read (goal.at.returns-then-not-in_type c).After-from).below
    (answer (goal.at.returns-then-not-in_type c).After-in_type ∙ c.if-not-in_type.true)

pub returns : goal.returns
returns c =
    let all = ap length c.of-variables.ensures in
    stands_all (types_of c.args.t.now) (list_at c.args.lists.now.lists c.args.node) c.args.old.now c.args.from c.args.end c.requires.inside
    (omega (arith, all)) (λ k low. c.loop-i.invariant k (omega (arith, all)))
