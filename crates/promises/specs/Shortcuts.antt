-- "Four shortcuts that are wrong": each written out as a small definition, and what it computes on a small program beside what the
-- rules compute there. The definitions are those of the rules with one thing put in another's place; with the right thing there
-- they are the rules again. Every proof is a computation.
-- Assumes nothing.
use Rattle.std.specs.Prelude.{◌≡◌, refl, ℕ, Bool, true, false, drop, ℤ, pos, negsuc, ◌+ℤ◌, ◌-ℤ◌, ◌*ℤ◌}
use mathlib.Core.List.{List, [], ◌∷◌, map, foldr}
use Rattle.numbers.specs.Signed.{between}
use Rattle.rules.specs.Outcome.{Outcome, accepted, refused, ◌>>=◌, choose}
use Rattle.rules.specs.Value.{Ty, lowest, highest, in_type, snapshot, put, minus_all, unchanged}
use Rattle.rules.specs.Tree.{Operator, Expression, Statement, node_of, reads, mentions}
use Rattle.rules.specs.Table.{check}
use Rattle.rules.specs.Run.{Done, evaluate, enter, holds, if_words, repeat_words, run}
use Rattle.rules.specs.Patch.{meet, skipped, paid, visit, Walked, Visited, Walk, Turn, read_in, read_snapshot, moved_all, moved, shift, last_snapshot, no_steps, shrunk, walk}
use Rattle.rules.specs.Computing.{computing}
use Rattle.rules.proofs.Laws.Store.{difference}
use Rattle.promises.specs.Marked.{program_p, record_p}

-- what a run and a visit end with; nothing where they refuse
abbrev words_of : Outcome Done → List ℤ
words_of (accepted d) = d.words
words_of (refused r) = []

abbrev store_of : Outcome Done → List ℤ
store_of (accepted d) = d.store
store_of (refused r) = []

abbrev new_words : Outcome Visited → List ℤ
new_words (accepted v) = v.words
new_words (refused r) = []

abbrev new_changes : Outcome Visited → List ℤ
new_changes (accepted v) = v.changes
new_changes (refused r) = []

-- ---- "Skipping when only the read variables are unchanged. With y changed by 4, `y := 1` ends with change 0."

-- `visit`, with the skip rule's test on these variables
unfoldable pub visit_by : List ℕ → Statement → Walk → Bool → ℕ → List ℤ → List ℤ → Outcome Visited
visit_by vs s inside last fuel changes ws = do
  e ← meet (node_of s) last ws
  choose (unchanged vs changes) skipped (paid (node_of s) inside) e fuel changes

pub visit_is_by_mentions : (s : Statement) → visit_by (mentions s) s ≡ visit s
unfolding visit_by visit
visit_is_by_mentions s = refl

-- y := 1, where y is variable 0, and its entry from y = 5
unfoldable pub one : Expression
one = Expression.constant 0 (pos 1)

unfoldable pub set_y : Statement
set_y = Statement.assign 1 0 one

unfoldable pub entry_y : List ℤ
entry_y = words_of (run set_y 100 (pos 5 ∷ []))

abbrev types_y : List Ty
types_y = Ty.number ∷ []

-- By the variables read, y keeps its change 4; by the rules it ends with change 0, and so does a rerun.
pub skipping_by_reads_is_wrong :
    (new_changes (visit_by (reads one) set_y (walk types_y set_y) true 100 (pos 4 ∷ []) entry_y) ≡ pos 4 ∷ [])
    × (new_changes (visit set_y (walk types_y set_y) true 100 (pos 4 ∷ []) entry_y) ≡ pos 0 ∷ [])
    × (difference types_y (store_of (run set_y 100 (pos 9 ∷ []))) (store_of (run set_y 100 (pos 5 ∷ []))) ≡ pos 0 ∷ [])
unfolding computing visit_by one set_y entry_y difference
skipping_by_reads_is_wrong = (refl, refl, refl)

-- ---- "Snapshots of the whole store. A skipped part would keep an unrelated variable's old value."

-- the run of an if, with snapshots of these variables
unfoldable pub run_if_by : List ℕ → ℕ → Expression → Statement → Statement → ℕ → List ℤ → Outcome Done
run_if_by vs n e s t fuel store = enter n fuel λ left. do
  x ← evaluate e store
  d ← choose (holds x.value) (run s) (run t) left store
  accepted
      (record {
        store = d.store;
        steps = d.steps;
        words = if_words x.value (snapshot vs store) (snapshot vs d.store) x.words d.words;
      })

pub run_is_by_mentions : (n : ℕ) (e : Expression) (s t : Statement) (fuel : ℕ) (store : List ℤ)
    → run_if_by (mentions (Statement.if n e s t)) n e s t fuel store ≡ run (Statement.if n e s t) fuel store
unfolding run_if_by run
run_is_by_mentions n e s t fuel store = refl

-- if b then skip else skip, where b is variable 0; variable 1 is unrelated
abbrev if_b : List ℕ → List ℤ → List ℤ
if_b vs store = words_of (run_if_by vs 3 (Expression.variable 0 0) (Statement.skip 1) (Statement.skip 2) 100 store)

-- With variable 1 moved from 5 to 6 the skip rule copies the entry: of the whole store it keeps 5 where a rerun has 6, of the
-- mentioned variables it is the rerun's.
pub whole_snapshots_are_wrong :
    (unchanged (mentions (Statement.if 3 (Expression.variable 0 0) (Statement.skip 1) (Statement.skip 2))) (pos 0 ∷ pos 1 ∷ []) ≡ true)
    × (if_b (0 ∷ 1 ∷ []) (pos 1 ∷ pos 5 ∷ []) ≡ pos 3 ∷ pos 11 ∷ pos 2 ∷ pos 1 ∷ pos 1 ∷ pos 5 ∷ pos 1 ∷ pos 5 ∷ pos 1 ∷ pos 3 ∷ pos 1 ∷ [])
    × (if_b (0 ∷ 1 ∷ []) (pos 1 ∷ pos 6 ∷ []) ≡ pos 3 ∷ pos 11 ∷ pos 2 ∷ pos 1 ∷ pos 1 ∷ pos 6 ∷ pos 1 ∷ pos 6 ∷ pos 1 ∷ pos 3 ∷ pos 1 ∷ [])
    × (if_b (0 ∷ []) (pos 1 ∷ pos 5 ∷ []) ≡ if_b (0 ∷ []) (pos 1 ∷ pos 6 ∷ []))
unfolding computing run_if_by
whole_snapshots_are_wrong = (refl, refl, refl, refl)

-- ---- "The product's change as three terms of document 000: change times change can pass 64 bits."

-- a signed 64-bit word
unfoldable pub fits64 : ℤ → Bool
fits64 z = between (negsuc 9_223_372_036_854_775_807) (pos 9_223_372_036_854_775_807) z

-- old left times right change, left change times old right, left change times right change
unfoldable pub three_terms : ℤ → ℤ → ℤ → ℤ → List ℤ
three_terms left left' right right' =
    (left *ℤ (right' -ℤ right)) ∷ ((left' -ℤ left) *ℤ right) ∷ ((left' -ℤ left) *ℤ (right' -ℤ right)) ∷ []

-- All four operands in range, the left from lowest to highest and the right from 1 to lowest: the terms add up to the change, but
-- the third passes 64 bits. The new product, the old one and their difference do not.
pub three_terms_are_wrong :
    (map (in_type Ty.number) (lowest ∷ highest ∷ pos 1 ∷ lowest ∷ []) ≡ true ∷ true ∷ true ∷ true ∷ [])
    × (foldr ◌+ℤ◌ (pos 0) (three_terms lowest highest (pos 1) lowest) ≡ (highest *ℤ lowest) -ℤ (lowest *ℤ pos 1))
    × (map fits64 (three_terms lowest highest (pos 1) lowest) ≡ true ∷ true ∷ false ∷ [])
    × (map fits64 ((highest *ℤ lowest) ∷ (lowest *ℤ pos 1) ∷ ((highest *ℤ lowest) -ℤ (lowest *ℤ pos 1)) ∷ []) ≡ true ∷ true ∷ true ∷ [])
unfolding computing fits64 three_terms
three_terms_are_wrong = (refl, refl, refl, refl)

-- ---- "Leaving the entries of a dropped branch or iteration behind."

-- `shrunk`, with the words of the dropped iterations kept
unfoldable pub keeping : List Ty → List ℕ → Turn → Outcome Walked
keeping types vs t = do
  tail ← last_snapshot types vs t.rest
  accepted
      (record { changes = put vs (minus_all types vs t.new tail.values) t.changes; counts = no_steps; words = t.rest })

-- the walk through a repeat all of whose iterations are dropped, in this way
unfoldable pub walk_dropping : (List Ty → List ℕ → Turn → Outcome Walked) → List Ty → ℕ → Expression → Statement → Walk
walk_dropping drops types n e s left changes ws =
    let vs = mentions (Statement.repeat n e s) in do
      old ← read_in Ty.number ws
      b ← read_snapshot types vs old.rest
      before ← moved_all types vs b.values changes
      x ← shift e changes b.rest
      count ← moved Ty.number old.word x.change
      w ← drops types vs (record { left = left; changes = changes; old = b.values; new = before; rest = x.rest })
      accepted
          (record { changes = w.changes; counts = w.counts; words = repeat_words count before x.words w.words })

-- program P as a tree: repeat n: s := s + n
abbrev types_p : List Ty
types_p = Ty.number ∷ Ty.number ∷ []

abbrev body_p : Statement
body_p = Statement.assign 4 1 (Expression.operation 3 Operator.add (Expression.variable 1 1) (Expression.variable 2 0))

abbrev root_p : Statement
root_p = Statement.repeat 5 (Expression.variable 0 0) body_p

pub program_is_this_tree : check program_p ≡ accepted (record { types = types_p; root = root_p })
unfolding computing program_p
program_is_this_tree = refl

-- a visit of P's root entry from 2 10, with n lowered by 2
abbrev lowered : Walk → Outcome Visited
lowered w = visit root_p w true 100 (negsuc 1 ∷ pos 0 ∷ []) (drop 7 record_p)

-- The words left behind are no words of the rerun on 0 10; dropped as the rules say, the visit's words are the rerun's.
pub leaving_behind_is_wrong :
    (new_words (lowered (walk_dropping keeping types_p 5 (Expression.variable 0 0) body_p))
    ≡ pos 5 ∷ pos 20 ∷ pos 1 ∷ pos 0 ∷ pos 0 ∷ pos 10
    ∷ pos 4 ∷ pos 5 ∷ pos 1 ∷ pos 10 ∷ pos 2 ∷ pos 2 ∷ pos 12 ∷ pos 4 ∷ pos 5 ∷ pos 1 ∷ pos 12 ∷ pos 2 ∷ pos 2 ∷ pos 14 ∷ [])
    × (words_of (run root_p 100 (pos 0 ∷ pos 10 ∷ [])) ≡ pos 5 ∷ pos 6 ∷ pos 1 ∷ pos 0 ∷ pos 0 ∷ pos 10 ∷ [])
    × (new_words (lowered (walk_dropping shrunk types_p 5 (Expression.variable 0 0) body_p)) ≡ words_of (run root_p 100 (pos 0 ∷ pos 10 ∷ [])))
    × (lowered (walk_dropping shrunk types_p 5 (Expression.variable 0 0) body_p) ≡ lowered (walk types_p root_p))
unfolding computing record_p keeping walk_dropping
leaving_behind_is_wrong = (refl, refl, refl, refl)
