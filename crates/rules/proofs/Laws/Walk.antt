-- The entry theorem: visiting the entry that an accepted run left, with the difference to a new store, goes as a run from the new
-- store goes: accepted with its words, the difference of the two ends and its steps, or refused for its reason.
-- By induction on the statement; each kind's parts follow by the laws of shifts, entries, branches and loops.
-- Assumes nothing.
use Rattle.std.specs.Prelude.{◌≡◌, ℕ, ◌-◌, ◌≤◌, Bool, length, set, ℤ, pos}
use Rattle.std.proofs.Math.Path.{refl, sym, ap}
use Rattle.std.proofs.Common.{◌∙◌, arith}
use Rattle.std.proofs.Math.Bool.{true, false}
use mathlib.Core.List.{List, [], ◌++◌, append-nil}
use Rattle.numbers.specs.Signed.{eq_z}
use Rattle.rules.specs.Outcome.{Outcome, accepted, ◌>>=◌, choose}
use Rattle.rules.specs.Value.{Ty, minus, type_of, snapshot}
use Rattle.rules.specs.Tree.{Expression, Statement, skip, assign, sequence, if, repeat, node_of, mentions}
use Rattle.rules.specs.Run.{Valued, Done, evaluate, holds, times, iterate, if_words, repeat_words, run}
use Rattle.rules.specs.Patch.{steps_of, no_steps, both, Walked, finished, ends, shift, visit, walk}
use Rattle.rules.proofs.Laws.Outcome.{Holds, value, holds_bind, holds_both, holds_map, holds_all, Alike, values, alike_bind, alike_with}
use Rattle.rules.proofs.Laws.Store.{difference, set_difference, read_back, move_on}
use Rattle.rules.proofs.Laws.Mentions.{◌⊆◌, if_then, if_else, repeat_body}
use Rattle.rules.proofs.Laws.Typed.{TypedAs, Typed, value_typed, Kept, run_keeps, keeps_choose}
use Rattle.rules.proofs.Laws.Run.{run_alike}
use Rattle.rules.proofs.Laws.Shift.{Shift, shift_follows, reads_in, moves_to}
use Rattle.rules.proofs.Laws.Entry.{Fine, Step, Part, Visits, Walks, visit_follows, enter_walks, sum_of_both}
use Rattle.rules.proofs.Laws.Branch.{forked}
use Rattle.rules.proofs.Laws.Loop.{fine_end, loop_follows}

module _ (types : List Ty) where
  -- what a walk through parts is to do: the parts' end d, from the old store
  abbrev Follows : (List ℤ → ℕ → Outcome Done) → (ℕ → List ℤ → List ℤ → Outcome Walked) → List ℤ → Done → Type 0
  Follows inside w old d = (new : List ℤ) → Fine types new → (left : ℕ)
      → Alike (Part types d) (inside new left) (w left (difference types new old) d.words)

  -- an expression's shift, for every new store
  shifts : (t : Ty) (e : Expression) → TypedAs types t e → (old : List ℤ) → Fine types old → Holds
      (λ x. (new : List ℤ) → Fine types new → (rest : List ℤ)
      → Alike (Shift t x rest) (evaluate e new) (shift e (difference types new old) (x.words ++ rest)))
      (evaluate e old)
  shifts t e typed old fine = holds_all (evaluate e old) λ new. holds_all (evaluate e old) λ fine'.
      shift_follows types old new (fine'.long ∙ sym fine.long) fine.good fine'.good t e typed

  assign_part : (v : ℕ) (x y : Valued) (old new : List ℤ) → length new ≡ length old
      → Part types (record { store = set old v x.value; steps = 0; words = x.words })
      (record { store = set new v y.value; steps = 0; words = y.words })
      (record { changes = set (difference types new old) v (minus (type_of types v) y.value x.value); counts = no_steps; words = y.words })
  unfolding no_steps steps_of
  assign_part v x y old new e = record {
    counts = no_steps;
    total = refl;
    closed = ap {B = Walked} (λ c. record { changes = c; counts = no_steps; words = y.words })
        (sym (set_difference types new old e v y.value x.value));
  }

  assign_follows : (n v : ℕ) (e : Expression) → TypedAs types (type_of types v) e → (old : List ℤ) → Fine types old
      → Holds (Follows (λ store left. evaluate e store >>= λ x. accepted (record { store = set store v x.value; steps = 0; words = x.words }))
      (walk types (assign n v e)) old)
      (evaluate e old >>= λ x. accepted (record { store = set old v x.value; steps = 0; words = x.words }))
  unfolding walk finished
  assign_follows n v e typed old fine =
      holds_bind (evaluate e old) _ (shifts (type_of types v) e typed old fine) λ x follows. value λ new fine' left.
      alike_bind (evaluate e new) (shift e (difference types new old) x.words) _ _
      (rw append-nil at (follows new fine' [])) λ y s p.
      rw p (values (assign_part v x y old new (fine'.long ∙ sym fine.long)))

  -- ---- the branches of an if

  -- the branch that a test chooses is run and visited
  abbrev Chosen : Bool → Statement → Statement → List ℤ → Done → Type 0
  Chosen b s t old d = (new : List ℤ) → Fine types new → (last : Bool) (rest : List ℤ) (fuel : ℕ) → ends last rest ≡ true
      → Alike (Step types d rest) (choose b (run s) (run t) fuel new)
      (choose b (visit s (walk types s)) (visit t (walk types t)) last fuel (difference types new old) (d.words ++ rest))

  chosen : (b : Bool) (s t : Statement) (left₀ : ℕ) (old : List ℤ) → Holds (Visits types s old) (run s left₀ old)
      → Holds (Visits types t old) (run t left₀ old) → Holds (Chosen b s t old) (choose b (run s) (run t) left₀ old)
  unfolding Visits
  chosen true s t left₀ old h k = h
  chosen false s t left₀ old h k = k

  -- ---- the theorem

  -- an entry's walk follows, and so its visit
  visited : (s : Statement) → Typed types s → (fuel₀ : ℕ) → fuel₀ ≤ 1_000_000 → (old : List ℤ) → Fine types old
      → Holds (Walks types s old) (run s fuel₀ old) → Holds (Visits types s old) (run s fuel₀ old)
  visited s typed fuel₀ most old fine h = visit_follows types s typed old fine fuel₀ most h

  -- of a statement whose variables are among these, the run keeps a store fine
  kept_run : (s : Statement) → Typed types s → (vs : List ℕ) → mentions s ⊆ vs → (left : ℕ) (store : List ℤ) → Fine types store
      → Holds (λ d. Kept types vs store d.store) (run s left store)
  kept_run s typed vs sub left store fine = run_keeps types vs s typed sub left store fine.good

  walk_follows : (s : Statement) → Typed types s → (fuel₀ : ℕ) → fuel₀ ≤ 1_000_000 → (old : List ℤ) → Fine types old
      → Holds (Walks types s old) (run s fuel₀ old)
  unfolding run Walks Visits node_of walk finished ends no_steps steps_of if_words repeat_words
  walk_follows (skip n) typed fuel₀ most old fine = enter_walks types n (walk types (skip n)) _ old
      (λ left₀ most₀. value λ new fine' left. values (record { counts = no_steps; total = refl; closed = refl })) fuel₀ most
  walk_follows (assign n v e) typed fuel₀ most old fine = enter_walks types n (walk types (assign n v e)) _ old
      (λ left₀ most₀. assign_follows n v e typed old fine) fuel₀ most
  walk_follows (sequence n s t) typed fuel₀ most old fine = enter_walks types n (walk types (sequence n s t)) _ old
      (λ left₀ most₀.
      holds_bind (run s left₀ old) _
      (holds_both (visited s typed.0 left₀ most₀ old fine (walk_follows s typed.0 left₀ most₀ old fine))
      (kept_run s typed.0 (mentions s) (λ v m. m) left₀ old fine)) λ d p.
      holds_bind (run t (left₀ - d.steps) d.store) _
      (visited t typed.1 (left₀ - d.steps) (omega arith) d.store (fine_end d.store fine p.1)
      (walk_follows t typed.1 (left₀ - d.steps) (omega arith) d.store (fine_end d.store fine p.1))) λ f q.
      value λ new fine' left.
      alike_bind (run s left new) (visit s (walk types s) false left (difference types new old) (d.words ++ f.words)) _ _
      (alike_with (kept_run s typed.0 (mentions s) (λ v m. m) left new fine') (p.0 new fine' false f.words left refl)) λ d' a u.
      rw (u.1.closed, u.1.total)
      (alike_bind (run t (left - d'.steps) d'.store)
      (visit t (walk types t) true (left - d'.steps) (difference types d'.store d.store) f.words) _ _
      (rw append-nil at (q d'.store (fine_end d'.store fine' u.0) true [] (left - d'.steps) refl)) λ f' b w.
      rw w.closed
      (values (record {
        counts = both u.1.counts w.counts;
        total = sum_of_both u.1.counts w.counts d'.steps f'.steps u.1.total w.total;
        closed = refl;
      })))) fuel₀ most
  walk_follows (if n e s t) typed fuel₀ most old fine = enter_walks types n (walk types (if n e s t)) _ old
      (λ left₀ most₀.
      let vs = mentions (if n e s t) in
      holds_bind (evaluate e old) _ (holds_both (value_typed types old fine.good Ty.truth e typed.0) (shifts Ty.truth e typed.0 old fine)) λ x hx.
      holds_bind (choose (holds x.value) (run s) (run t) left₀ old) _
      (holds_both
      (chosen (holds x.value) s t left₀ old
      (visited s typed.1 left₀ most₀ old fine (walk_follows s typed.1 left₀ most₀ old fine))
      (visited t typed.2 left₀ most₀ old fine (walk_follows t typed.2 left₀ most₀ old fine)))
      (keeps_choose types vs (holds x.value) (run s) (run t)
      (run_keeps types vs s typed.1 (if_then n e s t)) (run_keeps types vs t typed.2 (if_else n e s t)) left₀ old fine.good)) λ d p.
      value λ new fine' left.
      rw (
        reads_in Ty.truth x.value (snapshot vs old ++ (snapshot vs d.store ++ (x.words ++ d.words))) hx.0,
        read_back types vs old (snapshot vs d.store ++ (x.words ++ d.words)) fine.good,
        move_on types vs new old (fine'.long ∙ sym fine.long) fine.good fine'.good,
        read_back types vs d.store (x.words ++ d.words) p.1.good,
      )
      (alike_bind (evaluate e new) (shift e (difference types new old) (x.words ++ d.words)) _ _
      (alike_with (value_typed types new fine'.good Ty.truth e typed.0) (hx.1 new fine' d.words)) λ y sh q.
      rw q.1
      (forked types vs old new fine fine' x.value hx.0 d p.1 x.words left y.words y.value q.0 (run s) (run t)
      (visit s (walk types s)) (visit t (walk types t))
      (run_keeps types vs s typed.1 (if_then n e s t)) (run_keeps types vs t typed.2 (if_else n e s t))
      (run_alike vs s (if_then n e s t)) (run_alike vs t (if_else n e s t))
      (rw append-nil at (p.0 new fine' true [] left refl))
      (eq_z (minus Ty.truth y.value x.value) (pos 0)) refl))) fuel₀ most
  walk_follows (repeat n e s) typed fuel₀ most old fine = enter_walks types n (walk types (repeat n e s)) _ old
      (λ left₀ most₀.
      let vs = mentions (repeat n e s) in
      holds_bind (evaluate e old) _ (holds_both (value_typed types old fine.good Ty.number e typed.0) (shifts Ty.number e typed.0 old fine)) λ x hx.
      holds_bind (iterate (run s) vs (times x.value) left₀ old) _
      (loop_follows types vs (run s) (visit s (walk types s) false)
      (run_keeps types vs s typed.1 (repeat_body n e s)) (run_alike vs s (repeat_body n e s))
      (λ left₁ most₁ from fine₁. holds_map (λ d h new fine' rest left. h new fine' false rest left refl)
      (visited s typed.1 left₁ most₁ from fine₁ (walk_follows s typed.1 left₁ most₁ from fine₁)))
      (times x.value) left₀ most₀ old fine) λ d p.
      value λ new fine' left.
      rw (
        reads_in Ty.number x.value (snapshot vs old ++ (x.words ++ d.words)) hx.0,
        read_back types vs old (x.words ++ d.words) fine.good,
        move_on types vs new old (fine'.long ∙ sym fine.long) fine.good fine'.good,
      )
      (alike_bind (evaluate e new) (shift e (difference types new old) (x.words ++ d.words)) _ _
      (alike_with (value_typed types new fine'.good Ty.number e typed.0) (hx.1 new fine' d.words)) λ y sh q.
      rw (q.1, moves_to Ty.number x.value y.value hx.0 q.0)
      (alike_bind (iterate (run s) vs (times y.value) left new) _ _ _ (p (times y.value) new fine' left) λ d' w u.
      rw u.closed (values (record { counts = u.counts; total = u.total; closed = refl }))))) fuel₀ most

  -- the entry theorem
  pub entry_follows : (s : Statement) → Typed types s → (fuel₀ : ℕ) → fuel₀ ≤ 1_000_000 → (old : List ℤ) → Fine types old
      → Holds (Visits types s old) (run s fuel₀ old)
  entry_follows s typed fuel₀ most old fine = visited s typed fuel₀ most old fine (walk_follows s typed fuel₀ most old fine)
