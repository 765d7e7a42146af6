-- The parts of a statement: what a run does behind the step on entry. `run_inside` says that a run is the step and then the parts.
-- Assumes nothing.
use Rattle.std.specs.Prelude.{◌≡◌, refl, ℕ, ◌+◌, ◌-◌, List, [], ◌++◌, set, ℤ}
use Rattle.rules.specs.Outcome.{Outcome, accepted, ◌>>=◌, choose}
use Rattle.rules.specs.Value.{snapshot}
use Rattle.rules.specs.Tree.{Statement, skip, assign, sequence, if, repeat, node_of, mentions}
use Rattle.rules.specs.Run.{Done, evaluate, enter, holds, times, iterate, if_words, repeat_words, run}

unfoldable pub inside : Statement → List ℤ → ℕ → Outcome Done
inside (skip n) store left = accepted (record { store = store; steps = 0; words = [] })
inside (assign n v e) store left = do
  x ← evaluate e store
  accepted (record { store = set store v x.value; steps = 0; words = x.words })
inside (sequence n s t) store left = do
  d ← run s left store
  f ← run t (left - d.steps) d.store
  accepted (record { store = f.store; steps = d.steps + f.steps; words = d.words ++ f.words })
inside (if n e s t) store left = do
  x ← evaluate e store
  d ← choose (holds x.value) (run s) (run t) left store
  accepted
      (record {
        store = d.store;
        steps = d.steps;
        words = if_words x.value (snapshot (mentions (if n e s t)) store) (snapshot (mentions (if n e s t)) d.store) x.words d.words;
      })
inside (repeat n e s) store left = do
  x ← evaluate e store
  d ← iterate (run s) (mentions (repeat n e s)) (times x.value) left store
  accepted
      (record {
        store = d.store;
        steps = d.steps;
        words = repeat_words x.value (snapshot (mentions (repeat n e s)) store) x.words d.words;
      })

pub run_inside : (s : Statement) (fuel : ℕ) (store : List ℤ) → run s fuel store ≡ enter (node_of s) fuel (inside s store)
unfolding run inside node_of
run_inside (skip n) fuel store = refl
run_inside (assign n v e) fuel store = refl
run_inside (sequence n s t) fuel store = refl
run_inside (if n e s t) fuel store = refl
run_inside (repeat n e s) fuel store = refl
