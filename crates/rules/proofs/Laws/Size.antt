-- How many words the record of an expression has: two for each of its operators, whatever its values are; and how many a run of a
-- statement leaves at most, by its steps.
-- Assumes nothing.
use Rattle.std.specs.Prelude.{◌≡◌, refl, ℕ, zero, suc, ◌+◌, ◌-◌, ◌*◌, ◌≤◌, ◌<◌, Bool, true, false, List, ◌++◌, length, ℤ}
use Rattle.std.proofs.Common.{arith, length-append}
use Rattle.rules.specs.Outcome.{Outcome, choose, out_of_range}
use Rattle.rules.specs.Value.{snapshot}
use Rattle.rules.specs.Tree.{Expression, constant, variable, operation, Statement, skip, assign, sequence, if, repeat, mentions}
use Rattle.rules.specs.Run.{Done, compute, evaluate, entry, enter, holds, times, iterate, if_words, repeat_words, run}
use Rattle.rules.proofs.Laws.Outcome.{Holds, value, vacant, holds_here, holds_bind}
use Rattle.rules.proofs.Laws.Store.{length_snapshot}
use Rattle.rules.proofs.Laws.Typed.{computed}

unfoldable pub operations : Expression → ℕ
operations (constant n z) = 0
operations (variable n v) = 0
operations (operation n o a b) = suc (operations a + operations b)

pub record_size : (e : Expression) (store : List ℤ) → Holds (λ x. length x.words ≡ 2 * operations e) (evaluate e store)
unfolding evaluate operations
record_size (constant n z) store = value refl
record_size (variable n v) store = value refl
record_size (operation n o a b) store =
    holds_bind (evaluate a store) _ (record_size a store) λ l hl.
    holds_bind (evaluate b store) _ (record_size b store) λ r hr.
    holds_bind (compute out_of_range o l.value r.value) _ (computed out_of_range o l.value r.value) λ z hz.
    value (two_more (length l.words) (length r.words) (length-append l.words r.words) hl hr)
  where
    two_more : {k : ℕ} (i j : ℕ) → k ≡ i + j → i ≡ 2 * operations a → j ≡ 2 * operations b → suc (suc k) ≡ 2 * suc (operations a + operations b)
    two_more i j e f g = omega arith

-- ---- how many words a run leaves

-- no step of a statement of an accepted table leaves more words than this, a snapshot behind it included
abbrev pub weight : ℕ
weight = 67_108_864

-- each expression has fewer operators than this (its depth is at most 24), and each snapshot has at most 32 words
abbrev pub few_operators : Expression → Type 0
few_operators e = operations e < 16_777_216

abbrev pub Small : Statement → Type 0
Small (skip n) = Unit {0}
Small (assign n v e) = few_operators e
Small (sequence n s t) = Small s × Small t
Small (if n e s t) = few_operators e × (length (mentions (if n e s t)) ≤ 32) × Small s × Small t
Small (repeat n e s) = few_operators e × (length (mentions (repeat n e s)) ≤ 32) × Small s

-- so many words for so many steps, with room for a snapshot behind them
abbrev Bounded : Done → Type 0
Bounded d = length d.words + 32 ≤ weight * d.steps

bounded_enter : (node : ℕ) (inside : ℕ → Outcome Done) → ((left : ℕ) → Holds (λ d. length d.words + 35 ≤ weight * suc d.steps) (inside left))
    → (fuel : ℕ) → Holds Bounded (enter node fuel inside)
unfolding enter entry
bounded_enter node inside h zero = vacant
bounded_enter node inside h (suc left) = holds_bind (inside left) _ (h left) λ d k. value (three_more (length d.words) d.steps k)
  where
    three_more : (n k : ℕ) → n + 35 ≤ weight * suc k → suc (suc (suc n)) + 32 ≤ weight * suc k
    three_more n k h = omega arith

pub bounded_iterate : (body : ℕ → List ℤ → Outcome Done) (vs : List ℕ) → length vs ≤ 32 → ((left : ℕ) (store : List ℤ) → Holds Bounded (body left store))
    → (n left : ℕ) (store : List ℤ) → Holds (λ d. length d.words ≤ weight * d.steps) (iterate body vs n left store)
unfolding iterate
bounded_iterate body vs few h zero left store = holds_here _ (omega arith)
bounded_iterate body vs few h (suc n) left store =
    holds_bind (body left store) _ (h left store) λ d k.
    holds_bind (iterate body vs n (left - d.steps) d.store) _ (bounded_iterate body vs few h n (left - d.steps) d.store) λ r q.
    holds_here _ (omega (
      arith,
      length-append d.words (snapshot vs d.store ++ r.words),
      length-append (snapshot vs d.store) r.words,
      length_snapshot vs d.store,
    ))

bounded_choose : (b : Bool) (one two : ℕ → List ℤ → Outcome Done) (left : ℕ) (store : List ℤ) → Holds Bounded (one left store) → Holds Bounded (two left store)
    → Holds Bounded (choose b one two left store)
bounded_choose true one two left store h k = h
bounded_choose false one two left store h k = k

pub words_bounded : (s : Statement) → Small s → (fuel : ℕ) (store : List ℤ) → Holds Bounded (run s fuel store)
unfolding run if_words repeat_words
words_bounded (skip n) small fuel store = bounded_enter n _ (λ left. holds_here _ (omega arith)) fuel
words_bounded (assign n v e) small fuel store = bounded_enter n _
    (λ left. holds_bind (evaluate e store) _ (record_size e store) λ x k. holds_here _ (omega arith)) fuel
words_bounded (sequence n s t) small fuel store = bounded_enter n _
    (λ left.
    holds_bind (run s left store) _ (words_bounded s small.0 left store) λ d k.
    holds_bind (run t (left - d.steps) d.store) _ (words_bounded t small.1 (left - d.steps) d.store) λ f q.
    holds_here _ (omega (arith, length-append d.words f.words))) fuel
words_bounded (if n e s t) small fuel store = bounded_enter n _
    (λ left.
    holds_bind (evaluate e store) _ (record_size e store) λ x k.
    holds_bind (choose (holds x.value) (run s) (run t) left store) _
    (bounded_choose (holds x.value) (run s) (run t) left store (words_bounded s small.2 left store) (words_bounded t small.3 left store)) λ d q.
    let vs = mentions (if n e s t) in
    holds_here _ (omega (
      arith,
      length-append (snapshot vs store) (snapshot vs d.store ++ (x.words ++ d.words)),
      length-append (snapshot vs d.store) (x.words ++ d.words),
      length-append x.words d.words,
      length_snapshot vs store,
      length_snapshot vs d.store,
      small.1,
    ))) fuel
words_bounded (repeat n e s) small fuel store = bounded_enter n _
    (λ left.
    holds_bind (evaluate e store) _ (record_size e store) λ x k.
    let vs = mentions (repeat n e s) in
    holds_bind (iterate (run s) vs (times x.value) left store) _
    (bounded_iterate (run s) vs small.1 (words_bounded s small.2) (times x.value) left store) λ d q.
    holds_here _ (omega (arith, length-append (snapshot vs store) (x.words ++ d.words), length-append x.words d.words, length_snapshot vs store, small.1))) fuel
