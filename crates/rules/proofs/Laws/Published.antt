-- The run is the published rules: an accepted run of a typed program has a derivation with so many statements (`run_derived`),
-- and a derivation is found by a run with enough steps left (`derived_run`).
-- The figure unrolls a repeat from its end and the run from its start; `Turns` has the iterations in the figure's way, and
-- two laws lead from one to the other.
-- Assumes nothing.
use Rattle.std.specs.Prelude.{◌≡◌, refl, ◌⊎◌, List, [], ◌∷◌, ◌++◌, set, ℤ, pos, negsuc}
use Rattle.std.proofs.Common.{sym, ap, ◌∙◌, subst, inl, inr, arith, zero-add, add-zero, add_assoc, suc-add}
use Prim.Native.Nat.{ℕ, zero, suc, ◌+◌, ◌-◌, ◌≤◌}
use Rattle.rules.specs.Outcome.{Outcome, accepted, choose, out_of_range}
use Rattle.rules.specs.Value.{Ty, snapshot}
use Rattle.rules.specs.Tree.{Expression, Statement, mentions}
use Rattle.rules.specs.Run.{Valued, Done, compute, evaluate, entry, enter, holds, times, iterate, if_words, repeat_words, run}
use Rattle.rules.specs.Published.{Evaluates, Executes}
use Rattle.rules.proofs.Laws.Outcome.{Holds, value, vacant, holds_bind, holds_both, holds_map}
use Rattle.rules.proofs.Laws.Value.{truth_cases}
use Rattle.rules.proofs.Laws.Store.{Good}
use Rattle.rules.proofs.Laws.Typed.{Typed, value_typed, computed, run_keeps}
use Rattle.rules.proofs.Laws.Shift.{computes}

-- ---- expressions

pub value_derived : (store : List ℤ) (e : Expression) → Holds (λ x. Evaluates store e x.value) (evaluate e store)
unfolding evaluate
value_derived store (Expression.constant n z) = value Evaluates.constant
value_derived store (Expression.variable n v) = value Evaluates.variable
value_derived store (Expression.operation n o a b) =
    holds_bind (evaluate a store) _ (value_derived store a) λ l hl.
    holds_bind (evaluate b store) _ (value_derived store b) λ r hr.
    holds_bind (compute out_of_range o l.value r.value) _ (computed out_of_range o l.value r.value) λ z hz.
    value (subst (Evaluates store (Expression.operation n o a b)) (sym hz.0) (Evaluates.operation hl hr hz.1))

-- the value is there, with some record
abbrev ValuedAs : Outcome Valued → ℤ → Type 0
ValuedAs m z = (ws : List ℤ) × (m ≡ accepted (record { value = z; words = ws }))

pub derived_value : {store : List ℤ} {e : Expression} {z : ℤ} → Evaluates store e z → ValuedAs (evaluate e store) z
unfolding evaluate
derived_value Evaluates.constant = ([], refl)
derived_value Evaluates.variable = ([], refl)
derived_value (Evaluates.operation {o} {x} {y} p q h) =
    let l = derived_value p in
    let r = derived_value q in
    (x ∷ y ∷ (l.0 ++ r.0), rw (l.1, r.1, computes out_of_range o x y h) refl)

-- ---- iterations

-- so many iterations, the last one last, as the figure has them
pub data Turns (s : Statement) : List ℤ → ℕ → List ℤ → ℕ → Type 0 where
  none : {store : List ℤ} → Turns s store 0 store 0
  more : {store store' store'' : List ℤ} {k i j : ℕ} → Turns s store k store' i → Executes store' s store'' j → Turns s store (suc k) store'' (i + j)

-- the same, the first one first, as the run has them
pub data Ahead (s : Statement) : List ℤ → ℕ → List ℤ → ℕ → Type 0 where
  done : {store : List ℤ} → Ahead s store 0 store 0
  first : {store store' store'' : List ℤ} {k i j : ℕ} → Executes store s store' i → Ahead s store' k store'' j → Ahead s store (suc k) store'' (i + j)

turns_front : {s : Statement} {store store' store'' : List ℤ} {k i j : ℕ} → Executes store s store' i → Turns s store' k store'' j
    → Turns s store (suc k) store'' (i + j)
turns_front {s} {store} {store''} {i} x none = subst (λ n. Turns s store 1 store'' n) (zero-add i ∙ sym (add-zero i)) (more none x)
turns_front {s} {store} {store''} {i} x (more {k} {i = a} {j = b} t y) =
    subst (λ n. Turns s store (suc (suc k)) store'' n) (add_assoc i a b) (more (turns_front x t) y)

ahead_end : {s : Statement} {store store' store'' : List ℤ} {k i j : ℕ} → Ahead s store k store' i → Executes store' s store'' j
    → Ahead s store (suc k) store'' (i + j)
ahead_end {s} {store} {store''} {j} done y = subst (λ n. Ahead s store 1 store'' n) (add-zero j ∙ sym (zero-add j)) (first y done)
ahead_end {s} {store} {store''} {j} (first {k} {i = a} {j = b} x t) y =
    subst (λ n. Ahead s store (suc (suc k)) store'' n) (sym (add_assoc a b j)) (first x (ahead_end t y))

-- iterations are a repeat of a number of them
turns_repeat : {s : Statement} {store store' : List ℤ} {k i : ℕ} (n m : ℕ) → Turns s store k store' i
    → Executes store (Statement.repeat n (Expression.constant m (pos k)) s) store' (suc i)
turns_repeat n m none = Executes.repeat_zero Evaluates.constant
turns_repeat {s} {store} {store'} n m (more {k} {i = a} {j = b} t x) =
    subst (λ c. Executes store (Statement.repeat n (Expression.constant m (pos (suc k))) s) store' c) (suc-add a b)
    (Executes.repeat_more {m = m} Evaluates.constant (turns_repeat n m t) x)

-- and so a repeat whose count says so
counted_repeat : {s : Statement} {e : Expression} {store store' : List ℤ} {i : ℕ} (n : ℕ) (z : ℤ) → Evaluates store e z → Turns s store (times z) store' i
    → Executes store (Statement.repeat n e s) store' (suc i)
unfolding times
counted_repeat n (pos zero) ev none = Executes.repeat_zero ev
counted_repeat {s} {e} {store} {store'} n (pos (suc k)) ev (more {i = a} {j = b} t x) =
    subst (λ c. Executes store (Statement.repeat n e s) store' c) (suc-add a b) (Executes.repeat_more {m = n} ev (turns_repeat n n t) x)
counted_repeat n (negsuc k) ev none = Executes.repeat_below ev

-- a repeat is unrolled
pub record Unrolled (s : Statement) (e : Expression) (store store' : List ℤ) (i : ℕ) : Type 0 where
  pub count : ℤ
  pub counts : Evaluates store e count
  pub steps : ℕ
  pub cost : i ≡ suc steps
  pub ahead : Ahead s store (times count) store' steps

constant_is : {store : List ℤ} {m : ℕ} {y z : ℤ} → Evaluates store (Expression.constant m y) z → z ≡ y
constant_is Evaluates.constant = refl

unroll_more : {s : Statement} {e : Expression} {store store' store'' : List ℤ} {k m i j : ℕ} → Evaluates store e (pos (suc k))
    → Unrolled s (Expression.constant m (pos k)) store store' i → Executes store' s store'' j → Unrolled s e store store'' (i + j)
unfolding times
unroll_more {s} {store} {store'} {k} {j} ev u x = record {
  count = pos (suc k);
  counts = ev;
  steps = u.steps + j;
  cost = ap (λ (c : ℕ). c + j) u.cost ∙ suc-add u.steps j;
  ahead = ahead_end (subst (λ z. Ahead s store (times z) store' u.steps) (constant_is u.counts) u.ahead) x;
}

unroll : {s : Statement} {e : Expression} {store store' : List ℤ} {n i : ℕ} → Executes store (Statement.repeat n e s) store' i → Unrolled s e store store' i
unfolding times
unroll (Executes.repeat_zero ev) = record { count = pos 0; counts = ev; steps = 0; cost = refl; ahead = done }
unroll (Executes.repeat_more ev d x) = unroll_more ev (unroll d) x
unroll (Executes.repeat_below {k} ev) = record { count = negsuc k; counts = ev; steps = 0; cost = refl; ahead = done }

-- ---- an accepted run has a derivation

derived_enter : (s : Statement) (store : List ℤ) (node fuel : ℕ) (inside : ℕ → Outcome Done)
    → ((left : ℕ) → Holds (λ d. Executes store s d.store (suc d.steps)) (inside left))
    → Holds (λ d. Executes store s d.store d.steps) (enter node fuel inside)
unfolding enter
derived_enter s store node zero inside h = vacant
derived_enter s store node (suc left) inside h = holds_bind (inside left) _ (h left) λ d x. value x

module _ (types : List Ty) where
  -- a statement's runs from good stores have derivations, and end in good stores
  abbrev Derives : Statement → Type 0
  Derives s = (left : ℕ) (store : List ℤ) → Good types store
      → Holds (λ d. Executes store s d.store d.steps × Good types d.store) (run s left store)

  iterate_derived : (s : Statement) → Derives s → (vs : List ℕ) (n left : ℕ) (store : List ℤ) → Good types store
      → Holds (λ d. Turns s store n d.store d.steps) (iterate (run s) vs n left store)
  unfolding iterate
  iterate_derived s h vs zero left store good = value none
  iterate_derived s h vs (suc n) left store good =
      holds_bind (run s left store) _ (h left store good) λ d p.
      holds_bind (iterate (run s) vs n (left - d.steps) d.store) _ (iterate_derived s h vs n (left - d.steps) d.store p.1) λ r t.
      value (turns_front p.0 t)

  -- with what a run keeps
  derives : (s : Statement) → Typed types s
      → ((fuel : ℕ) (store : List ℤ) → Good types store → Holds (λ d. Executes store s d.store d.steps) (run s fuel store)) → Derives s
  derives s typed h left store good = holds_both (h left store good)
      (holds_map (λ d k. k.good) (run_keeps types (mentions s) s typed (λ v m. m) left store good))

  -- the branch that a truth chooses
  if_derived : (n : ℕ) (e : Expression) (s t : Statement) (store : List ℤ) (x : ℤ) → (x ≡ pos 0) ⊎ (x ≡ pos 1) → Evaluates store e x
      → (left : ℕ) → Derives s → Derives t → Good types store
      → Holds (λ d. Executes store (Statement.if n e s t) d.store (suc d.steps)) (choose (holds x) (run s) (run t) left store)
  unfolding holds
  if_derived n e s t store x (inl q) ev left hs ht good =
      rw q (holds_map (λ d p. Executes.if_false (subst (Evaluates store e) q ev) p.0) (ht left store good))
  if_derived n e s t store x (inr q) ev left hs ht good =
      rw q (holds_map (λ d p. Executes.if_true (subst (Evaluates store e) q ev) p.0) (hs left store good))

  pub run_derived : (s : Statement) → Typed types s → (fuel : ℕ) (store : List ℤ) → Good types store
      → Holds (λ d. Executes store s d.store d.steps) (run s fuel store)
  unfolding run
  run_derived (Statement.skip n) typed fuel store good = derived_enter (Statement.skip n) store n fuel _ λ left. value Executes.skip
  run_derived (Statement.assign n v e) typed fuel store good = derived_enter (Statement.assign n v e) store n fuel _ λ left.
      holds_bind (evaluate e store) _ (value_derived store e) λ x ev. value (Executes.assign ev)
  run_derived (Statement.sequence n s t) typed fuel store good = derived_enter (Statement.sequence n s t) store n fuel _ λ left.
      holds_bind (run s left store) _ (derives s typed.0 (run_derived s typed.0) left store good) λ d p.
      holds_bind (run t (left - d.steps) d.store) _ (run_derived t typed.1 (left - d.steps) d.store p.1) λ f q.
      value (Executes.sequence p.0 q)
  run_derived (Statement.if n e s t) typed fuel store good = derived_enter (Statement.if n e s t) store n fuel _ λ left.
      holds_bind (evaluate e store) _ (holds_both (value_derived store e) (value_typed types store good Ty.truth e typed.0)) λ x p.
      holds_bind (choose (holds x.value) (run s) (run t) left store) _
      (if_derived n e s t store x.value (truth_cases x.value p.1) p.0 left
      (derives s typed.1 (run_derived s typed.1)) (derives t typed.2 (run_derived t typed.2)) good) λ d q.
      value q
  run_derived (Statement.repeat n e s) typed fuel store good = derived_enter (Statement.repeat n e s) store n fuel _ λ left.
      holds_bind (evaluate e store) _ (value_derived store e) λ x ev.
      holds_bind (iterate (run s) (mentions (Statement.repeat n e s)) (times x.value) left store) _
      (iterate_derived s (derives s typed.1 (run_derived s typed.1)) (mentions (Statement.repeat n e s)) (times x.value) left store good) λ d t.
      value (counted_repeat n x.value ev t)

-- ---- a derivation is found by a run

-- the run ends there with so many steps, and some words
abbrev pub Ran : Outcome Done → List ℤ → ℕ → Type 0
Ran m store k = (ws : List ℤ) × (m ≡ accepted (record { store = store; steps = k; words = ws }))

ran_enter : (node k : ℕ) (store : List ℤ) (inside : ℕ → Outcome Done) → ((left : ℕ) → k ≤ left → Ran (inside left) store k)
    → (fuel : ℕ) → suc k ≤ fuel → Ran (enter node fuel inside) store (suc k)
unfolding enter
ran_enter node k store inside h zero le = absurd (omega arith)
ran_enter node k store inside h (suc left) le =
    let r = h left (omega arith) in
    (entry node (suc k) r.0, rw r.1 refl)

iterate_found : (s : Statement) → ((store store' : List ℤ) (k : ℕ) → Executes store s store' k → (fuel : ℕ) → k ≤ fuel → Ran (run s fuel store) store' k)
    → (vs : List ℕ) {store store' : List ℤ} {n k : ℕ} → Ahead s store n store' k → (left : ℕ) → k ≤ left → Ran (iterate (run s) vs n left store) store' k
unfolding iterate
iterate_found s h vs done left le = ([], refl)
iterate_found s h vs (first {store} {store'} {store''} {i} {j} x t) left le =
    let r = h store store' i x left (omega arith) in
    let u = iterate_found s h vs t (left - i) (omega arith) in
    (r.0 ++ (snapshot vs store' ++ u.0), rw (r.1, u.1) refl)

pub derived_run : (s : Statement) (store store' : List ℤ) (k : ℕ) → Executes store s store' k → (fuel : ℕ) → k ≤ fuel → Ran (run s fuel store) store' k
unfolding run holds
derived_run (Statement.skip n) store store' k Executes.skip fuel le = ran_enter n 0 store _ (λ left l. ([], refl)) fuel le
derived_run (Statement.assign n v e) store store' k (Executes.assign {z} ev) fuel le = ran_enter n 0 (set store v z) _
    (λ left l. let x = derived_value ev in (x.0, rw x.1 refl)) fuel le
derived_run (Statement.sequence n s t) store store'' k (Executes.sequence {store'} {i} {j} x y) fuel le = ran_enter n (i + j) store'' _
    (λ left l.
    let a = derived_run s store store' i x left (omega arith) in
    let b = derived_run t store' store'' j y (left - i) (omega arith) in
    (a.0 ++ b.0, rw (a.1, b.1) refl)) fuel le
derived_run (Statement.if n e s t) store store' k (Executes.if_true {i} ev x) fuel le = ran_enter n i store' _
    (λ left l. let c = derived_value ev in let a = derived_run s store store' i x left l in
    (if_words (pos 1) (snapshot (mentions (Statement.if n e s t)) store) (snapshot (mentions (Statement.if n e s t)) store') c.0 a.0, rw (c.1, a.1) refl)) fuel le
derived_run (Statement.if n e s t) store store' k (Executes.if_false {i} ev x) fuel le = ran_enter n i store' _
    (λ left l. let c = derived_value ev in let a = derived_run t store store' i x left l in
    (if_words (pos 0) (snapshot (mentions (Statement.if n e s t)) store) (snapshot (mentions (Statement.if n e s t)) store') c.0 a.0, rw (c.1, a.1) refl)) fuel le
derived_run (Statement.repeat n e s) store store' k x fuel le =
    let u = unroll x in
    let c = derived_value u.counts in
    let vs = mentions (Statement.repeat n e s) in
    subst (Ran (run (Statement.repeat n e s) fuel store) store') (sym u.cost)
    (ran_enter n u.steps store' _
    (λ left l. let a = iterate_found s (derived_run s) vs u.ahead left l in
    (repeat_words u.count (snapshot vs store) c.0 a.0, rw (c.1, a.1) refl)) fuel (subst (λ m. m ≤ fuel) u.cost le))
