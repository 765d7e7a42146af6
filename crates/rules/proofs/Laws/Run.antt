-- Laws of the run. `run_alike`: stores that agree on the mentioned variables run alike, with the same words and steps.
-- `run_costs`: an accepted run has the steps that it needs; with as many or more left it ends the same, with fewer it is 9.
-- Each goes through the statement's kinds; a law for each way of putting runs together keeps the cases to a few lines.
-- Assumes nothing.
use Rattle.std.specs.Prelude.{◌≡◌, refl, Bool, true, false, ℤ}
use Rattle.std.proofs.Common.{subst, arith, lt_of_not-le}
use Rattle.std.proofs.Math.Path.{ap, ap₂}
use Prim.Native.Nat.{ℕ, zero, suc, ◌+◌, ◌-◌, ◌≤◌, ◌<◌}
use Rattle.std.proofs.Math.Decide.{dec_le}
use mathlib.Core.List.Memᴰ
use mathlib.Core.List.{List, ◌++◌}
use Rattle.rules.specs.Outcome.{Outcome, accepted, refused, ◌>>=◌, choose, fuel_spent}
use Rattle.rules.specs.Tree.{Expression, constant, variable, operation, Statement, skip, assign, sequence, if, repeat, reads, mentions}
use Rattle.rules.specs.Run.{Done, evaluate, entry, enter, holds, times, iterate, if_words, repeat_words, run}
use Rattle.rules.proofs.Laws.Outcome.{Holds, value, vacant, holds_bind, Alike, values, refusals, alike_bind, alike_after}
use Rattle.rules.proofs.Laws.Store.{Agree, agree_part, snapshot_agree, agree_set}
use Rattle.rules.proofs.Laws.Mentions.{◌⊆◌, union_left, union_right, sequence_first, sequence_second, if_condition, if_then, if_else, repeat_count, repeat_body, assign_expression}

-- ---- stores that agree on what is read

pub evaluate_agree : (e : Expression) (store other : List ℤ) → Agree (reads e) store other → evaluate e store ≡ evaluate e other
unfolding evaluate reads
evaluate_agree (constant n z) store other h = refl
evaluate_agree (variable n v) store other h = rw (h.on v (Memᴰ.head refl))
evaluate_agree (operation n o a b) store other h =
    rw (
      evaluate_agree a store other (agree_part (union_left (reads a) (reads b)) h),
      evaluate_agree b store other (agree_part (union_right (reads a) (reads b)) h),
    ) refl

-- two ends of one run from stores that agree
pub record Same (vs : List ℕ) (d f : Done) : Type 0 where
  pub steps : d.steps ≡ f.steps
  pub words : d.words ≡ f.words
  pub agree : Agree vs d.store f.store

if_same : (z : ℤ) (test : List ℤ) {b b' a a' w w' : List ℤ} → b ≡ b' → a ≡ a' → w ≡ w' → if_words z b a test w ≡ if_words z b' a' test w'
if_same z test p q r = rw (p, q, r)

repeat_same : (z : ℤ) (count : List ℤ) {b b' w w' : List ℤ} → b ≡ b' → w ≡ w' → repeat_words z b count w ≡ repeat_words z b' count w'
repeat_same z count p q = rw (p, q)

module _ (vs : List ℕ) where
  -- a function of the steps left and the store goes alike from stores that agree
  abbrev pub Goes : (ℕ → List ℤ → Outcome Done) → Type 0
  Goes body = (left : ℕ) (store other : List ℤ) → Agree vs store other → Alike (Same vs) (body left store) (body left other)

  goes_enter : (node : ℕ) (one two : ℕ → Outcome Done) → ((left : ℕ) → Alike (Same vs) (one left) (two left))
      → (fuel : ℕ) → Alike (Same vs) (enter node fuel one) (enter node fuel two)
  unfolding enter entry
  goes_enter node one two h zero = refusals
  goes_enter node one two h (suc left) = alike_bind (one left) (two left) _ _ (h left) λ d f q.
      values (record {
        steps = ap suc q.steps;
        words = ap₂ {C = List ℤ} (λ k ws. entry node (suc k) ws) q.steps q.words;
        agree = q.agree;
      })

  -- one after the other: the second gets the steps that the first left
  goes_then : (second : ℕ → List ℤ → Outcome Done) → Goes second → (left : ℕ) (d f : Done) → Same vs d f
      → Alike (Same vs) (second (left - d.steps) d.store) (second (left - f.steps) f.store)
  goes_then second h left d f q =
      subst (λ k. Alike (Same vs) (second (left - d.steps) d.store) (second (left - k) f.store)) q.steps
      (h (left - d.steps) d.store f.store q.agree)

  pub goes_iterate : (body : ℕ → List ℤ → Outcome Done) (ws : List ℕ) → ws ⊆ vs → Goes body → (n : ℕ) → Goes (iterate body ws n)
  unfolding iterate
  goes_iterate body ws sub h zero left store other agree = values (record { steps = refl; words = refl; agree = agree })
  goes_iterate body ws sub h (suc n) left store other agree =
      alike_bind (body left store) (body left other) _ _ (h left store other agree) λ d f q.
      alike_bind (iterate body ws n (left - d.steps) d.store) (iterate body ws n (left - f.steps) f.store) _ _
      (goes_then (iterate body ws n) (goes_iterate body ws sub h n) left d f q) λ r t p.
      values (record {
        steps = ap₂ {C = ℕ} (λ i j. i + j) q.steps p.steps;
        words = ap₂ {C = List ℤ} (λ a b. a ++ b) q.words
            (ap₂ {C = List ℤ} (λ a b. a ++ b) (snapshot_agree ws d.store f.store (agree_part sub q.agree)) p.words);
        agree = p.agree;
      })

  pub goes_choose : (b : Bool) (one two : ℕ → List ℤ → Outcome Done) → Goes one → Goes two → Goes (choose b one two)
  goes_choose true one two h k = h
  goes_choose false one two h k = k

  pub run_alike : (s : Statement) → mentions s ⊆ vs → Goes (run s)
  unfolding run
  run_alike (skip n) sub fuel store other agree =
      goes_enter n _ _ (λ left. values (record { steps = refl; words = refl; agree = agree })) fuel
  run_alike (assign n v e) sub fuel store other agree =
      rw (evaluate_agree e store other (agree_part (λ u m. sub u (assign_expression n e (skip n) v u m)) agree))
      (goes_enter n _ _ (λ left. alike_after (evaluate e other) _ _ λ x.
      values (record { steps = refl; words = refl; agree = agree_set v x.value agree })) fuel)
  run_alike (sequence n s t) sub fuel store other agree =
      goes_enter n _ _ (λ left.
      alike_bind (run s left store) (run s left other) _ _
      (run_alike s (λ v m. sub v (sequence_first n s t v m)) left store other agree) λ d f q.
      alike_bind (run t (left - d.steps) d.store) (run t (left - f.steps) f.store) _ _
      (goes_then (run t) (run_alike t (λ v m. sub v (sequence_second n s t v m))) left d f q) λ g h p.
      values (record {
        steps = ap₂ {C = ℕ} (λ i j. i + j) q.steps p.steps;
        words = ap₂ {C = List ℤ} (λ a b. a ++ b) q.words p.words;
        agree = p.agree;
      })) fuel
  run_alike (if n e s t) sub fuel store other agree =
      rw (evaluate_agree e store other (agree_part (λ u m. sub u (if_condition n e s t u m)) agree))
      (goes_enter n _ _ (λ left. alike_after (evaluate e other) _ _ λ x.
      alike_bind (choose (holds x.value) (run s) (run t) left store) (choose (holds x.value) (run s) (run t) left other) _ _
      (goes_choose (holds x.value) (run s) (run t)
      (run_alike s (λ v m. sub v (if_then n e s t v m)))
      (run_alike t (λ v m. sub v (if_else n e s t v m))) left store other agree) λ d f q.
      values (record {
        steps = q.steps;
        words = if_same x.value x.words
            (snapshot_agree (mentions (if n e s t)) store other (agree_part sub agree))
            (snapshot_agree (mentions (if n e s t)) d.store f.store (agree_part sub q.agree))
            q.words;
        agree = q.agree;
      })) fuel)
  run_alike (repeat n e s) sub fuel store other agree =
      rw (evaluate_agree e store other (agree_part (λ u m. sub u (repeat_count n e s u m)) agree))
      (goes_enter n _ _ (λ left. alike_after (evaluate e other) _ _ λ x.
      alike_bind (iterate (run s) (mentions (repeat n e s)) (times x.value) left store)
      (iterate (run s) (mentions (repeat n e s)) (times x.value) left other) _ _
      (goes_iterate (run s) (mentions (repeat n e s)) sub
      (run_alike s (λ v m. sub v (repeat_body n e s v m))) (times x.value) left store other agree) λ d f q.
      values (record {
        steps = q.steps;
        words = repeat_same x.value x.words
            (snapshot_agree (mentions (repeat n e s)) store other (agree_part sub agree)) q.words;
        agree = q.agree;
      })) fuel)

-- ---- fuel

-- an end that a function of the steps left comes to: with as many steps left as it took or more it comes to the same, with
-- fewer it is refused for fuel
pub record Costs (g : ℕ → Outcome Done) (d : Done) : Type 0 where
  pub enough : (k : ℕ) → d.steps ≤ k → g k ≡ accepted d
  pub short : (k : ℕ) → k < d.steps → g k ≡ refused fuel_spent

-- each of its ends is such an end
abbrev pub Fuelled : (ℕ → Outcome Done) → Type 0
Fuelled g = (fuel : ℕ) → Holds (Costs g) (g fuel)

-- one order or the other
pub split : {X : Type 0} (a b : ℕ) → (a ≤ b → X) → (b < a → X) → X
split a b f g = elim (dec_le a b) [ yes h ↦ f h | no h ↦ g (lt_of_not-le h) ]

fuelled_enter : (node : ℕ) (inside : ℕ → Outcome Done) → Fuelled inside → Fuelled (λ k. enter node k inside)
unfolding enter
fuelled_enter node inside h zero = vacant
fuelled_enter node inside h (suc left) = holds_bind (inside left) _ (h left) λ d c.
    value (record { enough = enough d c; short = short d c })
  where
    closed : Done → Done
    closed d = record { store = d.store; steps = suc d.steps; words = entry node (suc d.steps) d.words }

    enough : (d : Done) → Costs inside d → (k : ℕ) → suc d.steps ≤ k → enter node k inside ≡ accepted (closed d)
    enough d c zero le = absurd (omega arith)
    enough d c (suc k) le = rw (c.enough k (omega arith))

    short : (d : Done) → Costs inside d → (k : ℕ) → k < suc d.steps → enter node k inside ≡ refused fuel_spent
    short d c zero lt = refl
    short d c (suc k) lt = rw (c.short k (omega arith))

-- what is made of an end, with the same steps
fuelled_map : (g : ℕ → Outcome Done) (made : Done → Done) → ((d : Done) → (made d).steps ≡ d.steps) → Fuelled g
    → Fuelled (λ k. g k >>= λ d. accepted (made d))
fuelled_map g made same h fuel = holds_bind (g fuel) _ (h fuel) λ d c. value (record {
  enough = λ k le. rw (c.enough k (omega (arith, same d))) refl;
  short = λ k lt. rw (c.short k (omega (arith, same d))) refl;
})

-- what needs no fuel first
fuelled_after : {A : Type 0} (m : Outcome A) (g : A → ℕ → Outcome Done) → ((a : A) → Fuelled (g a)) → Fuelled (λ k. m >>= λ a. g a k)
fuelled_after (accepted a) g h fuel = h a fuel
fuelled_after (refused r) g h fuel = vacant

-- one after the other: the second gets the steps that the first left
fuelled_then : (g : ℕ → Outcome Done) (second : Done → ℕ → Outcome Done) (joined : Done → Done → Done)
    → ((d f : Done) → (joined d f).steps ≡ d.steps + f.steps) → Fuelled g → ((d : Done) → Fuelled (second d))
    → Fuelled (λ k. g k >>= λ d. second d (k - d.steps) >>= λ f. accepted (joined d f))
fuelled_then g second joined sum h h₂ fuel =
    holds_bind (g fuel) _ (h fuel) λ d c. holds_bind (second d (fuel - d.steps)) _ (h₂ d (fuel - d.steps)) λ f e.
    value (record { enough = enough d c f e; short = short d c f e })
  where
    both : ℕ → Outcome Done
    both k = g k >>= λ d. second d (k - d.steps) >>= λ f. accepted (joined d f)

    enough : (d : Done) → Costs g d → (f : Done) → Costs (second d) f → (k : ℕ) → (joined d f).steps ≤ k → both k ≡ accepted (joined d f)
    enough d c f e k le = rw (c.enough k (omega (arith, sum d f)), e.enough (k - d.steps) (omega (arith, sum d f))) refl

    short : (d : Done) → Costs g d → (f : Done) → Costs (second d) f → (k : ℕ) → k < (joined d f).steps → both k ≡ refused fuel_spent
    short d c f e k lt = split d.steps k
        (λ le. rw (c.enough k le, e.short (k - d.steps) (omega (arith, sum d f))) refl)
        (λ less. rw (c.short k less) refl)

pub fuelled_iterate : (body : ℕ → List ℤ → Outcome Done) (vs : List ℕ) → ((store : List ℤ) → Fuelled (λ k. body k store))
    → (n : ℕ) (store : List ℤ) → Fuelled (λ k. iterate body vs n k store)
unfolding iterate
fuelled_iterate body vs h zero store fuel = value (record { enough = λ k le. refl; short = λ k lt. absurd (omega arith) })
fuelled_iterate body vs h (suc n) store fuel =
    fuelled_then (λ k. body k store) (λ d k. iterate body vs n k d.store) _ (λ d f. refl) (h store)
    (λ d. fuelled_iterate body vs h n d.store) fuel

fuelled_choose : (b : Bool) (one two : ℕ → List ℤ → Outcome Done) (store : List ℤ)
    → Fuelled (λ k. one k store) → Fuelled (λ k. two k store) → Fuelled (λ k. choose b one two k store)
fuelled_choose true one two store h k = h
fuelled_choose false one two store h k = k

pub run_costs : (s : Statement) (store : List ℤ) → Fuelled (λ k. run s k store)
unfolding run
run_costs (skip n) store fuel =
    fuelled_enter n _ (λ k. value (record { enough = λ k le. refl; short = λ k lt. absurd (omega arith) })) fuel
run_costs (assign n v e) store fuel = fuelled_enter n _
    (fuelled_after (evaluate e store) _ λ x k. value (record { enough = λ k le. refl; short = λ k lt. absurd (omega arith) })) fuel
run_costs (sequence n s t) store fuel = fuelled_enter n _
    (fuelled_then (λ k. run s k store) (λ d k. run t k d.store) _ (λ d f. refl) (run_costs s store) (λ d. run_costs t d.store)) fuel
run_costs (if n e s t) store fuel = fuelled_enter n _
    (fuelled_after (evaluate e store) _ λ x.
    fuelled_map (λ k. choose (holds x.value) (run s) (run t) k store) _ (λ d. refl)
    (fuelled_choose (holds x.value) (run s) (run t) store (run_costs s store) (run_costs t store))) fuel
run_costs (repeat n e s) store fuel = fuelled_enter n _
    (fuelled_after (evaluate e store) _ λ x.
    fuelled_map (λ k. iterate (run s) (mentions (repeat n e s)) (times x.value) k store) _ (λ d. refl)
    (fuelled_iterate (run s) (mentions (repeat n e s)) (run_costs s) (times x.value) store)) fuel
