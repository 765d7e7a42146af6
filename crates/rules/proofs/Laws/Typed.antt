-- Typed trees: what the table check gives of a program, and that a run keeps every value in its type, leaves the variables that
-- it does not mention alone, and keeps the store's length.
-- Assumes nothing.
use Rattle.std.specs.Prelude.{◌≡◌, refl, ◌⊎◌, Bool, true, false, List, [], ◌∷◌, length, set, ℤ, pos}
use Rattle.std.proofs.Common.{sym, ap, ◌∙◌, subst, inl, inr, length-set, get_or-set_other}
use Prim.Native.Nat.{ℕ, zero, suc, ◌-◌}
use Rattle.rules.specs.Outcome.{Refusal, Outcome, choose, out_of_range}
use Rattle.rules.specs.Value.{Ty, in_type, at, type_of}
use Rattle.rules.specs.Tree.{Operator, Expression, constant, variable, operation, Statement, skip, assign, sequence, if, repeat, gives, apply, mentions}
use Rattle.rules.specs.Run.{Done, compute, evaluate, enter, holds, times, iterate, run}
use Rattle.rules.proofs.Laws.Outcome.{Holds, value, vacant, holds_bind, holds_need}
use Rattle.rules.proofs.Laws.Store.{Good}
use Rattle.rules.proofs.Laws.Mentions.{◌∈◌, ◌⊆◌, sequence_first, sequence_second, if_then, if_else, repeat_body, assign_variable}

-- ---- typed trees

abbrev pub TypedAs : List Ty → Ty → Expression → Type 0
TypedAs types t (constant n z) = in_type t z ≡ true
TypedAs types t (variable n v) = type_of types v ≡ t
TypedAs types t (operation n o a b) = TypedAs types Ty.number a × TypedAs types Ty.number b × (gives o ≡ t)

abbrev pub Typed : List Ty → Statement → Type 0
Typed types (skip n) = Unit {0}
Typed types (assign n v e) = TypedAs types (type_of types v) e
Typed types (sequence n s t) = Typed types s × Typed types t
Typed types (if n e s t) = TypedAs types Ty.truth e × Typed types s × Typed types t
Typed types (repeat n e s) = TypedAs types Ty.number e × Typed types s

-- ---- an expression's value is of its type

-- an operator's result, where it is accepted
pub computed : (r : Refusal) (o : Operator) (x y : ℤ)
    → Holds (λ z. (z ≡ apply o x y) × (in_type (gives o) (apply o x y) ≡ true)) (compute r o x y)
unfolding compute
computed r o x y = holds_need (in_type (gives o) (apply o x y)) r _ λ e. value (refl, e)

module _ (types : List Ty) (store : List ℤ) (good : Good types store) where
  pub value_typed : (t : Ty) (e : Expression) → TypedAs types t e → Holds (λ x. in_type t x.value ≡ true) (evaluate e store)
  unfolding evaluate
  value_typed t (constant n z) h = value h
  value_typed t (variable n v) h = value (rw h at (good v))
  value_typed t (operation n o a b) h =
      holds_bind (evaluate a store) _ (value_typed Ty.number a h.0) λ l hl.
      holds_bind (evaluate b store) _ (value_typed Ty.number b h.1) λ r hr.
      holds_bind (compute out_of_range o l.value r.value) _ (computed out_of_range o l.value r.value) λ z hz.
      value (rw (hz.0, ← h.2) hz.1)

-- ---- what a run keeps

pub record Kept (types : List Ty) (vs : List ℕ) (store end : List ℤ) : Type 0 where
  pub long : length end ≡ length store
  pub outside : (v : ℕ) → (v ∈ vs → ⊥) → at end v ≡ at store v
  pub good : Good types end

at_set : (store : List ℤ) (v : ℕ) (z : ℤ) (w : ℕ) → (at (set store v z) w ≡ at store w) ⊎ ((w ≡ v) × (at (set store v z) w ≡ z))
at_set [] v z w = inl refl
at_set (y ∷ ys) zero z zero = inr (refl, refl)
at_set (y ∷ ys) zero z (suc w) = inl refl
at_set (y ∷ ys) (suc v) z zero = inl refl
at_set (y ∷ ys) (suc v) z (suc w) = further (at_set ys v z w)
  where
    further : (at (set ys v z) w ≡ at ys w) ⊎ ((w ≡ v) × (at (set ys v z) w ≡ z))
        → (at (set ys v z) w ≡ at ys w) ⊎ ((suc w ≡ suc v) × (at (set ys v z) w ≡ z))
    further (inl e) = inl e
    further (inr e) = inr (ap suc e.0, e.1)

module _ (types : List Ty) (vs : List ℕ) where
  pub kept_self : (store : List ℤ) → Good types store → Kept types vs store store
  kept_self store good = record { long = refl; outside = λ v n. refl; good = good }

  pub kept_then : {store between end : List ℤ} → Kept types vs store between → Kept types vs between end → Kept types vs store end
  kept_then k l = record { long = l.long ∙ k.long; outside = λ v n. l.outside v n ∙ k.outside v n; good = l.good }

  pub kept_set : (store : List ℤ) (v : ℕ) (z : ℤ) → Good types store → v ∈ vs → in_type (type_of types v) z ≡ true → Kept types vs store (set store v z)
  kept_set store v z good m h = record {
    long = length-set store v z;
    outside = λ w n. get_or-set_other store v w z (pos 0) (λ e. n (subst (λ u. u ∈ vs) (sym e) m));
    good = λ w. still w (at_set store v z w);
  }
    where
      still : (w : ℕ) → (at (set store v z) w ≡ at store w) ⊎ ((w ≡ v) × (at (set store v z) w ≡ z)) → in_type (type_of types w) (at (set store v z) w) ≡ true
      still w (inl e) = rw e (good w)
      still w (inr e) = rw (e.1, e.0) h

  -- a function of the steps left and the store keeps what a run keeps
  abbrev pub Keeps : (ℕ → List ℤ → Outcome Done) → Type 0
  Keeps body = (left : ℕ) (store : List ℤ) → Good types store → Holds (λ d. Kept types vs store d.store) (body left store)

  keeps_enter : (node : ℕ) (store : List ℤ) (inside : ℕ → Outcome Done)
      → ((left : ℕ) → Holds (λ d. Kept types vs store d.store) (inside left))
      → (fuel : ℕ) → Holds (λ d. Kept types vs store d.store) (enter node fuel inside)
  unfolding enter
  keeps_enter node store inside h zero = vacant
  keeps_enter node store inside h (suc left) = holds_bind (inside left) _ (h left) λ d k. value k

  pub keeps_iterate : (body : ℕ → List ℤ → Outcome Done) (ws : List ℕ) → Keeps body → (n : ℕ) → Keeps (iterate body ws n)
  unfolding iterate
  keeps_iterate body ws h zero left store good = value (kept_self store good)
  keeps_iterate body ws h (suc n) left store good =
      holds_bind (body left store) _ (h left store good) λ d k.
      holds_bind (iterate body ws n (left - d.steps) d.store) _ (keeps_iterate body ws h n (left - d.steps) d.store k.good) λ r l.
      value (kept_then k l)

  pub keeps_choose : (b : Bool) (one two : ℕ → List ℤ → Outcome Done) → Keeps one → Keeps two → Keeps (choose b one two)
  keeps_choose true one two h k = h
  keeps_choose false one two h k = k

  pub run_keeps : (s : Statement) → Typed types s → mentions s ⊆ vs → Keeps (run s)
  unfolding run
  run_keeps (skip n) typed sub fuel store good = keeps_enter n store _ (λ left. value (kept_self store good)) fuel
  run_keeps (assign n v e) typed sub fuel store good = keeps_enter n store _
      (λ left. holds_bind (evaluate e store) _ (value_typed types store good (type_of types v) e typed) λ x h.
      value (kept_set store v x.value good (sub v (assign_variable n e (skip n) v)) h)) fuel
  run_keeps (sequence n s t) typed sub fuel store good = keeps_enter n store _
      (λ left.
      holds_bind (run s left store) _ (run_keeps s typed.0 (λ v m. sub v (sequence_first n s t v m)) left store good) λ d k.
      holds_bind (run t (left - d.steps) d.store) _
      (run_keeps t typed.1 (λ v m. sub v (sequence_second n s t v m)) (left - d.steps) d.store k.good) λ f l.
      value (kept_then k l)) fuel
  run_keeps (if n e s t) typed sub fuel store good = keeps_enter n store _
      (λ left.
      holds_bind (evaluate e store) _ (value_typed types store good Ty.truth e typed.0) λ x h.
      holds_bind (choose (holds x.value) (run s) (run t) left store) _
      (keeps_choose (holds x.value) (run s) (run t)
      (run_keeps s typed.1 (λ v m. sub v (if_then n e s t v m)))
      (run_keeps t typed.2 (λ v m. sub v (if_else n e s t v m))) left store good) λ d k.
      value k) fuel
  run_keeps (repeat n e s) typed sub fuel store good = keeps_enter n store _
      (λ left.
      holds_bind (evaluate e store) _ (value_typed types store good Ty.number e typed.0) λ x h.
      holds_bind (iterate (run s) (mentions (repeat n e s)) (times x.value) left store) _
      (keeps_iterate (run s) (mentions (repeat n e s))
      (run_keeps s typed.1 (λ v m. sub v (repeat_body n e s v m))) (times x.value) left store good) λ d k.
      value k) fuel
