-- A definition's outcome and the answer of the code: both have a value and P holds of the two, or both are refused for one reason.
-- Every contract of a step that can refuse says so, and these laws take such an answer apart.
-- Assumes nothing.
use Rattle.std.specs.Prelude.{◌≡◌, Result, Ok, Err}
use Rattle.std.proofs.Math.Path.{refl, sym, subst}
use Rattle.rules.specs.Outcome.{Outcome, accepted, refused, ◌>>=◌}
use Rattle.rules.specs.Outcome as Paper
use Rattle.table.specs.declared.answer.Refusal.{Refusal}
use Rattle.table.specs.Paper.{refusal_for}

pub data Agrees {A B : Type 0} (P : A → B → Type 0) : Outcome A → Result B Refusal → Type 0 where
  both : {a : A} {b : B} → P a b → Agrees P (accepted a) (Ok b)
  neither : {p : Paper.Refusal} {q : Refusal} → q ≡ refusal_for p → Agrees P (refused p) (Err q)

-- the value of a definition whose code has answered with a value
pub record Accepts {A B : Type 0} (P : A → B → Type 0) (m : Outcome A) (b : B) : Type 0 where
  pub value : A
  pub comes : m ≡ accepted value
  pub holds : P value b

-- and the reason of one whose code is refused
pub record Refuses {A : Type 0} (m : Outcome A) (q : Refusal) : Type 0 where
  pub reason : Paper.Refusal
  pub comes : m ≡ refused reason
  pub is : q ≡ refusal_for reason

accepts_at : {A B : Type 0} {P : A → B → Type 0} {m : Outcome A} {b : B} → Agrees P m (Ok b) → Accepts P m b
accepts_at (both {a} {b} h) = record { value = a; comes = refl; holds = h }

pub accepts : {A B : Type 0} {P : A → B → Type 0} {m : Outcome A} {r : Result B Refusal} {b : B} → Agrees P m r → r ≡ Ok b → Accepts P m b
accepts {A} {B} {P} {m} h e = accepts_at (subst (Agrees P m) e h)

refuses_at : {A B : Type 0} {P : A → B → Type 0} {m : Outcome A} {q : Refusal} → Agrees P m (Err q) → Refuses m q
refuses_at (neither {p} {q} h) = record { reason = p; comes = refl; is = h }

pub refuses : {A B : Type 0} {P : A → B → Type 0} {m : Outcome A} {r : Result B Refusal} {q : Refusal} → Agrees P m r → r ≡ Err q → Refuses m q
refuses {A} {B} {P} {m} h e = refuses_at (subst (Agrees P m) e h)

-- what is accepted with a value agrees with an answer that has one
pub agrees_ok : {A B : Type 0} {P : A → B → Type 0} {m : Outcome A} {a : A} {b : B} → m ≡ accepted a → P a b → Agrees P m (Ok b)
agrees_ok {A} {B} {P} {m} {a} {b} e h = subst (λ (n : Outcome A). Agrees P n (Ok b)) (sym e) (both h)

-- and what is refused for a reason with the code's refusal for it
pub agrees_err : {A B : Type 0} {P : A → B → Type 0} {m : Outcome A} {p : Paper.Refusal} {q : Refusal} → m ≡ refused p → q ≡ refusal_for p → Agrees P m (Err q)
agrees_err {A} {B} {P} {m} {p} {q} e h = subst (λ (n : Outcome A). Agrees P n (Err q)) (sym e) (neither h)

handed : {A B C D : Type 0} {P : A → B → Type 0} {Q : C → D → Type 0} {m : Outcome A} (next : A → Outcome C) {q : Refusal}
    → Agrees P m (Err q) → Agrees Q (m >>= next) (Err q)
handed next (neither h) = neither h

-- a refusal is handed up unchanged
pub handed_up : {A B C D : Type 0} {P : A → B → Type 0} {Q : C → D → Type 0} {m : Outcome A} (next : A → Outcome C) {r : Result B Refusal} {q : Refusal}
    → Agrees P m r → r ≡ Err q → Agrees Q (m >>= next) (Err q)
handed_up {A} {B} {C} {D} {P} {Q} {m} next h e = handed next (subst (Agrees P m) e h)
