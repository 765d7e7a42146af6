-- Laws of outcomes: what holds of a value if there is one (`Holds`), and that two computations go alike (`Alike`): both accepted
-- with related values, or both refused for the same reason. Each law follows `>>=`, so that a proof about a `do` block goes
-- line by line.
-- Assumes nothing.
use Rattle.std.specs.Prelude.{◌≡◌, refl, ℕ, Bool, true, false}
use Rattle.std.proofs.Common.{subst, arith}
use Rattle.rules.specs.Outcome.{Refusal, Outcome, accepted, refused, ◌>>=◌, need}

-- ---- P of the value, if accepted

pub data Holds {A : Type 0} (P : A → Type 0) : Outcome A → Type 0 where
  value : {a : A} → P a → Holds P (accepted a)
  vacant : {r : Refusal} → Holds P (refused r)

-- the value first, so that its fact may be searched for
pub holds_here : {A : Type 0} {P : A → Type 0} (a : A) → P a → Holds P (accepted a)
holds_here a p = value p

pub holds_bind : {A B : Type 0} {P : A → Type 0} {Q : B → Type 0} (m : Outcome A) (next : A → Outcome B)
    → Holds P m → ((a : A) → P a → Holds Q (next a)) → Holds Q (m >>= next)
holds_bind m next (value p) step = step _ p
holds_bind m next vacant step = vacant

-- what a passed test leaves
pub holds_need : {B : Type 0} {Q : B → Type 0} (b : Bool) (r : Refusal) (next : Unit {0} → Outcome B)
    → (b ≡ true → Holds Q (next tt)) → Holds Q (need b r >>= next)
holds_need true r next step = step refl
holds_need false r next step = vacant

pub holds_both : {A : Type 0} {P Q : A → Type 0} {m : Outcome A} → Holds P m → Holds Q m → Holds (λ a. P a × Q a) m
holds_both (value p) (value q) = value (p, q)
holds_both vacant vacant = vacant

pub holds_map : {A : Type 0} {P Q : A → Type 0} {m : Outcome A} → ((a : A) → P a → Q a) → Holds P m → Holds Q m
holds_map f (value p) = value (f _ p)
holds_map f vacant = vacant

-- it holds of a value that is there
pub holds_of : {A : Type 0} {P : A → Type 0} {a : A} → Holds P (accepted a) → P a
holds_of (value p) = p

-- to show it, the value may be taken as known
pub holds_if : {A : Type 0} {P : A → Type 0} (m : Outcome A) → ((a : A) → m ≡ accepted a → P a) → Holds P m
holds_if (accepted a) f = value (f a refl)
holds_if (refused r) f = vacant

-- for every i
pub holds_all : {A I : Type 0} {P : I → A → Type 0} (m : Outcome A) → ((i : I) → Holds (P i) m) → Holds (λ a. (i : I) → P i a) m
holds_all (accepted a) h = value (λ i. holds_of (h i))
holds_all (refused r) h = vacant

-- what holds whatever the value is
pub holds_const : {A P : Type 0} (m : Outcome A) → P → Holds (λ a. P) m
holds_const (accepted a) p = value p
holds_const (refused r) p = vacant

-- nothing in particular
pub holds_any : {A : Type 0} (m : Outcome A) → Holds (λ a. Unit {0}) m
holds_any (accepted a) = value tt
holds_any (refused r) = vacant

-- what holds of an outcome holds of its value
pub holds_at : {A : Type 0} {P : A → Type 0} {m : Outcome A} {a : A} → m ≡ accepted a → Holds P m → P a
holds_at {P} e h = holds_of (subst (Holds P) e h)

-- ---- what an accepted do block went through

pub refused_accepted : {A : Type 0} {a : A} {r : Refusal} → refused r ≡ accepted a → ⊥
refused_accepted e = let z : ◌≡◌ {A = ℕ} 0 1 = cc in omega arith

pub accepted_of : {A : Type 0} {a b : A} → accepted a ≡ accepted b → a ≡ b
accepted_of e = cc

pub record Through {A B : Type 0} (m : Outcome A) (next : A → Outcome B) (b : B) : Type 0 where
  pub value : A
  pub comes : m ≡ accepted value
  pub goes : next value ≡ accepted b

pub through : {A B : Type 0} (m : Outcome A) (next : A → Outcome B) (b : B) → (m >>= next) ≡ accepted b → Through m next b
through (accepted a) next b e = record { value = a; comes = refl; goes = e }
through (refused r) next b e = absurd (refused_accepted e)

-- ---- one do block behind another

pub bind_assoc : {A B C : Type 0} (m : Outcome A) (f : A → Outcome B) (g : B → Outcome C) → (m >>= f >>= g) ≡ (m >>= λ a. f a >>= g)
bind_assoc (accepted a) f g = refl
bind_assoc (refused r) f g = refl

-- the same first, and alike from there on
pub bind_same : {A B : Type 0} (m : Outcome A) (f g : A → Outcome B) → ((a : A) → f a ≡ g a) → (m >>= f) ≡ (m >>= g)
bind_same (accepted a) f g e = e a
bind_same (refused r) f g e = refl

-- ---- two computations go alike

pub data Alike {A B : Type 0} (R : A → B → Type 0) : Outcome A → Outcome B → Type 0 where
  values : {a : A} {b : B} → R a b → Alike R (accepted a) (accepted b)
  refusals : {r : Refusal} → Alike R (refused r) (refused r)

pub alike_bind : {A B C D : Type 0} {R : A → B → Type 0} {S : C → D → Type 0} (m : Outcome A) (n : Outcome B)
    (f : A → Outcome C) (g : B → Outcome D)
    → Alike R m n → ((a : A) (b : B) → R a b → Alike S (f a) (g b)) → Alike S (m >>= f) (n >>= g)
alike_bind m n f g (values h) step = step _ _ h
alike_bind m n f g refusals step = refusals

-- the same test on both sides
pub alike_need : {C D : Type 0} {S : C → D → Type 0} (b : Bool) (r : Refusal) (f : Unit {0} → Outcome C) (g : Unit {0} → Outcome D)
    → (b ≡ true → Alike S (f tt) (g tt)) → Alike S (need b r >>= f) (need b r >>= g)
alike_need true r f g step = step refl
alike_need false r f g step = refusals

-- with what holds of the left value
pub alike_with : {A B : Type 0} {R : A → B → Type 0} {P : A → Type 0} {m : Outcome A} {n : Outcome B}
    → Holds P m → Alike R m n → Alike (λ a b. P a × R a b) m n
alike_with (value p) (values h) = values (p, h)
alike_with vacant refusals = refusals

pub alike_map : {A B : Type 0} {R S : A → B → Type 0} {m : Outcome A} {n : Outcome B}
    → ((a : A) (b : B) → R a b → S a b) → Alike R m n → Alike S m n
alike_map f (values h) = values (f _ _ h)
alike_map f refusals = refusals

-- the same computation first on both sides
pub alike_after : {A C D : Type 0} {S : C → D → Type 0} (m : Outcome A) (f : A → Outcome C) (g : A → Outcome D)
    → ((a : A) → Alike S (f a) (g a)) → Alike S (m >>= f) (m >>= g)
alike_after (accepted a) f g step = step a
alike_after (refused r) f g step = refusals

-- the right side goes on alone
pub alike_then : {A B D : Type 0} {R : A → B → Type 0} {S : A → D → Type 0} (m : Outcome A) (n : Outcome B) (g : B → Outcome D)
    → Alike R m n → ((a : A) (b : B) → R a b → Alike S (accepted a) (g b)) → Alike S m (n >>= g)
alike_then m n g (values h) step = step _ _ h
alike_then m n g refusals step = refusals
