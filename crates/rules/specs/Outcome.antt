-- "Refusal numbers": the reasons for a refusal, the paper's number of each, and the outcome of anything that can refuse.
-- A computation ends `accepted` with a value or `refused` with the first reason met; `need` states one fact.
-- Assumes nothing.
use Rattle.std.specs.Prelude.{ℕ, Bool, true, false}

-- in the order of the document's table
pub data Refusal : Type 0 where
  header_wrong : Refusal
  type_wrong : Refusal
  node_wrong : Refusal
  use_wrong : Refusal
  too_deep : Refusal
  store_wrong : Refusal
  limit_wrong : Refusal
  out_of_range : Refusal
  fuel_spent : Refusal
  room_short : Refusal
  change_wrong : Refusal
  broken : Refusal

-- the paper's number
unfoldable pub paper_number : Refusal → ℕ
paper_number header_wrong = 1
paper_number type_wrong = 2
paper_number node_wrong = 3
paper_number use_wrong = 4
paper_number too_deep = 5
paper_number store_wrong = 6
paper_number limit_wrong = 7
paper_number out_of_range = 8
paper_number fuel_spent = 9
paper_number room_short = 10
paper_number change_wrong = 11
paper_number broken = 12

pub data Outcome (A : Type 0) : Type 0 where
  accepted : A → Outcome A
  refused : Refusal → Outcome A

-- the paper's number of an outcome: 0 for accepted
unfoldable pub number_of : {A : Type 0} → Outcome A → ℕ
number_of (accepted a) = 0
number_of (refused r) = paper_number r

-- go on with the value; a refusal is handed up unchanged
infixl 10 ◌>>=◌
abbrev pub ◌>>=◌ : {A B : Type 0} → Outcome A → (A → Outcome B) → Outcome B
accepted a >>= next = next a
refused r >>= next = refused r

-- the test holds, or this is the refusal
abbrev pub need : Bool → Refusal → Outcome (Unit {0})
need true r = accepted tt
need false r = refused r

-- the one or the other of two functions or values, by a test
abbrev pub choose {ℓ} : {A : Type ℓ} → Bool → A → A → A
choose true a b = a
choose false a b = b
