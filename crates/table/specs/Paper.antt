-- The paper's numbers and values of the code's answers: what each case of an enum stands for.
-- The contracts and the promises speak of an answer of the code through these definitions.
-- Assumes nothing.
use Rattle.std.specs.Prelude.{◌≡◌, refl, ℕ, Result, Ok, Err, ⊤}
use Rattle.rules.specs.Outcome as Paper
use Rattle.rules.specs.Call as Call
use Rattle.table.specs.declared.answer.Refusal.{Refusal}
use Rattle.table.specs.declared.answer.Refusal.TheVariants.{Header, Types, Node, Use, Depth, Store, Limit, Range, Fuel, Room, Change, Broken}
use Rattle.table.specs.declared.answer.Outcome.{Outcome}
use Rattle.table.specs.declared.answer.Outcome.TheVariants.{Accepted, Refused}
use Rattle.table.specs.declared.answer.Answer.{Answer}

-- the paper's reason
abbrev pub reason_of : Refusal → Paper.Refusal
reason_of Header = Paper.header_wrong
reason_of Types = Paper.type_wrong
reason_of Node = Paper.node_wrong
reason_of Use = Paper.use_wrong
reason_of Depth = Paper.too_deep
reason_of Store = Paper.store_wrong
reason_of Limit = Paper.limit_wrong
reason_of Range = Paper.out_of_range
reason_of Fuel = Paper.fuel_spent
reason_of Room = Paper.room_short
reason_of Change = Paper.change_wrong
reason_of Broken = Paper.broken

-- the paper's number: 0 for accepted
abbrev pub number_of : Outcome → ℕ
number_of Accepted = 0
number_of (Refused r) = Paper.paper_number (reason_of r)

-- what an answer carries of a call that is accepted or refused
abbrev pub outcome_of : Result ⊤ Refusal → Outcome
outcome_of (Ok u) = Accepted
outcome_of (Err r) = Refused r

-- the paper's answer
abbrev pub answer_of : Answer → Call.Answer
answer_of a = record {
  number = number_of a.outcome;
  steps = a.steps;
  counts = record { walked = a.walked; reused = a.reused; fresh = a.fresh };
  length = a.length;
  values = a.values;
  changes = a.changes;
}

-- the code's refusal for a reason of the paper
abbrev pub refusal_for : Paper.Refusal → Refusal
refusal_for Paper.header_wrong = Header
refusal_for Paper.type_wrong = Types
refusal_for Paper.node_wrong = Node
refusal_for Paper.use_wrong = Use
refusal_for Paper.too_deep = Depth
refusal_for Paper.store_wrong = Store
refusal_for Paper.limit_wrong = Limit
refusal_for Paper.out_of_range = Range
refusal_for Paper.fuel_spent = Fuel
refusal_for Paper.room_short = Room
refusal_for Paper.change_wrong = Change
refusal_for Paper.broken = Broken

pub reason_back : (r : Paper.Refusal) → reason_of (refusal_for r) ≡ r
reason_back Paper.header_wrong = refl
reason_back Paper.type_wrong = refl
reason_back Paper.node_wrong = refl
reason_back Paper.use_wrong = refl
reason_back Paper.too_deep = refl
reason_back Paper.store_wrong = refl
reason_back Paper.limit_wrong = refl
reason_back Paper.out_of_range = refl
reason_back Paper.fuel_spent = refl
reason_back Paper.room_short = refl
reason_back Paper.change_wrong = refl
reason_back Paper.broken = refl
