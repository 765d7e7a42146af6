-- The tests before a run decide in turn: the table, then the store, then the limit.
-- Assumes nothing.
use Rattle.std.specs.Prelude.{◌≡◌, ℕ, ◌≤◌, Bool, true, false, List, length, ℤ, pos, nat_abs, Some, None, ok_or, Result, Ok, Err, ⊤}
use Rattle.std.proofs.Math.Path.{refl, ap}
use Rattle.std.proofs.Common.{◌∙◌, arith}
use Rattle.numbers.specs.Signed.{between}
use Rattle.rules.specs.Outcome.{accepted, refused, ◌>>=◌, need, choose, store_wrong, limit_wrong}
use Rattle.rules.specs.Outcome as Paper
use Rattle.rules.specs.Value.{fit}
use Rattle.rules.specs.Table.{header_length, nodes_at, types_of, Program, check}
use Rattle.rules.specs.Run.{most_steps}
use Rattle.rules.specs.Call.{call_check, IsCheck}
use Rattle.rules.proofs.Laws.Answer.{number_some, number_injective}
use Rattle.rules.proofs.Laws.Header.{sized}
use Rattle.rules.proofs.Laws.Parts.{through}
use Rattle.table.specs.Accepted.{AcceptedTable}
use Rattle.table.specs.Agrees.{Agrees, both, neither, accepts, handed_up}
use Rattle.table.specs.Paper.{number_of, outcome_of, reason_of, refusal_for}
use Rattle.table.specs.declared.answer.Refusal.{Refusal}
use Rattle.table.specs.declared.answer.Refusal.TheVariants.{Header, Types, Node, Use, Depth, Store, Limit, Range, Fuel, Room, Change, Broken}
use Rattle.run.specs.Call.{tests, limited, Tested}

-- ---- an outcome and its number

pub refusal_back : (q : Refusal) → q ≡ refusal_for (reason_of q)
refusal_back Header = refl
refusal_back Types = refl
refusal_back Node = refl
refusal_back Use = refl
refusal_back Depth = refl
refusal_back Store = refl
refusal_back Limit = refl
refusal_back Range = refl
refusal_back Fuel = refl
refusal_back Room = refl
refusal_back Change = refl
refusal_back Broken = refl

-- an answer that has the outcome's number agrees with the outcome
pub agrees_of : {A : Type 0} (m : Paper.Outcome A) (r : Result ⊤ Refusal) → number_of (outcome_of r) ≡ Paper.number_of m → Agrees (λ a u. ⊤) m r
unfolding Paper.number_of
agrees_of (accepted a) (Ok u) e = both tt
agrees_of (accepted a) (Err q) e = absurd (omega (arith, number_some (reason_of q), e))
agrees_of (refused p) (Ok u) e = absurd (omega (arith, number_some p, e))
agrees_of (refused p) (Err q) e = neither (refusal_back q ∙ ap refusal_for (number_injective (reason_of q) p e))

pub check_told : (bytes : List ℕ) (r : Result ⊤ Refusal) → IsCheck bytes (number_of (outcome_of r)) → Agrees (λ p u. ⊤) (check bytes) r
unfolding IsCheck call_check
check_told bytes r e = agrees_of (check bytes) r e

pub check_accepted : (bytes : List ℕ) {r : Result ⊤ Refusal} {u : ⊤} → r ≡ Ok u → IsCheck bytes (number_of (outcome_of r)) → AcceptedTable bytes
check_accepted bytes {r} e h = let a = accepts (check_told bytes r h) e in (a.value, a.comes)

pub types_inside : (bytes : List ℕ) → AcceptedTable bytes → nodes_at bytes ≤ length bytes
unfolding nodes_at header_length
types_inside bytes table = omega (arith, (sized bytes table.0 table.1).whole)

-- ---- the tests before a run

decides : (b : Bool) (n : ℕ) (p : Program)
    → Agrees (λ x most. most ≡ n) (need b limit_wrong >>= λ u. accepted p) (ok_or (choose b (Some n) None) Limit)
decides true n p = both refl
decides false n p = neither refl

module _ (bytes : List ℕ) (inputs : List ℤ) (limit : ℤ) where
  pub check_refused : {r : Result ⊤ Refusal} {q : Refusal} → r ≡ Err q → IsCheck bytes (number_of (outcome_of r)) → Tested bytes inputs limit (Err q)
  unfolding tests
  check_refused {r} e h = handed_up _ (check_told bytes r h) e

  module _ (table : AcceptedTable bytes) where
    types_are : table.0.types ≡ types_of bytes
    types_are = (through bytes table.0 table.1).types

    pub store_refused : false ≡ fit (types_of bytes) inputs → Tested bytes inputs limit (Err Store)
    unfolding tests
    store_refused e = rw (table.1, types_are, ← e) (neither refl)

    pub limit_decides : true ≡ fit (types_of bytes) inputs → {r : Result ℕ Refusal} → r ≡ ok_or (limited limit) Limit → Tested bytes inputs limit r
    unfolding tests
    limit_decides e h = rw (table.1, types_are, ← e, h) (decides (between (pos 1) most_steps limit) (nat_abs limit) _)
