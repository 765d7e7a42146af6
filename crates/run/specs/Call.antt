-- What the contracts of the public run and of its steps say, by the definition of the whole call.
-- Assumes nothing.
use Rattle.std.specs.Prelude.{◌≡◌, List, ℕ, ◌+◌, ◌*◌, ◌≤◌, length, take, ℤ, pos, nat_abs, Option, Some, None, Result}
use Rattle.numbers.specs.Signed.{between}
use Rattle.rules.specs.Outcome.{accepted, ◌>>=◌, need, choose, store_wrong, limit_wrong}
use Rattle.rules.specs.Outcome as Paper
use Rattle.rules.specs.Value.{zeros, most_variables, padded, fit}
use Rattle.rules.specs.Table.{Program, check}
use Rattle.rules.specs.Patch.{all_fresh}
use Rattle.rules.specs.Run.{Done, most_steps, record_of}
use Rattle.rules.specs.Call.{Finished, answered, finish_run, within}
use Rattle.table.specs.Agrees.{Agrees}
use Rattle.table.specs.Paper.{answer_of}
use Rattle.table.specs.declared.answer.Refusal.{Refusal}
use Rattle.table.specs.declared.answer.Answer.{Answer}
use Rattle.run.specs.declared.statement.Ran.{Ran}
use Rattle.run.specs.Code.{farthest}
use Rattle.run.specs.Statement.{EndedAs}

-- answer and buffer are those of a call that comes to this end
abbrev pub Answers : ℕ → Paper.Outcome Finished → Answer → List ℤ → Type 0
Answers room m r after = (answer_of r ≡ (answered room m).answer) × (after ≡ (answered room m).buffer)

-- the tests before a run, 1 to 7 in turn
unfoldable pub tests : List ℕ → List ℤ → ℤ → Paper.Outcome Program
tests bytes inputs limit = do
  p ← check bytes
  _ ← need (fit p.types inputs) store_wrong
  _ ← need (between (pos 1) most_steps limit) limit_wrong
  accepted p

-- the limit as a count, where it is one that a call may have
abbrev pub limited : ℤ → Option ℕ
limited limit = choose (between (pos 1) most_steps limit) (Some (nat_abs limit)) None

abbrev pub Tested : List ℕ → List ℤ → ℤ → Result ℕ Refusal → Type 0
Tested bytes inputs limit r = Agrees (λ _ most. most ≡ nat_abs limit) (tests bytes inputs limit) r

-- they are passed with this limit, as a count
pub record Startable (bytes : List ℕ) (inputs : List ℤ) (limit : ℕ) : Type 0 where
  pub program : Program
  pub passed : tests bytes inputs (pos limit) ≡ accepted program

-- what a run that came to its end finishes with
abbrev pub finished : ℕ → List ℤ → ℕ → Done → Finished
finished v inputs limit d = record {
  counts = all_fresh d.steps;
  words = record_of limit d.steps inputs (take v d.store) d.words;
  values = padded (take v d.store);
  changes = zeros most_variables;
}

-- the root's entry stands behind the place of the header, and the record has room
pub record Completable (inputs : List ℤ) (limit : ℕ) (ran : Ran) (out : List ℤ) : Type 0 where
  pub few : length inputs ≤ 32
  pub long : length ran.store.values ≡ 32
  pub low : limit ≤ 1_000_000
  pub least : ran.left ≤ limit
  pub near : ran.at ≤ farthest
  pub behind : 3 + 2 * length inputs ≤ ran.at
  pub room : ran.at ≤ length out

abbrev pub CompletesTo : List ℤ → ℕ → Ran → List ℤ → Answer → List ℤ → Type 0
CompletesTo inputs limit ran now r after = (d : Done) (out : List ℤ) → EndedAs out limit (3 + 2 * length inputs) now d ran → Answers (length now)
    (accepted (finished (length inputs) inputs limit d)) r after

-- the whole run, in so much room, but for the buffer of a refused one
abbrev pub RunAnswers : List ℕ → List ℤ → ℤ → ℕ → Result Answer Refusal → List ℤ → Type 0
RunAnswers bytes inputs limit room r after = Agrees (λ f a. Answers room (accepted f) a after) (finish_run bytes inputs limit >>= within room) r
