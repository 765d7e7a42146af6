-- Demand 3 about the code: any two calls that meet the contracts of the run and of the patch.
-- The record is one that such calls left, each going on from the one before; the patch and the run on the changed inputs, in equal room,
-- then end with the same outcome and leave the same words, and old outputs plus reported changes are the run's outputs.
-- Assumes nothing.
use Rattle.std.specs.Prelude.{◌≡◌, ℕ, ◌+◌, List, ◌++◌, length, take, ℤ}
use Rattle.rules.specs.Value.{Ty, plus_all}
use Rattle.rules.specs.Call.{IsRun, IsPatch}
use Rattle.table.specs.Paper.{answer_of}
use Rattle.table.specs.declared.answer.Outcome.TheVariants.{Accepted}
use Rattle.table.specs.declared.answer.Answer.{Answer}

-- ---- what the statement speaks of

-- the record that an accepted call left in its buffer
abbrev pub record_of : Answer → List ℤ → List ℤ
record_of a buffer = take a.length buffer

-- a record that accepted calls left: a run, and patches going on from it, of the same table
pub data LeftByCalls (bytes : List ℕ) : List ℤ → Type 0 where
  ran : (inputs : List ℤ) (limit : ℤ) (a : Answer) (buffer : List ℤ)
      → IsRun bytes inputs limit (answer_of a) buffer → a.outcome ≡ Accepted
      → LeftByCalls bytes (record_of a buffer)
  patched : (old behind changes : List ℤ) (a : Answer) (buffer : List ℤ)
      → LeftByCalls bytes old → IsPatch bytes (old ++ behind) changes (answer_of a) buffer → a.outcome ≡ Accepted
      → LeftByCalls bytes (record_of a buffer)

-- a patch's answer and buffer beside a run's; `olds` are the old outputs
pub record SameAsRun (types : List Ty) (olds : List ℤ) (a : Answer) (buffer : List ℤ) (r : Answer) (rerun : List ℤ) : Type 0 where
  pub outcome : a.outcome ≡ r.outcome
  pub words : buffer ≡ rerun
  pub steps : a.steps ≡ r.steps
  pub record_length : a.length ≡ r.length
  pub values : a.values ≡ r.values
  pub outputs : a.outcome ≡ Accepted → plus_all types olds a.changes ≡ take (length types) r.values
  pub counted : a.walked + a.reused + a.fresh ≡ a.steps
