-- Demand 3: a patch is a rerun.
-- From a record that an accepted call left, with a legal list of changes, the patch and the run on the changed inputs with the
-- record's limit and the same room accept together or refuse with the same number; accepted, they leave the same words, and old
-- outputs plus reported changes are the run's outputs.
-- Assumes nothing.
use Rattle.std.specs.Prelude.{◌≡◌, ℕ, ◌+◌, List, ◌++◌, length, take, ℤ}
use Rattle.rules.specs.Value.{Ty, plus_all}
use Rattle.rules.specs.Call.{Called, call_run, call_patch}
use Rattle.rules.proofs.Laws.Answer.{Accepted, record_in}

-- ---- what the statement speaks of

-- "A record that an accepted call left is one left by an accepted run, or by an accepted patch of such a record, of the same
-- table throughout." What stands behind a record in its slice does not matter.
pub data Left (bytes : List ℕ) : List ℤ → Type 0 where
  by_run : (inputs : List ℤ) (limit : ℤ) (room : ℕ)
      → Accepted (call_run bytes inputs limit room)
      → Left bytes (record_in (call_run bytes inputs limit room))
  by_patch : (old behind changes : List ℤ) (room : ℕ)
      → Left bytes old
      → Accepted (call_patch bytes (old ++ behind) changes room)
      → Left bytes (record_in (call_patch bytes (old ++ behind) changes room))

-- a patch beside the rerun; `olds` are the old outputs
pub record IsRerun (types : List Ty) (olds : List ℤ) (patch rerun : Called) : Type 0 where
  pub number : patch.answer.number ≡ rerun.answer.number
  pub buffer : patch.buffer ≡ rerun.buffer
  pub steps : patch.answer.steps ≡ rerun.answer.steps
  pub record_length : patch.answer.length ≡ rerun.answer.length
  pub values : patch.answer.values ≡ rerun.answer.values
  pub outputs : Accepted patch → plus_all types olds patch.answer.changes ≡ take (length types) rerun.answer.values
  pub counted : patch.answer.counts.walked + patch.answer.counts.reused + patch.answer.counts.fresh ≡ patch.answer.steps
