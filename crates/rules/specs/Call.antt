-- The whole calls: the order of refusals, the room, the answer and every word of the buffer; and the predicates that the
-- contracts of the code cite.
-- A call first comes to its end as if there were room without end, and then the room decides: so 10 is the last refusal.
-- Assumes nothing.
use Rattle.std.specs.Prelude.{◌≡◌, ℕ, ◌+◌, ◌-◌, ◌*◌, Bool, true, false, ◌&&◌, List, [], ◌∷◌, ◌++◌, length, take, drop, leb, ℤ, pos, nat_abs}
use Rattle.std.specs.Int.Signed.{le_z}
use Rattle.numbers.specs.Signed.{between}
use Rattle.rules.specs.Outcome.{paper_number, number_of, Outcome, accepted, refused, ◌>>=◌, need, store_wrong, limit_wrong, room_short, change_wrong, broken}
use Rattle.rules.specs.Value.{Ty, at, in_type, plus, zeros, most_variables, padded, fit, plus_all}
use Rattle.rules.specs.Table.{check}
use Rattle.rules.specs.Run.{headed, most_steps, run, record_of}
use Rattle.rules.specs.Patch.{Counts, steps_of, no_steps, all_fresh, visit, walk}

-- ---- the answer

-- "one outcome, then steps, walked, reused, fresh, record length, and values and changes for 32 variables (zero from V on)";
-- the outcome is its number, 0 for accepted
pub record Answer : Type 0 where
  pub number : ℕ
  pub steps : ℕ
  pub counts : Counts
  pub length : ℕ
  pub values : List ℤ
  pub changes : List ℤ

-- the answer, and the words of the new record's buffer
pub record Called : Type 0 where
  pub answer : Answer
  pub buffer : List ℤ

-- what a call that accepts ends with
pub record Finished : Type 0 where
  pub counts : Counts
  pub words : List ℤ
  pub values : List ℤ
  pub changes : List ℤ

-- "10: the finished record is longer than the lent buffer"
unfoldable pub within : ℕ → Finished → Outcome Finished
within room f = do
  _ ← need (leb (length f.words) room) room_short
  accepted f

-- "When refused, all of these but the number are zero and the whole new buffer is zero. When accepted, the record is followed
-- by zeros to the buffer's end."
unfoldable pub answered : ℕ → Outcome Finished → Called
answered room (accepted f) = record {
  answer = record {
    number = 0;
    steps = steps_of f.counts;
    counts = f.counts;
    length = length f.words;
    values = f.values;
    changes = f.changes;
  };
  buffer = f.words ++ zeros (room - length f.words);
}
answered room (refused r) = record {
  answer = record {
    number = paper_number r;
    steps = 0;
    counts = no_steps;
    length = 0;
    values = zeros most_variables;
    changes = zeros most_variables;
  };
  buffer = zeros room;
}

-- ---- the table check

-- "Table check: 1 to 5 in turn", 0 when accepted
unfoldable pub call_check : List ℕ → ℕ
call_check bytes = number_of (check bytes)

-- ---- the run

-- "Run: 1 to 7 in turn, then 8 or 9, the first in execution order"
unfoldable pub finish_run : List ℕ → List ℤ → ℤ → Outcome Finished
finish_run bytes inputs limit = do
  p ← check bytes
  _ ← need (fit p.types inputs) store_wrong
  _ ← need (between (pos 1) most_steps limit) limit_wrong
  d ← run p.root (nat_abs limit) (padded inputs)
  let outputs = take (length p.types) d.store in accepted
      (record {
        counts = all_fresh d.steps;
        words = record_of (nat_abs limit) d.steps inputs outputs d.words;
        values = padded outputs;
        changes = zeros most_variables;
      })

unfoldable pub call_run : List ℕ → List ℤ → ℤ → ℕ → Called
call_run bytes inputs limit room = answered room (finish_run bytes inputs limit >>= within room)

-- ---- the patch

-- what a record's header names: length L, fuel limit, steps, V inputs, V outputs
unfoldable pub length_of : List ℤ → ℤ
length_of words = at words 0

unfoldable pub limit_of : List ℤ → ℤ
limit_of words = at words 1

unfoldable pub steps_in : List ℤ → ℤ
steps_in words = at words 2

unfoldable pub inputs_of : List Ty → List ℤ → List ℤ
inputs_of types words = take (length types) (drop headed words)

unfoldable pub outputs_of : List Ty → List ℤ → List ℤ
outputs_of types words = take (length types) (drop (headed + length types) words)

-- the header of an old record that is not broken, and the words behind it up to L
pub record Header : Type 0 where
  pub limit : ℕ
  pub inputs : List ℤ
  pub outputs : List ℤ
  pub root : List ℤ

-- "Broken (12). The header: a slice or an L under 3+2V words; L beyond the slice; limit outside 1..1,000,000; steps outside
-- 1..limit; an input or output outside its type."
unfoldable pub header : List Ty → List ℤ → Outcome Header
header types old =
    let least = headed + 2 * length types in do
      _ ← need (leb least (length old)) broken
      _ ← need (le_z (pos least) (length_of old)) broken
      _ ← need (le_z (length_of old) (pos (length old))) broken
      _ ← need (between (pos 1) most_steps (limit_of old)) broken
      _ ← need (between (pos 1) (limit_of old) (steps_in old)) broken
      _ ← need (fit types (inputs_of types old)) broken
      _ ← need (fit types (outputs_of types old)) broken
      accepted
          (record {
            limit = nat_abs (limit_of old);
            inputs = inputs_of types old;
            outputs = outputs_of types old;
            root = take (nat_abs (length_of old) - least) (drop least old);
          })

-- a truth's change is 0 or 1
unfoldable pub is_change : Ty → ℤ → Bool
is_change Ty.number c = true
is_change Ty.truth c = in_type Ty.truth c

-- not "11: change list length not V, a truth change not 0 or 1, or a new input out of range"
unfoldable pub legal : List Ty → List ℤ → List ℤ → Bool
legal [] inputs [] = true
legal [] inputs (c ∷ cs) = false
legal (t ∷ ts) [] changes = false
legal (t ∷ ts) (z ∷ zs) [] = false
legal (t ∷ ts) (z ∷ zs) (c ∷ cs) = is_change t c && in_type t (plus t z c) && legal ts zs cs

-- "Patch: 1 to 5, the header's 12, 11, then 8, 9 or 12, the first met in the walk"; "at the end, outputs plus changes outside
-- their types: 12". "The header counts as the root entry's walked parent and ends at L."
unfoldable pub finish_patch : List ℕ → List ℤ → List ℤ → Outcome Finished
finish_patch bytes old changes = do
  p ← check bytes
  h ← header p.types old
  _ ← need (legal p.types h.inputs changes) change_wrong
  v ← visit p.root (walk p.types p.root) true h.limit (padded changes) h.root
  let outputs = plus_all p.types h.outputs v.changes in do
    _ ← need (fit p.types outputs) broken
    accepted
        (record {
          counts = v.counts;
          words = record_of h.limit (steps_of v.counts) (plus_all p.types h.inputs changes) outputs v.words;
          values = padded outputs;
          changes = padded (take (length p.types) v.changes);
        })

unfoldable pub call_patch : List ℕ → List ℤ → List ℤ → ℕ → Called
call_patch bytes old changes room = answered room (finish_patch bytes old changes >>= within room)

-- ---- what the contracts of the code cite

-- this is the number of this table
unfoldable pub IsCheck : List ℕ → ℕ → Type 0
IsCheck bytes answer = answer ≡ call_check bytes

-- these are the answer and the buffer of this run
pub record IsRun (bytes : List ℕ) (inputs : List ℤ) (limit : ℤ) (answer : Answer) (buffer : List ℤ) : Type 0 where
  pub answers : answer ≡ (call_run bytes inputs limit (length buffer)).answer
  pub leaves : buffer ≡ (call_run bytes inputs limit (length buffer)).buffer

-- these are the answer and the buffer of this patch
pub record IsPatch (bytes : List ℕ) (old changes : List ℤ) (answer : Answer) (buffer : List ℤ) : Type 0 where
  pub answers : answer ≡ (call_patch bytes old changes (length buffer)).answer
  pub leaves : buffer ≡ (call_patch bytes old changes (length buffer)).buffer
