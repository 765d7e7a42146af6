-- What the contracts of the public patch and of its steps say, by the definition of the whole call.
-- Assumes nothing.
use Rattle.std.specs.Prelude.{◌≡◌, Bool, true, ◌&&◌, List, ℕ, ◌+◌, ◌*◌, ◌≤◌, length, take, ℤ, nat_abs, Result}
use Rattle.numbers.specs.Lay.{lay}
use Rattle.rules.specs.Outcome.{accepted, ◌>>=◌, need, change_wrong}
use Rattle.rules.specs.Outcome as Paper
use Rattle.rules.specs.Value.{Ty, in_type, plus, padded, fit}
use Rattle.rules.specs.Table.{variables, types_of, Program, check}
use Rattle.rules.specs.Run.{record_of}
use Rattle.rules.specs.Patch.{Visited, steps_of, visit, walk}
use Rattle.rules.specs.Call as Rules
use Rattle.rules.specs.Call.{Finished, header, length_of, limit_of, is_change, legal, finish_patch, within}
use Rattle.rules.proofs.Laws.Header.{Sized}
use Rattle.table.specs.Agrees.{Agrees}
use Rattle.table.specs.declared.answer.Answer.{Answer}
use Rattle.table.specs.declared.answer.Refusal.{Refusal}
use Rattle.table.specs.declared.answer.Store.{Store}
use Rattle.run.specs.Call.{Answers}
use Rattle.run.specs.Code.{farthest}
use Rattle.pieces.specs.Change.{AllNear}
use Rattle.pieces.specs.Entry.{Came, VisitAs}
use Rattle.pieces.specs.declared.entry.Reached.{Reached}
use Rattle.patch.specs.declared.header.Header.{Header}

-- ---- the header and the changes

-- an input may take this change
abbrev pub legal_change : Ty → ℤ → ℤ → Bool
legal_change t z c = is_change t c && in_type t (plus t z c)

-- the record's length and the limit, as the code reads them
pub record HeaderAs (old : List ℤ) (h : Rules.Header) (r : Header) : Type 0 where
  pub length : r.length ≡ nat_abs (length_of old)
  pub limit : r.limit ≡ h.limit

abbrev pub HeaderTo : List ℕ → List ℤ → Result Header Refusal → Type 0
HeaderTo bytes old r = Agrees (HeaderAs old) (header (types_of bytes) old) r

-- one value for each variable, and the changes are near
pub record Sums (bytes : List ℕ) (words changes : List ℤ) : Type 0 where
  pub sized : Sized bytes
  pub fits : fit (types_of bytes) words ≡ true
  pub long : length changes ≡ 32
  pub near : AllNear changes

-- ---- the tests before a patch

-- what a patch starts from
pub record Ready : Type 0 where
  pub program : Program
  pub header : Rules.Header

-- the table's tests, the header's, then those of the changes
unfoldable pub tests : List ℕ → List ℤ → List ℤ → Paper.Outcome Ready
tests bytes old changes = do
  p ← check bytes
  h ← header p.types old
  _ ← need (legal p.types h.inputs changes) change_wrong
  accepted (record { program = p; header = h })

abbrev pub Tested : List ℕ → List ℤ → List ℤ → Result Header Refusal → Type 0
Tested bytes old changes r = Agrees (λ g h. HeaderAs old g.header h) (tests bytes old changes) r

-- they are passed, and the header is this
pub record Startable (bytes : List ℕ) (old : List ℤ) (head : Header) (changes : List ℤ) : Type 0 where
  pub ready : Ready
  pub passed : tests bytes old changes ≡ accepted ready
  pub headed : HeaderAs old ready.header head

-- ---- the root's visit

-- the tests are passed with these changes, as they are handed in
pub record Rooted (bytes : List ℕ) (old : List ℤ) (head : Header) (changes : Store) : Type 0 where
  pub given : List ℤ
  pub start : Startable bytes old head given
  pub whole : changes.values ≡ padded given

-- the visit of the root's entry
abbrev pub root_visit : Ready → List ℤ → Paper.Outcome Visited
root_visit r changes = visit r.program.root (walk r.program.types r.program.root) true r.header.limit changes r.header.root

-- where a walk starts: behind the header
abbrev pub start_at : ℕ → ℕ → List ℤ → Reached
start_at v limit changes = record {
  changes = record { values = changes };
  left = limit;
  walked = 0;
  reused = 0;
  from = 3 + 2 * v;
  at = 3 + 2 * v;
}

abbrev pub start_of : List ℕ → List ℤ → List ℤ → Reached
start_of bytes old changes = start_at (variables bytes) (nat_abs (limit_of old)) changes

abbrev pub RootsTo : List ℕ → List ℤ → Header → Store → Result Reached Refusal → List ℤ → List ℤ → Type 0
RootsTo bytes old head changes r out after = (h : Rooted bytes old head changes)
    → VisitAs (root_visit h.start.ready changes.values) (start_of bytes old changes.values) r old (nat_abs (length_of old)) out after

-- ---- the end

-- what a patch whose visit came to its end finishes with
abbrev pub finished : ℕ → ℕ → List ℤ → List ℤ → Visited → Finished
finished v limit inputs outputs w = record {
  counts = w.counts;
  words = record_of limit (steps_of w.counts) inputs outputs w.words;
  values = padded outputs;
  changes = padded (take v w.changes);
}

-- the root's entry stands behind the place of the header, and the record has room
pub record Completable (v limit : ℕ) (inputs outputs : Store) (r : Reached) (out : List ℤ) : Type 0 where
  pub few : v ≤ 32
  pub low : limit ≤ 1_000_000
  pub ins : List ℤ
  pub outs : List ℤ
  pub each_in : length ins ≡ v
  pub each_out : length outs ≡ v
  pub holds_in : inputs.values ≡ padded ins
  pub holds_out : outputs.values ≡ padded outs
  pub visited : Visited
  pub before : List ℤ
  pub long : length r.changes.values ≡ 32
  pub changes : r.changes.values ≡ visited.changes
  pub leaves : r.left + steps_of visited.counts ≡ limit
  pub walks : r.walked ≡ visited.counts.walked
  pub reuses : r.reused ≡ visited.counts.reused
  pub ends : r.at ≡ 3 + 2 * v + length visited.words
  pub lays : out ≡ lay before (3 + 2 * v) visited.words
  pub near : r.at ≤ farthest
  pub room : r.at ≤ length out

abbrev pub CompletesTo : ℕ → ℕ → Store → Store → Reached → List ℤ → Answer → List ℤ → Type 0
CompletesTo v limit inputs outputs reached out r after = (h : Completable v limit inputs outputs reached out)
    → Answers (length out) (accepted (finished v limit h.ins h.outs h.visited)) r after

-- the whole patch, in so much room, but for the buffer of a refused one
abbrev pub PatchAnswers : List ℕ → List ℤ → List ℤ → ℕ → Result Answer Refusal → List ℤ → Type 0
PatchAnswers bytes old changes room r after = Agrees (λ f a. Answers room (accepted f) a after) (finish_patch bytes old changes >>= within room) r

-- the root's visit has come to its end
pub record Finishable (bytes : List ℕ) (old : List ℤ) (limit : ℕ) (changes : Store) (r : Reached) (out : List ℤ) : Type 0 where
  pub head : Header
  pub rooted : Rooted bytes old head changes
  pub limits : limit ≡ head.limit
  pub visited : Visited
  pub comes : root_visit rooted.start.ready changes.values ≡ accepted visited
  pub before : List ℤ
  pub came : Came visited (start_of bytes old changes.values) r old (nat_abs (length_of old)) before out

abbrev pub FinishesTo : List ℕ → List ℤ → ℕ → Store → Reached → List ℤ → Result Answer Refusal → List ℤ → Type 0
FinishesTo bytes old limit changes reached out r after = (h : Finishable bytes old limit changes reached out)
    → PatchAnswers bytes old h.rooted.given (length out) r after
