-- "Each public call's contract determines the answer and every word of the new buffer for every input": any two answers that
-- `IsCheck`, `IsRun` or `IsPatch` of `rules/specs/Call.antt` allow are equal, and each allows one, in a buffer of any length.
-- The proof: a predicate says "is what the definition computes", and what it computes fills its room (`buffer_long`).
-- Assumes nothing.
use Rattle.std.specs.Prelude.{◌≡◌, ℕ, List, length, ℤ}
use Rattle.std.proofs.Common.{sym, ap, ◌∙◌}
use Rattle.rules.specs.Call.{Answer, call_run, call_patch, IsCheck, IsRun, IsPatch}
use Rattle.rules.proofs.Laws.Whole.{Request, to_run, to_patch, in_room, room_decides, finish, buffer_long}

-- ---- two answers are equal

-- Given by: both numbers are allowed for the table.
pub check_is_determined : (bytes : List ℕ) {n n' : ℕ} → IsCheck bytes n → IsCheck bytes n' → n ≡ n'
unfolding IsCheck
check_is_determined bytes h h' = h ∙ sym h'

-- Given by: both answers are allowed for the run, and the buffers that were lent are equally long.
pub run_is_determined : (bytes : List ℕ) (inputs : List ℤ) (limit : ℤ) {a a' : Answer} {b b' : List ℤ}
    → IsRun bytes inputs limit a b → IsRun bytes inputs limit a' b' → length b ≡ length b'
    → (a ≡ a') × (b ≡ b')
run_is_determined bytes inputs limit {b} {b'} h h' long = (
  h.answers ∙ ap (λ n. (call_run bytes inputs limit n).answer) long ∙ sym h'.answers,
  h.leaves ∙ ap (λ n. (call_run bytes inputs limit n).buffer) long ∙ sym h'.leaves,
)

-- Given by: both answers are allowed for the patch, and the buffers that were lent are equally long.
pub patch_is_determined : (bytes : List ℕ) (old changes : List ℤ) {a a' : Answer} {b b' : List ℤ}
    → IsPatch bytes old changes a b → IsPatch bytes old changes a' b' → length b ≡ length b'
    → (a ≡ a') × (b ≡ b')
patch_is_determined bytes old changes {b} {b'} h h' long = (
  h.answers ∙ ap (λ n. (call_patch bytes old changes n).answer) long ∙ sym h'.answers,
  h.leaves ∙ ap (λ n. (call_patch bytes old changes n).buffer) long ∙ sym h'.leaves,
)

-- ---- and there is one

fills : (q : Request) (room : ℕ) → length (in_room q room).buffer ≡ room
fills q room = ap (λ c. length c.buffer) (room_decides q room) ∙ buffer_long room (finish q)

-- Given by: nothing; in a buffer of any length.
pub run_is_allowed : (bytes : List ℕ) (inputs : List ℤ) (limit : ℤ) (room : ℕ)
    → (length (call_run bytes inputs limit room).buffer ≡ room)
    × IsRun bytes inputs limit (call_run bytes inputs limit room).answer (call_run bytes inputs limit room).buffer
run_is_allowed bytes inputs limit room =
    let long : length (call_run bytes inputs limit room).buffer ≡ room = fills (to_run bytes inputs limit) room in (
      long,
      record {
        answers = ap (λ n. (call_run bytes inputs limit n).answer) (sym long);
        leaves = ap (λ n. (call_run bytes inputs limit n).buffer) (sym long);
      },
    )

-- Given by: nothing; in a buffer of any length.
pub patch_is_allowed : (bytes : List ℕ) (old changes : List ℤ) (room : ℕ)
    → (length (call_patch bytes old changes room).buffer ≡ room)
    × IsPatch bytes old changes (call_patch bytes old changes room).answer (call_patch bytes old changes room).buffer
patch_is_allowed bytes old changes room =
    let long : length (call_patch bytes old changes room).buffer ≡ room = fills (to_patch bytes old changes) room in (
      long,
      record {
        answers = ap (λ n. (call_patch bytes old changes n).answer) (sym long);
        leaves = ap (λ n. (call_patch bytes old changes n).buffer) (sym long);
      },
    )
