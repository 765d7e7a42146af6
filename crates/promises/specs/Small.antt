-- Small promises that a user leans on: about the words behind a record, the room, and the limit.
-- The proof: the header reads only the first L words; the room is looked at last (`ends_so`); and a run that accepts does so with
-- any more steps left (`costs_of`).
-- Assumes nothing.
use Rattle.std.proofs.Math.Path.{◌≡◌, refl, sym}
use Rattle.std.proofs.Common.{ap, ◌∙◌, subst, subst₂, append_assoc, length-drop, length-set}
use Prim.Native.Nat.{ℕ, ◌+◌, ◌-◌, ◌*◌, ◌≤◌, ◌<◌}
use native.Mathlib.Omega.{arith}
use Rattle.std.specs.Prelude.{Bool, List, ◌++◌, take, drop, set, leb, ℤ}
use Rattle.std.proofs.Math.Bool.{true, false}
use Rattle.std.proofs.lemmas.Bool.{false≢true}
use Rattle.std.proofs.Math.ListN.{length, length-append, get_or-append}
use Rattle.std.proofs.lemmas.List.{replicate-append-replicate, take-append-le, drop-append-le, set-append_left}
use Rattle.std.specs.Int.Signed.{le_z}
use Rattle.std.proofs.Math.IntN.{pos, nat_abs}
use Rattle.std.proofs.Math.Nat.{le_trans}
use borrow.Author.Tests.{le-leb, lt-leb, leb-true}
use Rattle.numbers.specs.Signed.{between}
use Rattle.rules.specs.Outcome.{Refusal, paper_number, broken, store_wrong, limit_wrong, Outcome, accepted, refused, ◌>>=◌, need}
use Rattle.rules.specs.Value.{Ty, at, zeros, padded, fit}
use Rattle.rules.specs.Table.{check}
use Rattle.rules.specs.Run.{headed, most_steps, run, record_of}
use Rattle.rules.specs.Call.{Finished, within, answered, finish_run, call_run, length_of, limit_of, steps_in, inputs_of, outputs_of, Header, header, finish_patch, call_patch}
use Rattle.rules.proofs.Laws.Outcome.{Holds, value, holds_bind, holds_need, holds_of, holds_if}
use Rattle.rules.proofs.Laws.Mentions.{◌∈◌}
use Rattle.rules.proofs.Laws.Run.{split}
use Rattle.rules.proofs.Laws.Entry.{costs_of, steps_within}
use Rattle.rules.proofs.Laws.Call.{in_limits_lem}
use Rattle.rules.proofs.Laws.Answer.{Accepted, Ended, accepted_end}
use Rattle.rules.proofs.Laws.Whole.{only_of, member_listed, of_finish, finish_only, Request, in_room, finish, room_decides, fitting, too_long, Ends, stopped, short, fits, ends_so, refused_number, accepted_number}

-- ---- words behind the record

module _ (words behind : List ℤ) where
  -- what lies inside the record is read there
  part_front : (k n : ℕ) → k + n ≤ length words → take n (drop k (words ++ behind)) ≡ take n (drop k words)
  part_front k n le =
      ap (take n) (drop-append-le k words behind (omega arith))
      ∙ take-append-le n (drop k words) behind (subst (λ m. n ≤ m) (sym (length-drop k words)) (omega arith))

  word_front : (i : ℕ) → i < length words → at (words ++ behind) i ≡ at words i
  word_front i less = get_or-append words behind (pos 0) i less

  module _ (types : List Ty) (names : length_of (words ++ behind) ≡ pos (length words)) where
    -- an L under 3+2V words is broken, however long the slice is
    header_short : length words < headed + 2 * length types → header types (words ++ behind) ≡ refused broken
    unfolding header
    header_short less = rw (names, lt-leb (headed + 2 * length types) (length words) less) (either (leb (headed + 2 * length types) (length (words ++ behind))))
      where
        either : (b : Bool) → ◌≡◌ {A = Outcome Header} (need b broken >>= λ u. refused broken) (refused broken)
        either true = refl
        either false = refl

    -- with a longer one, what stands behind it is not read
    header_front : headed + 2 * length types ≤ length words → header types (words ++ behind) ≡ header types words
    unfolding header length_of limit_of steps_in inputs_of outputs_of
    header_front le =
        let n : ℕ = length types in
        let long : length (words ++ behind) ≡ length words + length behind = length-append words behind in
        let own : length_of words ≡ pos (length words) = sym (word_front 0 (omega arith)) ∙ names in
        rw (
          names,
          own,
          long,
          le-leb (headed + 2 * n) (length words + length behind) (omega arith),
          le-leb (headed + 2 * n) (length words) le,
          le-leb (length words) (length words + length behind) (omega arith),
          le-leb (length words) (length words) (omega arith),
          word_front 1 (omega arith),
          word_front 2 (omega arith),
          part_front headed n (omega arith),
          part_front (headed + n) n (omega arith),
          part_front (headed + 2 * n) (length words - (headed + 2 * n)) (omega arith),
        ) refl

header_same : (types : List Ty) (words behind behind' : List ℤ)
    → length_of (words ++ behind) ≡ pos (length words) → length_of (words ++ behind') ≡ pos (length words)
    → header types (words ++ behind) ≡ header types (words ++ behind')
header_same types words behind behind' names names' = split (headed + 2 * length types) (length words)
    (λ le. header_front words behind types names le ∙ sym (header_front words behind' types names' le))
    (λ less. header_short words behind types names less ∙ sym (header_short words behind' types names' less))

after_same : {A B : Type 0} (m : Outcome A) {f g : A → Outcome B} → ((a : A) → f a ≡ g a) → (m >>= f) ≡ (m >>= g)
after_same (accepted a) h = h a
after_same (refused r) h = refl

finish_same : (bytes : List ℕ) (words behind behind' changes : List ℤ)
    → length_of (words ++ behind) ≡ pos (length words) → length_of (words ++ behind') ≡ pos (length words)
    → finish_patch bytes (words ++ behind) changes ≡ finish_patch bytes (words ++ behind') changes
unfolding finish_patch
finish_same bytes words behind behind' changes names names' =
    after_same (check bytes) λ p. rw (header_same p.types words behind behind' names names') refl

-- "Words after L are not read", whatever the first L words are, damaged ones too.
-- Given by: both slices name as their length L how many words they have in common.
pub words_behind_do_not_matter : (bytes : List ℕ) (words behind behind' changes : List ℤ) (room : ℕ)
    → length_of (words ++ behind) ≡ pos (length words) → length_of (words ++ behind') ≡ pos (length words)
    → call_patch bytes (words ++ behind) changes room ≡ call_patch bytes (words ++ behind') changes room
unfolding call_patch
words_behind_do_not_matter bytes words behind behind' changes room names names' =
    ap (λ o. answered room (o >>= within room)) (finish_same bytes words behind behind' changes names names')

-- ---- the room

-- in a larger room
more_zeros : (room room' : ℕ) → room ≤ room' → (f : Finished) → length f.words ≤ room
    → ((answered room' (accepted f)).answer ≡ (answered room (accepted f)).answer)
    × ((answered room' (accepted f)).buffer ≡ (answered room (accepted f)).buffer ++ zeros (room' - room))
unfolding answered zeros
more_zeros room room' le f inside =
    let n : ℕ = length f.words in
    let sum : room' - n ≡ (room - n) + (room' - room) = omega arith in (
      refl,
      ap (λ m. f.words ++ zeros m) sum
          ∙ ap (λ zs. f.words ++ zs) (sym (replicate-append-replicate (room - n) (room' - room) (pos 0)))
          ∙ sym (append_assoc f.words (zeros (room - n)) (zeros (room' - room))),
    )

-- an end that fits in a room is the answer there
in_room_lem : (q : Request) (room : ℕ) (f : Finished) → finish q ≡ accepted f → length f.words ≤ room → in_room q room ≡ answered room (accepted f)
in_room_lem q room f e le = room_decides q room ∙ fitting room (finish q) f e le

-- A larger room changes nothing but the zeros.
-- Given by: the call is accepted in the smaller room.
pub more_room_adds_zeros : (q : Request) (room room' : ℕ) → room ≤ room' → Accepted (in_room q room)
    → ((in_room q room').answer ≡ (in_room q room).answer) × ((in_room q room').buffer ≡ (in_room q room).buffer ++ zeros (room' - room))
more_room_adds_zeros q room room' le a =
    let e : Ended room (finish q) = accepted_end room (finish q) (rw (room_decides q room) at a) in
    rw (in_room_lem q room e.end e.comes e.fits, in_room_lem q room' e.end e.comes (omega arith))
    (more_zeros room room' le e.end e.fits)

-- in a room of at least `size` words a call is accepted, with a record of that length; in a smaller one 10 refuses it
pub record Needs (q : Request) (size : ℕ) : Type 0 where
  pub enough : (room : ℕ) → size ≤ room → Accepted (in_room q room) × ((in_room q room).answer.length ≡ size)
  pub less : (room : ℕ) → room < size → (in_room q room).answer.number ≡ 10

needs_words : (q : Request) (f : Finished) → finish q ≡ accepted f → Needs q (length f.words)
unfolding answered paper_number
needs_words q f e = record {
  enough = λ room le. rw (in_room_lem q room f e le) (refl, refl);
  less = λ room less. rw (room_decides q room, too_long room (finish q) f e less) refl;
}

-- the room alone gives 10
ten_is_left : (q : Request) {r : Refusal} → finish q ≡ refused r → paper_number r ≡ 10 → ⊥
ten_is_left q e ten = false≢true (member_listed 10 of_finish (subst (λ n. n ∈ of_finish) ten (only_of (finish_only q) e)))

short_needs : (q : Request) (room : ℕ) → (in_room q room).answer.number ≡ 10 → Ends room (finish q) → (size : ℕ) × (room < size) × Needs q size
short_needs q room ten (stopped r e whole) =
    absurd (ten_is_left q e (sym (refused_number room r) ∙ ap (λ c. c.answer.number) (sym whole ∙ sym (room_decides q room)) ∙ ten))
short_needs q room ten (short f e less whole) = (length f.words, less, needs_words q f e)
short_needs q room ten (fits f e le whole) =
    absurd (omega (arith, accepted_number room f, ap (λ c. c.answer.number) (room_decides q room ∙ whole)))

-- A call that 10 refuses is accepted in any room of the length that its record has, which is more than it was lent.
-- Given by: the call is refused with 10.
pub refused_by_room_needs_room : (q : Request) (room : ℕ) → (in_room q room).answer.number ≡ 10 → (size : ℕ) × (room < size) × Needs q size
refused_by_room_needs_room q room ten = short_needs q room ten (ends_so room (finish q))

stopped_alike : (q : Request) (room room' : ℕ) → 1 ≤ (in_room q room).answer.number → ((in_room q room).answer.number ≡ 10 → ⊥) → Ends room (finish q)
    → (in_room q room').answer ≡ (in_room q room).answer
unfolding answered paper_number
stopped_alike q room room' some other (stopped r e whole) = rw (room_decides q room, room_decides q room', e) refl
stopped_alike q room room' some other (short f e less whole) = absurd (other (ap (λ c. c.answer.number) (room_decides q room ∙ whole)))
stopped_alike q room room' some other (fits f e le whole) =
    absurd (omega (arith, accepted_number room f, ap (λ c. c.answer.number) (room_decides q room ∙ whole)))

-- Every other refusal is the same in every room.
-- Given by: the call is refused, and not with 10.
pub other_refusals_ignore_the_room : (q : Request) (room room' : ℕ) → 1 ≤ (in_room q room).answer.number → ((in_room q room).answer.number ≡ 10 → ⊥)
    → (in_room q room').answer ≡ (in_room q room).answer
other_refusals_ignore_the_room q room room' some other = stopped_alike q room room' some other (ends_so room (finish q))

-- ---- the limit

limit_more : (limit limit' : ℤ) → between (pos 1) most_steps limit ≡ true → between (pos 1) most_steps limit' ≡ true → le_z limit limit' ≡ true
    → nat_abs limit ≤ nat_abs limit'
limit_more limit limit' is is' more =
    leb-true (nat_abs limit) (nat_abs limit') (subst₂ (λ a b. le_z a b ≡ true) (in_limits_lem limit is).0 (in_limits_lem limit' is').0 more)

-- an end, and the same end with another limit word
pub record Relimited (limit : ℤ) (o : Outcome Finished) (f : Finished) : Type 0 where
  pub comes : o ≡ accepted (record { counts = f.counts; words = set f.words 1 limit; values = f.values; changes = f.changes })
  pub long : 1 < length f.words

module _ (bytes : List ℕ) (inputs : List ℤ) (limit limit' : ℤ) (is' : between (pos 1) most_steps limit' ≡ true) (more : le_z limit limit' ≡ true) where
  finish_more : Holds (Relimited limit' (finish_run bytes inputs limit')) (finish_run bytes inputs limit)
  unfolding finish_run record_of
  finish_more =
      holds_bind (check bytes) _ (holds_if (check bytes) (λ p e. e)) λ p checked.
      holds_need (fit p.types inputs) store_wrong _ λ fitted.
      holds_need (between (pos 1) most_steps limit) limit_wrong _ λ is.
      holds_bind (run p.root (nat_abs limit) (padded inputs)) _ (holds_if (run p.root (nat_abs limit) (padded inputs)) (λ d e. e)) λ d ran.
      let enough : d.steps ≤ nat_abs limit'
      = le_trans (steps_within p.root (nat_abs limit) (padded inputs) d ran) (limit_more limit limit' is is' more) in
      let again : run p.root (nat_abs limit') (padded inputs) ≡ accepted d
      = (costs_of p.root (nat_abs limit) (padded inputs) d ran).enough (nat_abs limit') enough in
      let word : limit' ≡ pos (nat_abs limit') = (in_limits_lem limit' is').0 in
      value (record { comes = rw (checked, fitted, is', again, ← word) refl; long = omega arith })

-- ends whose records are equally long have the same answer, but for the record
answer_of_lem : (room : ℕ) (f : Finished) (words : List ℤ) → length words ≡ length f.words
    → ((answered room (accepted (record { counts = f.counts; words = words; values = f.values; changes = f.changes }))).answer ≡ (answered room (accepted f)).answer)
    × ((answered room (accepted (record { counts = f.counts; words = words; values = f.values; changes = f.changes }))).buffer ≡ words ++ zeros (room - length f.words))
unfolding answered
answer_of_lem room f words same = rw same (refl, refl)

relimit : (room : ℕ) (limit : ℤ) (o : Outcome Finished) (f : Finished) → Relimited limit o f → length f.words ≤ room
    → ((answered room (o >>= within room)).answer ≡ (answered room (accepted f)).answer)
    × ((answered room (o >>= within room)).buffer ≡ set (answered room (accepted f)).buffer 1 limit)
unfolding answered
relimit room limit o f r le =
    let same : length (set f.words 1 limit) ≡ length f.words = length-set f.words 1 limit in
    let whole = answer_of_lem room f (set f.words 1 limit) same in
    rw (fitting room o _ r.comes (subst (λ n. n ≤ room) (sym same) le))
    (whole.0, whole.1 ∙ sym (set-append_left f.words (zeros (room - length f.words)) 1 limit r.long))

-- A larger limit changes an accepted run in nothing but the header's limit word.
-- Given by: the run is accepted with the smaller limit, and the larger one is a limit (else 7).
pub larger_limit_changes_its_word : (bytes : List ℕ) (inputs : List ℤ) (limit limit' : ℤ) (room : ℕ)
    → Accepted (call_run bytes inputs limit room) → le_z limit limit' ≡ true → between (pos 1) most_steps limit' ≡ true
    → ((call_run bytes inputs limit' room).answer ≡ (call_run bytes inputs limit room).answer)
    × ((call_run bytes inputs limit' room).buffer ≡ set (call_run bytes inputs limit room).buffer 1 limit')
unfolding call_run
larger_limit_changes_its_word bytes inputs limit limit' room a more is' =
    let e : Ended room (finish_run bytes inputs limit) = accepted_end room (finish_run bytes inputs limit) a in
    let r : Relimited limit' (finish_run bytes inputs limit') e.end
    = holds_of (subst (Holds (Relimited limit' (finish_run bytes inputs limit'))) e.comes (finish_more bytes inputs limit limit' is' more)) in
    rw e.whole (relimit room limit' (finish_run bytes inputs limit') e.end r e.fits)
