-- Demand 3: a patch is a rerun.
-- From a record that an accepted call left, with a legal list of changes, the patch and the run on the changed inputs with the
-- record's limit and the same room accept together or refuse with the same number; accepted, they leave the same words, and old
-- outputs plus reported changes are the run's outputs.
-- The proof: such a record is the record of a run (`left_made`), and from one the patch follows the rerun (`patch_follows`).
-- Assumes nothing.
use Rattle.std.specs.Prelude.{◌≡◌, refl, ℕ, ◌-◌, ◌≤◌, Bool, true, false, List, ◌++◌, length, leb, ℤ}
use Rattle.std.proofs.Common.{sym, ap, ◌∙◌, subst, arith, le-leb}
use Rattle.std.proofs.Math.Seq.{take-append_seam}
use Rattle.rules.specs.Outcome.{Refusal, Outcome, accepted, refused, ◌>>=◌, need, room_short}
use Rattle.rules.specs.Value.{Ty, zeros, plus_all}
use Rattle.rules.specs.Table.{Program, check}
use Rattle.rules.specs.Patch.{steps_of, no_steps}
use Rattle.rules.specs.Call.{Finished, within, answered, finish_run, call_run, limit_of, inputs_of, outputs_of, legal, finish_patch, call_patch}
use Rattle.rules.proofs.Laws.Outcome.{Holds, holds_of, Alike, values, refusals}
use Rattle.rules.proofs.Laws.Answer.{number_some, Accepted, record_in, Ended, accepted_end, record_back}
use Rattle.rules.proofs.Laws.Rerun.{Made, Again, named, finished, run_made, patch_made, patch_follows}
use Rattle.promises.specs.Rerun.{Left, by_run, by_patch, IsRerun}

-- a record that an accepted call left is the record of a run
left_made : (bytes : List ℕ) (words : List ℤ) → Left bytes words → Made bytes words
unfolding call_run call_patch
left_made bytes words (by_run inputs limit room a) =
    let e : Ended room (finish_run bytes inputs limit) = accepted_end room (finish_run bytes inputs limit) a in
    subst (Made bytes) (sym (record_back room (finish_run bytes inputs limit) e))
    (holds_of (subst (Holds (λ f. Made bytes f.words)) e.comes (run_made bytes inputs limit)))
left_made bytes words (by_patch old behind changes room left a) =
    let e : Ended room (finish_patch bytes (old ++ behind) changes) = accepted_end room (finish_patch bytes (old ++ behind) changes) a in
    subst (Made bytes) (sym (record_back room (finish_patch bytes (old ++ behind) changes) e))
    (holds_of (subst (Holds (λ f. Made bytes f.words)) e.comes (patch_made bytes old (left_made bytes old left) behind changes)))

-- both refused
refused_both : (types : List Ty) (olds : List ℤ) (room : ℕ) (r : Refusal) → IsRerun types olds (answered room (refused r)) (answered room (refused r))
unfolding answered no_steps
refused_both types olds room r = record {
  number = refl;
  buffer = refl;
  steps = refl;
  record_length = refl;
  values = refl;
  outputs = λ e. absurd (omega (arith, number_some r));
  counted = refl;
}

-- two ends that are the same, in the same room
same_end : (types : List Ty) (olds : List ℤ) (room : ℕ) (f g : Finished) → Again types olds f g → (b : Bool)
    → IsRerun types olds (answered room (need b room_short >>= λ u. accepted g)) (answered room (need b room_short >>= λ u. accepted f))
unfolding answered steps_of
same_end types olds room f g a true = record {
  number = refl;
  buffer = ap (λ (ws : List ℤ). ws ++ zeros (room - length ws)) a.words;
  steps = a.steps;
  record_length = ap length a.words;
  values = a.values;
  outputs = λ e. a.moved;
  counted = refl;
}
same_end types olds room f g a false = refused_both types olds room room_short

alike_end : (types : List Ty) (olds : List ℤ) (room : ℕ) (m n : Outcome Finished) → Alike (Again types olds) m n
    → IsRerun types olds (answered room (n >>= within room)) (answered room (m >>= within room))
unfolding within
alike_end types olds room m n (values {a = f} {b = g} a) =
    rw (ap length a.words) (same_end types olds room f g a (leb (length f.words) room))
alike_end types olds room m n (refusals {r}) = refused_both types olds room r

one_program : {m : Outcome Program} {p q : Program} → m ≡ accepted p → m ≡ accepted q → p ≡ q
one_program e f = cc

-- what the promise says of a program, a record and a list
abbrev Says : List ℕ → List ℤ → List ℤ → List ℤ → ℕ → Program → Type 0
Says bytes old changes behind room p = legal p.types (inputs_of p.types old) changes ≡ true
    → IsRerun p.types (outputs_of p.types old)
    (call_patch bytes (old ++ behind) changes room)
    (call_run bytes (plus_all p.types (inputs_of p.types old) changes) (limit_of old) room)

made_says : (bytes : List ℕ) (old changes behind : List ℤ) (room : ℕ) (made : Made bytes old) → Says bytes old changes behind room made.program
unfolding call_run call_patch
made_says bytes old changes behind room made h =
    let names = named bytes old made in
    rw (names.inputs, names.outputs, names.limit)
    (alike_end made.program.types _ room _ _ (patch_follows bytes old made changes (rw names.inputs at h) behind))

-- ---- the promise

-- Given by: the table is accepted, the record is left by an accepted call, the list is legal (not refused by 11).
pub patch_is_rerun : (bytes : List ℕ) (p : Program) → check bytes ≡ accepted p
    → (old : List ℤ) → Left bytes old
    → (changes : List ℤ) → legal p.types (inputs_of p.types old) changes ≡ true
    → (behind : List ℤ) (room : ℕ)
    → IsRerun p.types (outputs_of p.types old)
    (call_patch bytes (old ++ behind) changes room)
    (call_run bytes (plus_all p.types (inputs_of p.types old) changes) (limit_of old) room)
patch_is_rerun bytes p checked old left changes h behind room =
    let made : Made bytes old = left_made bytes old left in
    let same : made.program ≡ p = one_program made.checked checked in
    subst (Says bytes old changes behind room) same (made_says bytes old changes behind room made) h

-- what the corollary says
abbrev IsOf : List ℕ → List ℤ → ℕ → Program → Type 0
IsOf bytes old room p = (Accepted (call_run bytes (inputs_of p.types old) (limit_of old) room))
    × (record_in (call_run bytes (inputs_of p.types old) (limit_of old) room) ≡ old)

finished_in : (room : ℕ) (words : List ℤ) (f : Finished) → words ≡ f.words → length words ≤ room
    → Accepted (answered room (accepted f >>= within room)) × (record_in (answered room (accepted f >>= within room)) ≡ words)
unfolding answered within record_in
finished_in room words f e le =
    let fits : leb (length f.words) room ≡ true = subst (λ ws. leb (length ws) room ≡ true) e (le-leb (length words) room le) in
    rw fits (refl, take-append_seam f.words (zeros (room - length f.words)) ∙ sym e)

made_is : (bytes : List ℕ) (old : List ℤ) (room : ℕ) → length old ≤ room → (made : Made bytes old) → IsOf bytes old room made.program
unfolding call_run
made_is bytes old room le made =
    let names = named bytes old made in
    rw (names.inputs, names.limit, finished bytes old made) (finished_in room old _ made.is le)

-- Corollary: a record that an accepted call left is the record of a run on the inputs and limit that it names.
-- Given by: the table check (the table is accepted), the caller (the record is left; the room holds it).
pub left_is_run : (bytes : List ℕ) (p : Program) → check bytes ≡ accepted p → (old : List ℤ) → Left bytes old
    → (room : ℕ) → length old ≤ room
    → (Accepted (call_run bytes (inputs_of p.types old) (limit_of old) room))
    × (record_in (call_run bytes (inputs_of p.types old) (limit_of old) room) ≡ old)
left_is_run bytes p checked old left room fits =
    let made : Made bytes old = left_made bytes old left in
    subst (IsOf bytes old room) (one_program made.checked checked) (made_is bytes old room fits made)
