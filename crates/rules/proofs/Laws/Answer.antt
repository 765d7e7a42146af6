-- Laws of whole answers: what the answer and the buffer of an accepted call are, and of a refused one.
-- Assumes nothing.
use Rattle.std.specs.Prelude.{◌≡◌, refl, ℕ, zero, suc, ◌-◌, ◌≤◌, Bool, true, false, List, length, take, leb, ℤ}
use Rattle.std.proofs.Common.{sym, ap, ◌∙◌, arith, leb-true, le-leb}
use Rattle.std.proofs.Math.Seq.{take-append_seam}
use Rattle.rules.specs.Outcome.{Refusal, header_wrong, type_wrong, node_wrong, use_wrong, too_deep, store_wrong, limit_wrong, out_of_range, fuel_spent, room_short, change_wrong, broken, paper_number, Outcome, accepted, refused, ◌>>=◌, need}
use Rattle.rules.specs.Value.{zeros}
use Rattle.rules.specs.Call.{Called, Finished, within, answered}

-- the call accepted
abbrev pub Accepted : Called → Type 0
Accepted c = c.answer.number ≡ 0

-- the record that a call left in its buffer
unfoldable pub record_in : Called → List ℤ
record_in c = take c.answer.length c.buffer

-- no refusal has the number 0
pub number_some : (r : Refusal) → 1 ≤ paper_number r
unfolding paper_number
number_some header_wrong = omega arith
number_some type_wrong = omega arith
number_some node_wrong = omega arith
number_some use_wrong = omega arith
number_some too_deep = omega arith
number_some store_wrong = omega arith
number_some limit_wrong = omega arith
number_some out_of_range = omega arith
number_some fuel_spent = omega arith
number_some room_short = omega arith
number_some change_wrong = omega arith
number_some broken = omega arith

-- the number tells which refusal it is
unfoldable refusal_of : ℕ → Refusal
refusal_of zero = header_wrong
refusal_of (suc zero) = header_wrong
refusal_of (suc (suc zero)) = type_wrong
refusal_of (suc (suc (suc zero))) = node_wrong
refusal_of (suc (suc (suc (suc zero)))) = use_wrong
refusal_of (suc (suc (suc (suc (suc zero))))) = too_deep
refusal_of (suc (suc (suc (suc (suc (suc zero)))))) = store_wrong
refusal_of (suc (suc (suc (suc (suc (suc (suc zero))))))) = limit_wrong
refusal_of (suc (suc (suc (suc (suc (suc (suc (suc zero)))))))) = out_of_range
refusal_of (suc (suc (suc (suc (suc (suc (suc (suc (suc zero))))))))) = fuel_spent
refusal_of (suc (suc (suc (suc (suc (suc (suc (suc (suc (suc zero)))))))))) = room_short
refusal_of (suc (suc (suc (suc (suc (suc (suc (suc (suc (suc (suc zero))))))))))) = change_wrong
refusal_of (suc (suc (suc (suc (suc (suc (suc (suc (suc (suc (suc (suc n)))))))))))) = broken

of_number : (r : Refusal) → refusal_of (paper_number r) ≡ r
unfolding refusal_of paper_number
of_number header_wrong = refl
of_number type_wrong = refl
of_number node_wrong = refl
of_number use_wrong = refl
of_number too_deep = refl
of_number store_wrong = refl
of_number limit_wrong = refl
of_number out_of_range = refl
of_number fuel_spent = refl
of_number room_short = refl
of_number change_wrong = refl
of_number broken = refl

pub number_injective : (r q : Refusal) → paper_number r ≡ paper_number q → r ≡ q
number_injective r q e = sym (of_number r) ∙ ap refusal_of e ∙ of_number q

-- ---- an accepted call

-- what a call ended with before its room was tested, where it accepted
pub record Ended (room : ℕ) (o : Outcome Finished) : Type 0 where
  pub end : Finished
  pub comes : o ≡ accepted end
  pub fits : length end.words ≤ room
  pub whole : answered room (o >>= within room) ≡ answered room (accepted end)

ended_room : (room : ℕ) (f : Finished) (b : Bool) → leb (length f.words) room ≡ b
    → Accepted (answered room (need b room_short >>= λ u. accepted f)) → length f.words ≤ room
unfolding answered paper_number
ended_room room f true e a = leb-true (length f.words) room e
ended_room room f false e a = absurd (omega arith)

pub accepted_end : (room : ℕ) (o : Outcome Finished) → Accepted (answered room (o >>= within room)) → Ended room o
unfolding within answered
accepted_end room (accepted f) a =
    let le : length f.words ≤ room = ended_room room f (leb (length f.words) room) refl a in
    record { end = f; comes = refl; fits = le; whole = rw (le-leb (length f.words) room le) }
accepted_end room (refused r) a = absurd (omega (arith, number_some r))

-- the record in its buffer is the words that it ended with
pub record_back : (room : ℕ) (o : Outcome Finished) (e : Ended room o) → record_in (answered room (o >>= within room)) ≡ e.end.words
unfolding record_in answered
record_back room o e = rw e.whole (take-append_seam e.end.words (zeros (room - length e.end.words)))
