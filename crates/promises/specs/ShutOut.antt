-- The wrong answers that document 01 names under "How full the contracts must be": no function of such a kind is the run, or the
-- patch. The proof: what the definition computes on program P (`Marked.antt`).
-- Assumes nothing.
use Rattle.std.specs.Prelude.{◌≡◌, refl, ℕ, suc, ◌≤◌, List, [], ◌∷◌, ◌++◌, length, take, ℤ, pos, nat_abs}
use Rattle.std.proofs.Common.{sym, ap, ◌∙◌, subst, arith}
use Rattle.rules.specs.Computing.{computing}
use Rattle.rules.specs.Value.{at, zeros}
use Rattle.rules.specs.Patch.{Counts}
use Rattle.rules.specs.Call.{Answer, Called, call_run, call_patch}
use Rattle.rules.proofs.Laws.Answer.{record_in}
use Rattle.promises.specs.Marked.{program_p, record_p}
use Rattle.promises.specs.Rerun.{Left, by_run, by_patch}

-- a function of a run's inputs and room, and that it is the run; the same of the patch
abbrev pub Running : Type 0
Running = List ℕ → List ℤ → ℤ → ℕ → Called

abbrev pub IsTheRun : Running → Type 0
IsTheRun f = (bytes : List ℕ) (inputs : List ℤ) (limit : ℤ) (room : ℕ) → f bytes inputs limit room ≡ call_run bytes inputs limit room

abbrev pub Patching : Type 0
Patching = List ℕ → List ℤ → List ℤ → ℕ → Called

abbrev pub IsThePatch : Patching → Type 0
IsThePatch f = (bytes : List ℕ) (old changes : List ℤ) (room : ℕ) → f bytes old changes room ≡ call_patch bytes old changes room

-- the inputs 2 10 and 3 10 of P
abbrev inputs : List ℤ
inputs = pos 2 ∷ pos 10 ∷ []

abbrev more : List ℤ
more = pos 3 ∷ pos 10 ∷ []

-- the record of P on 2 9
abbrev near_p : List ℤ
near_p = (call_run program_p (pos 2 ∷ pos 9 ∷ []) (pos 100) 27).buffer

-- n raised by 1
abbrev raised : List ℤ
raised = pos 1 ∷ pos 0 ∷ []

-- the first word of a buffer
abbrev first : List ℤ → ℕ
first buffer = nat_abs (at buffer 0)

-- ---- the run

-- "one that only refuses". But P on 2 10 is accepted.
-- Given by: f refuses everything, f is the run.
pub not_only_refusing : (f : Running)
    → ((bytes : List ℕ) (inputs : List ℤ) (limit : ℤ) (room : ℕ) → 1 ≤ (f bytes inputs limit room).answer.number)
    → IsTheRun f → ⊥
unfolding computing program_p
not_only_refusing f refuses is =
    let number : (f program_p inputs (pos 100) 40).answer.number ≡ 0 = ap (λ c. c.answer.number) (is program_p inputs (pos 100) 40) in
    omega (arith, refuses program_p inputs (pos 100) 40)

-- "one with a fixed answer". But P on 2 10 takes 3 steps and on 3 10 it takes 4.
-- Given by: f answers the same always, f is the run.
pub not_a_fixed_answer : (f : Running) (fixed : Answer)
    → ((bytes : List ℕ) (inputs : List ℤ) (limit : ℤ) (room : ℕ) → (f bytes inputs limit room).answer ≡ fixed)
    → IsTheRun f → ⊥
unfolding computing program_p
not_a_fixed_answer f fixed h is =
    let three : fixed.steps ≡ 3 = ap (λ a. a.steps) (sym (h program_p inputs (pos 100) 40)) ∙ ap (λ c. c.answer.steps) (is program_p inputs (pos 100) 40) in
    let four : fixed.steps ≡ 4 = ap (λ a. a.steps) (sym (h program_p more (pos 100) 40)) ∙ ap (λ c. c.answer.steps) (is program_p more (pos 100) 40) in
    omega arith

-- "one that writes nothing". But the first word of P's record is 27.
-- Given by: f leaves zeros always, f is the run.
pub not_writing_nothing : (f : Running)
    → ((bytes : List ℕ) (inputs : List ℤ) (limit : ℤ) (room : ℕ) → (f bytes inputs limit room).buffer ≡ zeros room)
    → IsTheRun f → ⊥
unfolding computing program_p
not_writing_nothing f h is =
    let word : ◌≡◌ {A = ℕ} 0 27 = ap first (sym (h program_p inputs (pos 100) 40) ∙ ap (λ c. c.buffer) (is program_p inputs (pos 100) 40)) in
    omega arith

-- ---- the patch

-- "one that is right for the first patch and then copies"; the number says how many patches went before
pub record CopiesLater (f : ℕ → Patching) : Type 0 where
  pub right : IsThePatch (f 0)
  pub copies : (n : ℕ) (bytes : List ℕ) (old changes : List ℤ) (room : ℕ) → Left bytes old → length old ≤ room
      → take (length old) (f (suc n) bytes old changes room).buffer ≡ old

-- But from P's record on 3 10, which a patch left, n raised by 1 leaves a record of 41 words and not of 34.
-- Given by: f is of that kind, f is the patch however many patches went before.
pub not_copying_later : (f : ℕ → Patching) → CopiesLater f → ((n : ℕ) → IsThePatch (f n)) → ⊥
unfolding computing program_p record_in
not_copying_later f h is =
    let once : List ℤ = record_in (call_patch program_p (record_in (call_run program_p inputs (pos 100) 40) ++ []) raised 40) in
    let left : Left program_p once = by_patch (record_in (call_run program_p inputs (pos 100) 40)) [] raised 40 (by_run inputs (pos 100) 40 refl) refl in
    let word : ◌≡◌ {A = ℕ} 41 34 = ap first
    (ap (λ c. take (length once) c.buffer) (sym (is 1 program_p once raised 60)) ∙ h.copies 0 program_p once raised 60 left (omega arith)) in
    omega arith

-- "a rerun that calls every step fresh". But with n raised by 1 the patch of P walks 3 steps.
-- Given by: f reports neither walked nor reused steps, f is the patch.
pub not_a_rerun_called_fresh : (f : Patching)
    → ((bytes : List ℕ) (old changes : List ℤ) (room : ℕ)
    → ((f bytes old changes room).answer.counts.walked ≡ 0) × ((f bytes old changes room).answer.counts.reused ≡ 0))
    → IsThePatch f → ⊥
unfolding computing program_p record_p
not_a_rerun_called_fresh f h is =
    let three : (f program_p record_p raised 40).answer.counts.walked ≡ 3
    = ap (λ c. c.answer.counts.walked) (is program_p record_p raised 40) in
    omega (arith, (h program_p record_p raised 40).0)

-- "any invented count": counts by a rule from the steps and the new record. But P on 2 10 with nothing changed reuses 3 steps, and
-- P on 2 9 with s raised by 1 walks 3, to the same record.
-- Given by: f reports the counts by such a rule, f is the patch.
pub not_an_invented_count : (f : Patching) (rule : ℕ → List ℤ → Counts)
    → ((bytes : List ℕ) (old changes : List ℤ) (room : ℕ)
    → (f bytes old changes room).answer.counts ≡ rule (f bytes old changes room).answer.steps (f bytes old changes room).buffer)
    → IsThePatch f → ⊥
unfolding computing program_p record_p
not_an_invented_count f rule h is =
    let ruled : (old changes : List ℤ) → (call_patch program_p old changes 40).answer.counts
    ≡ rule (call_patch program_p old changes 40).answer.steps (call_patch program_p old changes 40).buffer
    = λ old changes. subst (λ c. c.answer.counts ≡ rule c.answer.steps c.buffer) (is program_p old changes 40) (h program_p old changes 40) in
    let counts : ◌≡◌ {A = ℕ} 3 0 = ap (λ c. c.reused) (ruled record_p (pos 0 ∷ pos 0 ∷ []) ∙ sym (ruled near_p (pos 0 ∷ pos 1 ∷ []))) in
    omega arith
