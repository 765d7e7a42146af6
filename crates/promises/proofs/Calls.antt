-- Demand 3 about the code: any two calls that meet the contracts of the run and of the patch.
-- The record is one that such calls left, each going on from the one before; the patch and the run on the changed inputs, in equal room,
-- then end with the same outcome and leave the same words, and old outputs plus reported changes are the run's outputs.
-- The proof: a contract says that answer and buffer are the definition's, through the paper's numbers and values of the code's answers,
-- so demand 3 about the definitions (`patch_is_rerun`) is demand 3 about the calls.
-- Assumes nothing.
use Rattle.std.specs.Prelude.{◌≡◌, refl, ℕ, ◌+◌, ◌≤◌, true, List, ◌++◌, length, take, ℤ}
use Rattle.std.proofs.Common.{sym, ap, ap₂, ◌∙◌, subst, arith}
use Rattle.rules.specs.Outcome.{accepted, paper_number}
use Rattle.rules.specs.Value.{Ty, plus_all}
use Rattle.rules.specs.Table.{Program, check}
use Rattle.rules.specs.Call as Paper
use Rattle.rules.specs.Call.{Called, call_run, call_patch, limit_of, inputs_of, outputs_of, legal, IsRun, IsPatch}
use Rattle.rules.proofs.Laws.Answer.{record_in, number_some, number_injective}
use Rattle.table.specs.Paper.{reason_of, refusal_for, number_of, answer_of}
use Rattle.table.specs.declared.answer.Refusal.{Refusal}
use Rattle.table.specs.declared.answer.Refusal.TheVariants.{Header, Types, Node, Use, Depth, Store, Limit, Range, Fuel, Room, Change, Broken}
use Rattle.table.specs.declared.answer.Outcome.{Outcome}
use Rattle.table.specs.declared.answer.Outcome.TheVariants.{Accepted, Refused}
use Rattle.table.specs.declared.answer.Answer.{Answer}
use Rattle.promises.specs.Rerun.{Left, by_run, by_patch, IsRerun}
use Rattle.promises.proofs.Rerun.{patch_is_rerun}
use Rattle.promises.specs.Code.{LeftByCalls, ran, patched, SameAsRun}

-- the code's refusal for the paper's reason of a refusal is that refusal
refusal_back : (q : Refusal) → refusal_for (reason_of q) ≡ q
refusal_back Header = refl
refusal_back Types = refl
refusal_back Node = refl
refusal_back Use = refl
refusal_back Depth = refl
refusal_back Store = refl
refusal_back Limit = refl
refusal_back Range = refl
refusal_back Fuel = refl
refusal_back Room = refl
refusal_back Change = refl
refusal_back Broken = refl

-- the number tells the outcome
pub same_outcome : (o p : Outcome) → number_of o ≡ number_of p → o ≡ p
same_outcome Accepted Accepted e = refl
same_outcome Accepted (Refused q) e = absurd (none (number_some (reason_of q)))
  where
    none : 1 ≤ paper_number (reason_of q) → ⊥
    none h = omega arith
same_outcome (Refused q) Accepted e = absurd (none (number_some (reason_of q)))
  where
    none : 1 ≤ paper_number (reason_of q) → ⊥
    none h = omega arith
same_outcome (Refused q) (Refused r) e =
    ap Refused (sym (refusal_back q) ∙ ap refusal_for (number_injective (reason_of q) (reason_of r) e) ∙ refusal_back r)

-- an accepted call's number is 0
is_zero : (o : Outcome) → o ≡ Accepted → number_of o ≡ 0
is_zero o e = ap number_of e

-- what calls of the code left is what the definitions leave
left_by_calls : (bytes : List ℕ) (words : List ℤ) → LeftByCalls bytes words → Left bytes words
unfolding record_in
left_by_calls bytes words (ran inputs limit a buffer h e) =
    subst (Left bytes) (sym (ap₂ {C = List ℤ} take (ap (λ (x : Paper.Answer). x.length) h.answers) h.leaves))
    (by_run inputs limit (length buffer) (sym (ap (λ (x : Paper.Answer). x.number) h.answers) ∙ is_zero a.outcome e))
left_by_calls bytes words (patched old behind changes a buffer left h e) =
    subst (Left bytes) (sym (ap₂ {C = List ℤ} take (ap (λ (x : Paper.Answer). x.length) h.answers) h.leaves))
    (by_patch old behind changes (length buffer) (left_by_calls bytes old left) (sym (ap (λ (x : Paper.Answer). x.number) h.answers) ∙ is_zero a.outcome e))

-- what is said of the definitions' calls is said of the code's
said_of_code : (types : List Ty) (olds : List ℤ) (a r : Answer) (buffer rerun : List ℤ) (x y : Called) → IsRerun types olds x y
    → answer_of a ≡ x.answer → buffer ≡ x.buffer → answer_of r ≡ y.answer → rerun ≡ y.buffer → SameAsRun types olds a buffer r rerun
said_of_code types olds a r buffer rerun x y h ea eb er ew = record {
  outcome = same_outcome a.outcome r.outcome (number a ea ∙ h.number ∙ sym (number r er));
  words = eb ∙ h.buffer ∙ sym ew;
  steps = ap (λ (z : Paper.Answer). z.steps) ea ∙ h.steps ∙ sym (ap (λ (z : Paper.Answer). z.steps) er);
  record_length = ap (λ (z : Paper.Answer). z.length) ea ∙ h.record_length ∙ sym (ap (λ (z : Paper.Answer). z.length) er);
  values = ap (λ (z : Paper.Answer). z.values) ea ∙ h.values ∙ sym (ap (λ (z : Paper.Answer). z.values) er);
  outputs = λ e.
      ap (λ (z : Paper.Answer). plus_all types olds z.changes) ea
      ∙ h.outputs (sym (number a ea) ∙ is_zero a.outcome e)
      ∙ sym (ap (λ (z : Paper.Answer). take (length types) z.values) er);
  counted = subst (λ (z : Paper.Answer). z.counts.walked + z.counts.reused + z.counts.fresh ≡ z.steps) (sym ea) h.counted;
}
  where
    number : (b : Answer) {z : Paper.Answer} → answer_of b ≡ z → number_of b.outcome ≡ z.number
    number b e = ap (λ (w : Paper.Answer). w.number) e

-- ---- the promise

-- Given by: the table is accepted (the table check); the old record is one that accepted calls left (the caller, who keeps it); the list
-- is legal (the patch: else it answers 11); the two calls meet their contracts (`patch` and `run` do); their buffers are equally long.
pub call_patch_is_call_run : (bytes : List ℕ) (p : Program) → check bytes ≡ accepted p
    → (old : List ℤ) → LeftByCalls bytes old
    → (changes : List ℤ) → legal p.types (inputs_of p.types old) changes ≡ true
    → (behind : List ℤ) (a : Answer) (buffer : List ℤ) → IsPatch bytes (old ++ behind) changes (answer_of a) buffer
    → (r : Answer) (rerun : List ℤ) → IsRun bytes (plus_all p.types (inputs_of p.types old) changes) (limit_of old) (answer_of r) rerun
    → length rerun ≡ length buffer
    → SameAsRun p.types (outputs_of p.types old) a buffer r rerun
call_patch_is_call_run bytes p checked old left changes h behind a buffer meets r rerun meets' long =
    let inputs = plus_all p.types (inputs_of p.types old) changes in
    said_of_code p.types (outputs_of p.types old) a r buffer rerun
    (call_patch bytes (old ++ behind) changes (length buffer)) (call_run bytes inputs (limit_of old) (length buffer))
    (patch_is_rerun bytes p checked old (left_by_calls bytes old left) changes h behind (length buffer))
    meets.answers meets.leaves
    (meets'.answers ∙ ap (λ (n : ℕ). (call_run bytes inputs (limit_of old) n).answer) long)
    (meets'.leaves ∙ ap (λ (n : ℕ). (call_run bytes inputs (limit_of old) n).buffer) long)
