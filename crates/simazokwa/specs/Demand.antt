-- Demand 3 as C sees it: from a record that accepted calls left, a patch's result and buffer are those of the run on the changed inputs
-- in a buffer of that length, and both report the same steps, record length and values.
-- The proof: `Told` says that these are the definition's, and of the definitions it is `patch_is_rerun`.
-- Assumes nothing.
use Rattle.std.specs.Prelude.{◌≡◌, true, List, ◌++◌, ℕ, length, get_or, ℤ}
use Rattle.std.proofs.Common.{sym, ap, ◌∙◌, subst}
use Rattle.std.proofs.Math.IntN.{pos}
use Rattle.rules.specs.Outcome.{accepted}
use Rattle.rules.specs.Value.{Ty, plus_all}
use Rattle.rules.specs.Table.{Program, check}
use Rattle.rules.specs.Call.{Called, call_run, limit_of, inputs_of, outputs_of, legal}
use Rattle.promises.specs.Rerun.{Left, IsRerun}
use Rattle.promises.proofs.Rerun.{patch_is_rerun}
use Rattle.simazokwa.specs.Words.{head_words, answer_words, Told, RunTold, PatchTold}

-- what a patch's call left, beside what a run's call left. Their words are those of two answers, as `answer_words` sets them out, and of
-- these `IsRerun` says all of demand 3: the same steps, length and values, and old outputs plus reported changes are the values
pub record SameInC (types : List Ty) (olds : List ℤ) (number number' : ℕ) (words words' after rerun : List ℤ) : Type 0 where
  pub results : number ≡ number'
  pub records : after ≡ rerun
  pub patched : Called
  pub ran : Called
  pub patched_told : Told patched number words after
  pub ran_told : Told ran number' words' rerun
  pub answers : IsRerun types olds patched ran

same_in_c : (types : List Ty) (olds : List ℤ) {x y : Called} {n n' : ℕ} {ws ws' after rerun : List ℤ} → IsRerun types olds x y
    → Told x n ws after → Told y n' ws' rerun → SameInC types olds n n' ws ws' after rerun
same_in_c types olds {x} {y} h a b = record {
  results = a.number_is ∙ h.number ∙ sym b.number_is;
  records = a.leaves ∙ h.buffer ∙ sym b.leaves;
  patched = x;
  ran = y;
  patched_told = a;
  ran_told = b;
  answers = h;
}

-- the words that C compares: the steps, and the length of the record
module _ {types : List Ty} {olds : List ℤ} {n n' : ℕ} {ws ws' after rerun : List ℤ} (h : SameInC types olds n n' ws ws' after rerun) where
  -- a word that is the same in both answers
  same_word : (i : ℕ) → get_or (answer_words h.patched.answer) i (pos 0) ≡ get_or (answer_words h.ran.answer) i (pos 0)
      → get_or ws i (pos 0) ≡ get_or ws' i (pos 0)
  same_word i e = ap (λ (l : List ℤ). get_or l i (pos 0)) h.patched_told.words_are ∙ e
      ∙ sym (ap (λ (l : List ℤ). get_or l i (pos 0)) h.ran_told.words_are)

  pub same_steps : get_or ws 2 (pos 0) ≡ get_or ws' 2 (pos 0)
  unfolding answer_words head_words
  same_steps = same_word 2 (ap pos h.answers.steps)

  pub same_length : get_or ws 6 (pos 0) ≡ get_or ws' 6 (pos 0)
  unfolding answer_words head_words
  same_length = same_word 6 (ap pos h.answers.record_length)

-- Given by: the table is accepted (simazokwa_check); the old record is one that accepted calls left (the caller); the list is legal
-- (the patch: else its result is 11); the two record buffers are equally long (the caller).
pub patch_in_c_is_rerun : (bytes : List ℕ) (p : Program) → check bytes ≡ accepted p → (old : List ℤ) → Left bytes old
    → (changes : List ℤ) → legal p.types (inputs_of p.types old) changes ≡ true
    → (behind : List ℤ) {n n' : ℕ} {ws ws' after rerun : List ℤ} → PatchTold bytes (old ++ behind) changes n ws after
    → RunTold bytes (plus_all p.types (inputs_of p.types old) changes) (limit_of old) n' ws' rerun → length rerun ≡ length after
    → SameInC p.types (outputs_of p.types old) n n' ws ws' after rerun
patch_in_c_is_rerun bytes p checked old left changes h behind {n'} {ws'} {after} {rerun} a b long =
    let inputs = plus_all p.types (inputs_of p.types old) changes in
    same_in_c p.types (outputs_of p.types old) (patch_is_rerun bytes p checked old left changes h behind (length after)) a
    (subst (λ (room : ℕ). Told (call_run bytes inputs (limit_of old) room) n' ws' rerun) long b)
