-- An answer's 72 words, laid down part by part: head, values and changes fill them, and each count that is a word is read back as it is.
-- What a reader of the header file counts on: there are 72 words, and the number that a call returns is the first.
-- Assumes nothing.
use Rattle.std.specs.Prelude.{◌≡◌, ℕ, ◌+◌, ◌<◌, length, get_or, ℤ, pos}
use Rattle.std.proofs.Math.Path.{refl, ap}
use Rattle.std.proofs.Common.{sym, ◌∙◌, subst, arith, length-append, to_z}
use mathlib.Core.List.{List, [], ◌∷◌, ◌++◌}
use mir.Syntax.{w64}
use mir.ValLaws.{to_z_pos}
use Rattle.numbers.specs.Lay.{lay, lay_append, lay_to_end}
use Rattle.rules.specs.Call.{Answer, Called, IsRun, IsPatch}
use Rattle.simazokwa.specs.Words.{head_words, answer_words, Tellable, Told, RunTold, PatchTold}

-- three parts that fill a buffer
filled : (out xs ys zs : List ℤ) (n m : ℕ) → length xs ≡ n → length ys ≡ m → length out ≡ n + m + length zs
    → lay (lay (lay out 0 xs) n ys) (n + m) zs ≡ xs ++ (ys ++ zs)
filled out xs ys zs n m hx hy long =
    let one : lay out 0 (xs ++ (ys ++ zs)) ≡ lay (lay out 0 xs) n (ys ++ zs)
    = lay_append out 0 xs (ys ++ zs) ∙ ap (λ (k : ℕ). lay (lay out 0 xs) k (ys ++ zs)) (omega (arith, hx)) in
    let two : lay (lay out 0 xs) n (ys ++ zs) ≡ lay (lay (lay out 0 xs) n ys) (n + m) zs
    = lay_append (lay out 0 xs) n ys zs ∙ ap (λ (k : ℕ). lay (lay (lay out 0 xs) n ys) (n + k) zs) hy in
    sym two ∙ sym one ∙ lay_to_end out 0 (xs ++ (ys ++ zs)) (omega (arith, length-append xs (ys ++ zs), length-append ys zs, long, hx, hy))

-- the head in the machine's words, before it is known that each number is one
abbrev pub head_bits : ℕ → Answer → List ℤ
head_bits number a =
    to_z w64 number ∷ to_z w64 0 ∷ to_z w64 a.steps ∷ to_z w64 a.counts.walked ∷ to_z w64 a.counts.reused ∷ to_z w64 a.counts.fresh ∷ to_z w64
    a.length ∷ to_z w64 0 ∷ []

module _ {a : Answer} (small : Tellable a) {number : ℕ} (is : number ≡ a.number) (low : number < 4_294_967_296) where
  head_is : head_bits number a ≡ head_words a
  unfolding head_words
  head_is =
      rw (
        to_z_pos w64 number (omega (arith, low)),
        is,
        to_z_pos w64 a.steps small.steps,
        to_z_pos w64 a.counts.walked small.walked,
        to_z_pos w64 a.counts.reused small.reused,
        to_z_pos w64 a.counts.fresh small.fresh,
        to_z_pos w64 a.length small.words,
      ) refl

  -- the three parts, laid one after the other
  pub laid_is : (out : List ℤ) {one two three : List ℤ} → length out ≡ 72 → length a.values ≡ 32 → length a.changes ≡ 32
      → one ≡ lay out 0 (head_bits number a) → two ≡ lay one 8 a.values → three ≡ lay two 40 a.changes
      → three ≡ answer_words a
  unfolding answer_words head_words
  laid_is out long lv lc e f g =
      g
      ∙ ap (λ (l : List ℤ). lay l 40 a.changes) (f ∙ ap (λ (l : List ℤ). lay l 8 a.values) (e ∙ ap (lay out 0) head_is))
      ∙ filled out (head_words a) a.values a.changes 8 32 refl lv (omega (arith, long, lc))

-- ---- a call that meets its contract, and whose answer's words are told

pub run_told : {bytes : List ℕ} {inputs : List ℤ} {limit limit' : ℤ} {a : Answer} {number : ℕ} {words after : List ℤ}
    → IsRun bytes inputs limit' a after → limit' ≡ limit → number ≡ a.number → words ≡ answer_words a
    → RunTold bytes inputs limit number words after
run_told {bytes} {inputs} {a} {after} h same n w =
    let h' = subst (λ (z : ℤ). IsRun bytes inputs z a after) same h in
    record { number_is = n ∙ ap (λ (x : Answer). x.number) h'.answers; words_are = w ∙ ap answer_words h'.answers; leaves = h'.leaves }

pub patch_told : {bytes : List ℕ} {old changes : List ℤ} {a : Answer} {number : ℕ} {words after : List ℤ}
    → IsPatch bytes old changes a after → number ≡ a.number → words ≡ answer_words a
    → PatchTold bytes old changes number words after
patch_told h n w =
    record { number_is = n ∙ ap (λ (x : Answer). x.number) h.answers; words_are = w ∙ ap answer_words h.answers; leaves = h.leaves }

-- ---- what a reader counts on

-- Given by: nothing.
pub number_first : (a : Answer) → get_or (answer_words a) 0 (pos 0) ≡ pos a.number
unfolding answer_words head_words
number_first a = refl

-- Given by: the call was told. The number that it returned is its first word.
pub result_is_first : {c : Called} {number : ℕ} {words after : List ℤ} → Told c number words after → get_or words 0 (pos 0) ≡ pos number
result_is_first {c} h = ap (λ (l : List ℤ). get_or l 0 (pos 0)) h.words_are ∙ number_first c.answer ∙ ap pos (sym h.number_is)

-- Given by: both are told of one call. Number, words and record are determined.
pub told_is_determined : {c : Called} {n n' : ℕ} {words words' after after' : List ℤ} → Told c n words after → Told c n' words' after'
    → (n ≡ n') × (words ≡ words') × (after ≡ after')
told_is_determined h k = (h.number_is ∙ sym k.number_is, h.words_are ∙ sym k.words_are, h.leaves ∙ sym k.leaves)
