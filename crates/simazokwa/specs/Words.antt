-- The answer as C sees it: 72 words, and what a call of the library leaves.
-- Assumes nothing.
use Rattle.std.specs.Prelude.{◌≡◌, List, [], ◌∷◌, ◌++◌, ℕ, ◌<◌, length, ℤ, pos}
use Rattle.rules.specs.Call.{Answer, Called, call_run, call_patch}

-- number, place, steps, walked, reused, fresh, length, and a free word. There is no place yet, so word 1 is 0
unfoldable pub head_words : Answer → List ℤ
head_words a =
    pos a.number ∷ pos 0 ∷ pos a.steps ∷ pos a.counts.walked ∷ pos a.counts.reused ∷ pos a.counts.fresh ∷ pos a.length ∷ pos 0 ∷ []

-- the 72 words: the head, 32 values, 32 changes
unfoldable pub answer_words : Answer → List ℤ
answer_words a = head_words a ++ (a.values ++ a.changes)

-- a count that a signed word of 64 bits holds
abbrev pub IsWord : ℕ → Type 0
IsWord n = n < 9_223_372_036_854_775_808

-- each count of the answer is a word
pub record Tellable (a : Answer) : Type 0 where
  pub steps : IsWord a.steps
  pub walked : IsWord a.counts.walked
  pub reused : IsWord a.counts.reused
  pub fresh : IsWord a.counts.fresh
  pub words : IsWord a.length

-- the number, the 72 words and the record's buffer are those of this call
pub record Told (c : Called) (number : ℕ) (words after : List ℤ) : Type 0 where
  pub number_is : number ≡ c.answer.number
  pub words_are : words ≡ answer_words c.answer
  pub leaves : after ≡ c.buffer

-- ---- what the contracts of the library cite

-- of this run, in the room that was lent
abbrev pub RunTold : List ℕ → List ℤ → ℤ → ℕ → List ℤ → List ℤ → Type 0
RunTold bytes inputs limit number words after = Told (call_run bytes inputs limit (length after)) number words after

-- of this patch, in the room that was lent
abbrev pub PatchTold : List ℕ → List ℤ → List ℤ → ℕ → List ℤ → List ℤ → Type 0
PatchTold bytes old changes number words after = Told (call_patch bytes old changes (length after)) number words after
