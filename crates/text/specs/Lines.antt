-- What the numbers of a line print as, each behind a space.
-- Assumes nothing.
use Rattle.std.specs.Prelude.{List, ◌∷◌, ◌++◌, ℕ, ℤ, flat_map}
use Rattle.std.specs.Fmt.{decimal, signed_decimal}
use Rattle.table.specs.declared.answer.Answer.{Answer}

-- a word
abbrev pub word_text : ℤ → List ℕ
word_text word = 32 ∷ signed_decimal word

-- words in their order
abbrev pub words_text : List ℤ → List ℕ
words_text words = flat_map word_text words

-- a count
abbrev pub count_text : ℕ → List ℕ
count_text count = 32 ∷ decimal count

-- the five counts of an answer, in their order
abbrev pub counts_text : Answer → List ℕ
counts_text a = count_text a.steps ++ (count_text a.walked ++ (count_text a.reused ++ (count_text a.fresh ++ count_text a.length)))
