-- `text::word::decode` meets its contract. The loop's invariant: the first i words are those of the bytes.
-- Assumes nothing.
use Rattle.text.specs.Words.{Decoded}
use Rattle.text.proofs.word.decode.Given as goal

abbrev pub invariant-loop-i : goal.invariant-loop-i
invariant-loop-i l = Decoded l.bytes l.i l.words
