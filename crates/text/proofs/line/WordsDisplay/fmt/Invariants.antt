-- `Words` displays what its output says. The loop's invariant: the words so far have been written.
-- Assumes nothing.
use Rattle.std.proofs.Common.{take}
use Rattle.std.specs.Fmt.{HasWritten, IsPlainFormatter}
use Rattle.text.specs.Lines.{words_text}
use Rattle.text.proofs.line.WordsDisplay.fmt.Given as goal

abbrev pub invariant-loop-word : goal.invariant-loop-word
invariant-loop-word g l =
    IsPlainFormatter l.initial.f → HasWritten g.W.Write.write_str_gives l.initial.f (words_text (take l.word-index l.word-items)) l.f
