-- `text::word::word_at` meets its contract: the eight bytes' worths are the word's bits.
-- Assumes nothing.
use Rattle.std.proofs.Common.{ap, ◌∙◌, w64, to_z}
use mir.ValLaws.{to_z-of_z}
use Rattle.text.proofs.Words.{word_is}
use Rattle.text.proofs.word.word_at.Goals as goal

pub returns : goal.returns
returns c =
    to_z-of_z w64 _ (record { sfits = c.from_le_bytes.type_inv }) ∙ c.from_le_bytes.ensures ∙ ap (to_z w64) (word_is c.args.s.now c.args.at)
