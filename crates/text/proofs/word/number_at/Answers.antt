-- `text::word::number_at` meets its contract: the four bytes' worths are the number.
-- Assumes nothing.
use Rattle.std.proofs.Common.{◌∙◌}
use Rattle.text.proofs.Words.{number_is}
use Rattle.text.proofs.word.number_at.Goals as goal

pub returns : goal.returns
returns c = c.from_le_bytes.ensures ∙ number_is c.args.s.now c.args.at
