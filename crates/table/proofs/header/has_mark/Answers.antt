-- `table::header::has_mark` meets its contract: the first four bytes are those of the mark.
-- Assumes nothing.
use mathlib.Core.Path.{◌∙◌}
use Rattle.table.specs.Laws.Tests.{mark_told}
use Rattle.table.proofs.header.has_mark.Goals as goal

pub returns : goal.returns
returns c = c.starts_with.ensures.value ∙ mark_told c.args.t.now c.requires
