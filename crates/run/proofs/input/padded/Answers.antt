-- `run::input::padded` meets its contract: the words are copied over the start of zeros.
-- Assumes nothing.
use mathlib.Core.Path.{sym}
use lib.ListN.{length}
use Rattle.rules.specs.Value.{zeros, most_variables}
use Rattle.run.specs.Laws.Laying.{copied_padded, start_long}
use Rattle.run.proofs.input.padded.Goals as goal

pub slice_bounds-values-end : goal.slice_bounds-values-end
unfolding most_variables
slice_bounds-values-end c = c.requires

pub slice_bounds-copy_from_slice-end : goal.slice_bounds-copy_from_slice-end
unfolding zeros most_variables
slice_bounds-copy_from_slice-end c = sym (start_long (length c.args.words.now) c.requires)

pub copy_from_slice-requires : goal.copy_from_slice-requires
unfolding zeros most_variables
copy_from_slice-requires c = start_long (length c.args.words.now) c.requires

pub returns : goal.returns
unfolding zeros most_variables
returns c = rw c.copy_from_slice.ensures.after (copied_padded c.args.words.now c.requires)
