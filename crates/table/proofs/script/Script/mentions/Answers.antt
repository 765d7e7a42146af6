-- `table::script::Script::mentions` meets its contract: the node has a list, which lies in its row.
-- Assumes nothing.
use Rattle.table.specs.Laws.Reading.{listed_row}
use Rattle.table.proofs.script.Script.mentions.Goals as goal

pub of-requires : goal.of-requires
of-requires c = let s = c.args.self.now in listed_row s.checked.table.now s.lists.now.lists c.args.n s.checked.accepted s.listed c.requires
