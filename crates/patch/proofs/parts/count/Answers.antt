-- `patch::parts::count` meets its contract: the head and the count's record are read one behind the other, and the first that is broken is
-- the answer. Assumes nothing.
use Rattle.patch.proofs.Nodes.{inside}
use Rattle.patch.proofs.Heads.{head_asked}
use Rattle.patch.proofs.Counts.{count_headless, count_below, count_asked, count_answer}
use Rattle.patch.proofs.parts.count.Goals as goal

pub head_fits-requires : goal.head_fits-requires
head_fits-requires c = head_asked c.requires

pub returns-then-not-head_fits : goal.returns-then-not-head_fits
returns-then-not-head_fits c = count_headless c.requires c.args.out.now _ c.head_fits.ensures c.if-not-head_fits.true _

pub mentions-w-requires : goal.mentions-w-requires
mentions-w-requires c = inside c.requires.known

pub node-requires : goal.node-requires
node-requires c = inside c.requires.known

pub bounds-old-reached : goal.bounds-old-reached
bounds-old-reached c = count_below c.requires c.args.out.now _ c.head_fits.ensures c.if-not-head_fits.false

pub operand-requires : goal.operand-requires
operand-requires c =
    count_asked c.requires c.args.out.now _ c.head_fits.ensures c.if-not-head_fits.false c.mentions-w.ensures
    c.node.result c.node.ensures

pub returns : goal.returns
returns c =
    count_answer c.requires c.args.out.now _ c.head_fits.ensures c.if-not-head_fits.false c.mentions-w.ensures
    c.node.result c.node.ensures c.operand.result _ c.operand.ensures
