-- `patch::parts::fork` meets its contract: the head, the snapshot after and the condition's record are read one behind another, and the
-- first that is broken is the answer. Assumes nothing.
use Rattle.patch.proofs.Nodes.{inside}
use Rattle.patch.proofs.Heads.{head_asked}
use Rattle.patch.proofs.Forks.{fork_headless, second_asked, second_broken, test_asked, fork_answer}
use Rattle.patch.proofs.parts.fork.Goals as goal

pub head_fits-requires : goal.head_fits-requires
head_fits-requires c = head_asked c.requires

pub returns-then-not-head_fits : goal.returns-then-not-head_fits
returns-then-not-head_fits c = fork_headless c.requires c.args.out.now _ c.head_fits.ensures c.if-not-head_fits.true _

pub mentions-w-requires : goal.mentions-w-requires
mentions-w-requires c = inside c.requires.known

pub snapshot_fits-requires : goal.snapshot_fits-requires
snapshot_fits-requires c =
    second_asked c.requires c.args.out.now _ c.head_fits.ensures c.if-not-head_fits.false c.mentions-w.ensures

pub returns-then-not-snapshot_fits : goal.returns-then-not-snapshot_fits
returns-then-not-snapshot_fits c =
    second_broken c.requires c.args.out.now _ c.head_fits.ensures c.if-not-head_fits.false c.mentions-w.ensures
    c.snapshot_fits.ensures c.if-not-snapshot_fits.true _

pub node-requires : goal.node-requires
node-requires c = inside c.requires.known

pub shift-requires : goal.shift-requires
shift-requires c =
    test_asked c.requires c.args.out.now _ c.head_fits.ensures c.if-not-head_fits.false c.mentions-w.ensures
    c.snapshot_fits.ensures c.if-not-snapshot_fits.false c.node.result c.node.ensures

pub returns : goal.returns
returns c =
    fork_answer c.requires c.args.out.now _ c.head_fits.ensures c.if-not-head_fits.false c.mentions-w.ensures
    c.snapshot_fits.ensures c.if-not-snapshot_fits.false c.node.result c.node.ensures c.shift.result _ c.shift.ensures
