-- `patch::call::rooted` meets its contract: the visit of the root's node starts behind the header.
-- Assumes nothing.
use native.Mathlib.Omega.{arith}
use Rattle.patch.proofs.Rooting.{accepted_as, few, root_visitable, root_visits}
use Rattle.patch.proofs.call.rooted.Goals as goal

pub fill-requires : goal.fill-requires
fill-requires c = accepted_as c.requires.start

pub new-script-requires-clause-accepted : goal.new-script-requires-clause-accepted
new-script-requires-clause-accepted c = accepted_as c.requires.start

pub overflow_mul-place : goal.overflow_mul-place
overflow_mul-place c = omega (arith, c.variables.ensures, few c.requires.start c.new-script.ensures.table)

pub overflow_add-place : goal.overflow_add-place
overflow_add-place c = omega (arith, c.variables.ensures, few c.requires.start c.new-script.ensures.table)

pub visit-requires : goal.visit-requires
visit-requires c =
    root_visitable c.requires.start c.requires.whole c.new-script.result c.new-script.ensures.table c.variables.ensures c.root.result c.root.ensures (omega arith)

pub returns : goal.returns
returns c h = root_visits h.start h.whole c.new-script.result c.new-script.ensures.table c.variables.ensures c.root.result c.root.ensures c.visit.result _ _ c.visit.ensures
