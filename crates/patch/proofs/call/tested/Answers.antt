-- `patch::call::tested` meets its contract: each test in turn is a test of the definition.
-- Assumes nothing.
use native.Mathlib.Omega.{arith}
use Rattle.table.specs.Accepted.{AcceptedTable}
use Rattle.run.specs.Laws.Statements.{refusal_up}
use Rattle.run.specs.Laws.Tests.{check_accepted}
use Rattle.patch.proofs.Testing.{check_refused, table_sized, header_refused, inputs_there, legal_asked, change_refused, all_passed}
use Rattle.patch.proofs.call.tested.Goals as goal
use Rattle.patch.proofs.call.tested.Goals.{In_ok-check}

-- the table that is accepted
table : (c : In_ok-check) → AcceptedTable c.args.t.now
table c = check_accepted c.args.t.now c.in_ok-check.was c.check.ensures

pub returns-in_err-check : goal.returns-in_err-check
returns-in_err-check c = rw (refusal_up c.from_residual.ensures.1) (check_refused c.args.t.now _ _ c.check.ensures c.in_err-check.was)

pub read_header-requires : goal.read_header-requires
read_header-requires c = table_sized (table c)

pub returns-in_err-head : goal.returns-in_err-head
returns-in_err-head c =
    rw (refusal_up c.from_residual-in_err-head.ensures.1)
    (header_refused c.args.t.now _ _ (table (goal.at.returns-in_err-head c).In_ok-check) c.read_header.ensures c.in_err-head.was)

pub pair-requires : goal.pair-requires
pair-requires c = omega (arith, (table_sized (table (goal.at.pair-requires c).In_ok-check)).whole)

pub slice_bounds-legal-end : goal.slice_bounds-legal-end
slice_bounds-legal-end c =
    omega (
      arith,
      inputs_there c.args.t.now c.args.old.now c.args.changes.now (table (goal.at.slice_bounds-legal-end c).In_ok-check)
          c.read_header.ensures c.in_ok-head.was c.pair.ensures.0,
    )

pub legal-requires : goal.legal-requires
legal-requires c =
    legal_asked c.args.t.now c.args.old.now c.args.changes.now (table (goal.at.legal-requires c).In_ok-check)
    c.read_header.ensures c.in_ok-head.was c.pair.ensures.0

pub returns-then-not-legal : goal.returns-then-not-legal
returns-then-not-legal c =
    change_refused c.args.t.now _ _ (table (goal.at.returns-then-not-legal c).In_ok-check) c.read_header.ensures c.in_ok-head.was c.pair.ensures.0
    c.legal.ensures c.if-not-legal.true

pub returns : goal.returns
returns c =
    all_passed c.args.t.now _ _ (table (goal.at.returns c).In_ok-check) c.read_header.ensures c.in_ok-head.was c.pair.ensures.0
    c.legal.ensures c.if-not-legal.false
