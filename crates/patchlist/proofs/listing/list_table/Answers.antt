-- `patchlist::listing::list_table` meets its contract: a table that is accepted has a header, and at most 32 variables.
-- Assumes nothing.
use native.Mathlib.Omega.{arith}
use Rattle.rules.proofs.Laws.Header.{Sized}
use Rattle.run.specs.Laws.Fitting.{count_is}
use Rattle.patchlist.proofs.Sessions.{table_sized, table_refused, table_accepted}
use Rattle.patchlist.proofs.listing.list_table.Goals as goal

pub pair-requires : goal.pair-requires
pair-requires c =
    let size : Sized c.args.table.now = table_sized c.args.table.now c.check.result c.in-Ok.is c.check.ensures in
    omega (arith, size.whole)

pub invariant_of-session-clause-few_variables : goal.invariant_of-session-clause-few_variables
invariant_of-session-clause-few_variables c =
    let size : Sized c.args.table.now = table_sized c.args.table.now c.check.result c.in-Ok.is c.check.ensures in
    omega (arith, size.few, count_is c.args.table.now c.pair.ensures.0)

pub returns-in-Err : goal.returns-in-Err
returns-in-Err c =
    table_refused c.args.table.now c.args.patches c.args.behind.now c.args.last.now c.check.result c.check.ensures
    c.in-Err.reason c.in-Err.is

pub returns-in-Ok : goal.returns-in-Ok
returns-in-Ok c =
    table_accepted c.args.table.now c.args.patches c.args.behind.now c.args.last.now c.check.result c.check.ensures
    c.pair.result c.pair.ensures.0 c.in-Ok.is c.list_words.ensures
