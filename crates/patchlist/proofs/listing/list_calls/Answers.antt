-- `patchlist::listing::list_calls` meets its contract: the run has the first words, and its record is patched by the lists behind them.
-- Assumes nothing.
use mathlib.Core.Path.{◌≡◌}
use Prim.Native.Nat.{◌+◌, ◌-◌}
use mir.Syntax.{w64}
use mir.Val.{to_z, of_z}
use mir.ValLaws.{to_z-of_z}
use Rattle.rules.specs.Value.{at}
use native.Mathlib.Omega.{arith}
use lib.ListN.{length}
use Rattle.patchlist.proofs.Sessions.{to_the_end, calls_accepted, calls_refused}
use borrow.Author.Rules.{rules}
use Rattle.patchlist.proofs.listing.list_calls.Goals as goal

pub returns-in-Accepted : goal.returns-in-Accepted
returns-in-Accepted c =
    let s = c.args.session.now in
    let width : 1 + s.variables - 1 ≡ s.variables = omega arith in
    let limit_is : to_z w64 (of_z w64 (at c.args.words.now 0)) ≡ at c.args.words.now 0 = to_z-of_z w64 _ (search rules) in
    let long : length c.run-answer.new.out ≡ 2048 = search rules in
    calls_accepted s.table.now s.variables s.patches c.args.words.now _ _ c.run-answer.result _ width limit_is c.run-answer.ensures long
    _ c.in-Accepted.is (to_the_end c.args.words.now (1 + s.variables)) c.list_patches.ensures

pub returns-in_default : goal.returns-in_default
returns-in_default c =
    let s = c.args.session.now in
    let width : 1 + s.variables - 1 ≡ s.variables = omega arith in
    let limit_is : to_z w64 (of_z w64 (at c.args.words.now 0)) ≡ at c.args.words.now 0 = to_z-of_z w64 _ (search rules) in
    let long : length c.run-answer.new.out ≡ 2048 = search rules in
    calls_refused s.table.now s.variables s.patches c.args.words.now _ _ c.run-answer.result _ width limit_is c.run-answer.ensures long
    c.in_default.field-0 c.in_default.is
