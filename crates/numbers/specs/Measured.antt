-- What the members of a cycle of calls are told of each other, beside what the contracts ask: one member stands at the measure t, and what
-- it calls stands below t.
-- Assumes nothing.
use Rattle.std.specs.Prelude.{List, ℕ, ◌<◌}
use borrow.Fn.Kind.{ParamKind}
use borrow.Fn.Kinds.{In}
use borrow.Fn.PlainCycle.{Measures, is, falls, and}

module _ {n : ℕ} (ps : List (ParamKind n)) (μ : Measures n ps ℕ) (asked : In n ps) (t : ℕ) where
  -- what a member may assume
  abbrev pub at_measure : In n ps
  at_measure = and n ps (is n ps μ t) asked

  -- what a call of it asks
  abbrev pub below_measure : In n ps
  below_measure = and n ps (falls n ps ◌<◌ μ t) asked
