-- A kind's number is that of the kind, and no kind has a number above theirs.
-- Assumes nothing.
use Rattle.std.specs.Prelude.{◌≡◌, refl, ℕ, ◌≤◌}
use Rattle.std.proofs.lemmas.List.{get_or_past}
use Rattle.std.proofs.Math.Option.{some, none}
use Rattle.rules.specs.Tree.{Operator}
use Rattle.rules.specs.Table.{Kind, number_constant, truth_constant, variable, operator, skip, assign, sequence, if, repeat, kinds, kind_of}
use Rattle.rules.proofs.Laws.Parts.{number_of_kind}

pub kind_back : (k : Kind) → kind_of (number_of_kind k) ≡ some k
unfolding kind_of kinds
kind_back number_constant = refl
kind_back truth_constant = refl
kind_back variable = refl
kind_back (operator Operator.add) = refl
kind_back (operator Operator.subtract) = refl
kind_back (operator Operator.multiply) = refl
kind_back (operator Operator.greater) = refl
kind_back (operator Operator.equal) = refl
kind_back skip = refl
kind_back assign = refl
kind_back sequence = refl
kind_back if = refl
kind_back repeat = refl

pub kind_above : (k : ℕ) → 21 ≤ k → kind_of k ≡ none
unfolding kind_of kinds
kind_above k h = get_or_past kinds k none h
