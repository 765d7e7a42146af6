-- What the contracts of values and their changes say.
-- Assumes nothing.
use Rattle.std.specs.Prelude.{List, ℕ, ◌<◌, ℤ}
use Rattle.std.specs.Prelude.{Option, Some, None}
use Rattle.std.specs.Int.Signed.{mag}
use Rattle.rules.specs.Outcome.{choose}
use Rattle.rules.specs.Value.{Ty, in_type, plus, at}

-- a word whose sum with another, or difference from it, stays far inside 64 bits: values of a type and all changes are such
abbrev pub Near : ℤ → Type 0
Near z = mag z < 2_305_843_009_213_693_952

-- every word of a store or change list is such
abbrev pub AllNear : List ℤ → Type 0
AllNear words = (v : ℕ) → Near (at words v)

-- the old value with its change, where it is a value of its type
abbrev pub moved_as : Ty → ℤ → ℤ → Option ℤ
moved_as t old change = choose (in_type t (plus t old change)) (Some (plus t old change)) None
