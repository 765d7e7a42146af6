-- Signed words: the tests that the rules are written with.
-- A word is an integer of `lib.IntN`; every test computes at once, whatever the size of the numbers.
-- Assumes nothing.
use Rattle.std.specs.Prelude.{Bool, false, ◌&&◌, eqb, ℤ, pos, negsuc}
use Rattle.std.specs.Int.Signed.{le_z}

-- the two words are equal
abbrev pub eq_z : ℤ → ℤ → Bool
eq_z (pos a) (pos b) = eqb a b
eq_z (pos a) (negsuc b) = false
eq_z (negsuc a) (pos b) = false
eq_z (negsuc a) (negsuc b) = eqb a b

-- z is one of low..high
unfoldable pub between : ℤ → ℤ → ℤ → Bool
between low high z = le_z low z && le_z z high
