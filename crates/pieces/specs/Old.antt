-- The words of the old record that a walk has before it: from a place up to the end of the entry that it stands in.
-- Assumes nothing.
use Rattle.std.specs.Prelude.{ℕ, ◌-◌, ◌≤◌, List, length, take, drop, ℤ}

unfoldable pub part : List ℤ → ℕ → ℕ → List ℤ
part old from end = take (end - from) (drop from old)

-- the place and the end lie inside the old record
pub record Inside (old : List ℤ) (from end : ℕ) : Type 0 where
  pub ordered : from ≤ end
  pub ends : end ≤ length old
