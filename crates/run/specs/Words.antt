-- What the functions that lay words down ask of their callers.
-- Assumes nothing.
use Rattle.std.specs.Prelude.{◌≡◌, ℕ, ◌*◌, ◌≤◌, ◌<◌, List, length, get_or}
use Rattle.table.specs.Lists.{list_at}
use Rattle.run.specs.Code.{farthest}

-- the list of this node is there whole, each of its variables has a value, and the place is one that a run comes to
pub record Listed (lists : List ℕ) (node at : ℕ) : Type 0 where
  pub long : length lists ≡ 16_896
  pub inside : node < 512
  pub count : get_or lists (33 * node) 0 ≤ 32
  pub known : (i : ℕ) → i < length (list_at lists node) → get_or (list_at lists node) i 0 < 32
  pub place : at ≤ farthest
