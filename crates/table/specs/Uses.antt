-- Counting the places that each node is the child of, where 2 stands for any count above 1.
-- Assumes nothing.
use Rattle.std.specs.Prelude.{◌≡◌, ℕ, zero, suc, ◌+◌, ◌<◌, min, Bool, true, ◌&&◌, List, length, get_or, eqb}
use Rattle.rules.specs.Table.{uses}

-- the counts of 512 nodes before and after these places are counted
pub record Counted (before places after : List ℕ) : Type 0 where
  pub long : length after ≡ length before
  pub each : (k : ℕ) → k < 512 → min 2 (get_or after k 0) ≡ min 2 (get_or before k 0 + uses k places)

-- each of the first n counts is 1
unfoldable pub all_once : ℕ → List ℕ → Bool
all_once zero counts = true
all_once (suc n) counts = eqb (get_or counts n 0) 1 && all_once n counts
