-- A node's list as it is read: as many variables as the first byte of its row says, and each behind it.
-- Assumes nothing.
use Rattle.std.specs.Prelude.{◌≡◌, ℕ, ◌+◌, ◌*◌, ◌≤◌, ◌<◌, List, length, get_or, drop}
use Rattle.std.proofs.Common.{◌∙◌, arith, length-drop}
use Rattle.std.proofs.Math.Seq.{length-take-le, get_or-take, get_or-drop}
use Rattle.table.specs.Lists.{list_at, Row}

module _ (lists : List ℕ) (n : ℕ) where
  pub list_long : length lists ≡ 16896 → n < 512 → get_or lists (33 * n) 0 ≤ 32 → length (list_at lists n) ≡ get_or lists (33 * n) 0
  unfolding list_at
  list_long long inside few = length-take-le (get_or lists (33 * n) 0) (drop (33 * n + 1) lists) (rw (length-drop (33 * n + 1) lists) (omega arith))

  pub list_at_lem : (i : ℕ) → i < get_or lists (33 * n) 0 → get_or (list_at lists n) i 0 ≡ get_or lists (33 * n + 1 + i) 0
  unfolding list_at
  list_at_lem i below = get_or-take (get_or lists (33 * n) 0) (drop (33 * n + 1) lists) i 0 below ∙ get_or-drop (33 * n + 1) lists i 0

pub row_long : {bound : ℕ} {lists : List ℕ} {n : ℕ} → Row bound lists n → length (list_at lists n) ≡ get_or lists (33 * n) 0
row_long {bound} {lists} {n} row = list_long lists n row.long row.inside row.few

-- the variables on a list are below the bound
pub row_low : {bound : ℕ} {lists : List ℕ} {n : ℕ} → Row bound lists n → (i : ℕ) → i < length (list_at lists n) → get_or (list_at lists n) i 0 < bound
row_low {bound} {lists} {n} row i h =
    let inside : i < get_or lists (33 * n) 0 = rw (row_long row) at h in
    rw (list_at_lem lists n i inside) (row.low i inside)
