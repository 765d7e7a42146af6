-- The list of a node, as the code goes over it: each variable on it has a value, which is the snapshot's word.
-- Assumes nothing.
use Rattle.std.specs.Prelude.{◌≡◌, ℕ, ◌*◌, ◌≤◌, ◌<◌, List, length, get_or, ℤ}
use Rattle.std.proofs.Common.{sym, ap, arith}
use Rattle.std.proofs.Math.ListN.{get_or-map}
use Rattle.rules.specs.Value.{at, snapshot}
use Rattle.table.specs.Lists.{Row, list_at}
use Rattle.table.specs.Laws.Row.{list_long, list_at_lem}
use Rattle.run.specs.Words.{Listed}

module _ {lists : List ℕ} {node place : ℕ} (listed : Listed lists node place) where
  pub listed_long : length (list_at lists node) ≡ get_or lists (33 * node) 0
  listed_long = list_long lists node listed.long listed.inside listed.count

  -- the list is short
  pub listed_narrow : length (list_at lists node) ≤ 32
  listed_narrow = omega (arith, listed_long, listed.count)

  -- it lies in its row
  pub listed_in_row : Row 32 lists node
  listed_in_row = record {
    long = listed.long;
    inside = listed.inside;
    few = listed.count;
    low = λ i below. rw (list_at_lem lists node i below) at (listed.known i (rw listed_long below));
  }

  -- a variable on the list has a value
  pub variable_known : {vs : List ℕ} → vs ≡ list_at lists node → (i : ℕ) → i < length vs → get_or vs i 0 < 32
  variable_known {vs} is i below =
      let same : get_or vs i 0 ≡ get_or (list_at lists node) i 0 = ap (λ (l : List ℕ). get_or l i 0) is in
      let inside : i < length (list_at lists node) = omega (arith, ap length is) in
      omega (arith, listed.known i inside)

-- the word that the code reads is the snapshot's
pub snapshot_at : (vs : List ℕ) (values : List ℤ) (i : ℕ) → at values (get_or vs i 0) ≡ get_or (snapshot vs values) i (at values 0)
unfolding snapshot
snapshot_at vs values i = sym (get_or-map (at values) vs i 0)
