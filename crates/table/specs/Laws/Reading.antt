-- What an accepted table with its lists is to who reads it: its sizes, its nodes, each of a kind, and where a node's list lies.
-- Assumes nothing.
use Rattle.std.specs.Prelude.{◌≡◌, ◌≢◌, ℕ, ◌+◌, ◌*◌, ◌≤◌, ◌<◌, List, drop, length}
use Rattle.std.proofs.Common.{sym, ap, ◌∙◌, arith}
use Rattle.std.proofs.Math.Option.{Option, none, some}
use Rattle.rules.specs.Table.{u16, variables, nodes, nodes_at, header_length, read_node, Kind, kind_of}
use Rattle.rules.proofs.Laws.Header.{sized}
use Rattle.rules.proofs.Laws.Parts.{node_at, root_at, part_below, stands}
use Rattle.rules.proofs.Laws.Variables.{part_there}
use Rattle.table.specs.Accepted.{AcceptedTable}
use Rattle.table.specs.Lists.{Row, Lists}
use Rattle.table.specs.Laws.Kinds.{kind_back}

-- where its nodes begin is known
pub record Sizes (bytes : List ℕ) (base : ℕ) : Type 0 where
  pub base_is : base ≡ 16 + variables bytes
  pub few : variables bytes ≤ 32
  pub some : 1 ≤ nodes bytes
  pub small : nodes bytes ≤ 512
  pub whole : length bytes ≡ base + 8 * nodes bytes

-- behind the header and the types
pub nodes_begin : (bytes : List ℕ) (v : ℕ) → v ≡ u16 bytes 4 → 16 + v ≡ nodes_at bytes
unfolding nodes_at header_length variables
nodes_begin bytes v e = ap (λ (k : ℕ). 16 + k) e

module _ (bytes : List ℕ) (base : ℕ) (table : AcceptedTable bytes) (based : base ≡ nodes_at bytes) where
  pub sizes : Sizes bytes base
  unfolding nodes_at header_length
  sizes =
      let w = sized bytes table.0 table.1 in
      let root = part_below bytes table.0 table.1 _ _ (root_at bytes table.0 table.1) in
      record { base_is = based; few = w.few; some = omega arith; small = w.small; whole = omega (arith, w.whole) }

  -- the bytes of a node are where the code reads them
  pub node_place : (n : ℕ) → read_node (drop (base + 8 * n) bytes) ≡ node_at bytes n
  unfolding node_at
  node_place n = ap (λ (b : ℕ). read_node (drop (b + 8 * n) bytes)) based

  pub node_known : (n : ℕ) → n < nodes bytes → kind_of (read_node (drop (base + 8 * n) bytes)).kind ≢ none
  node_known n inside e =
      let w = part_there bytes table.0 table.1 n inside in
      let s = stands bytes table.0 table.1 n w.0 w.1 in
      let kind_is : kind_of (read_node (drop (base + 8 * n) bytes)).kind ≡ some s.kind = rw (node_place n, s.number) (kind_back s.kind) in
      let clash : ◌≡◌ {A = Option Kind} none (some s.kind) = sym e ∙ kind_is in
      let z : ◌≡◌ {A = ℕ} 0 1 = cc in
      omega arith

-- the list of each node lies in its row
pub listed_row : (bytes lists : List ℕ) (n : ℕ) → AcceptedTable bytes → Lists bytes lists → n < nodes bytes → Row 32 lists n
listed_row bytes lists n table listed inside =
    let w = part_there bytes table.0 table.1 n inside in
    let row = (listed.each n w.0 w.1).row in
    let few = listed.few in
    record { long = row.long; inside = row.inside; few = row.few; low = λ i h. omega (arith, row.low i h) }
