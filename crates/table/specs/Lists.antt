-- What `mentioned::mentions` promises to who goes over a node's list: for each node n, at 33 * n how many variables it mentions,
-- and behind it their numbers, rising. There is a row of 33 for each of 512 nodes.
-- Assumes nothing.
use Rattle.std.specs.Prelude.{◌≡◌, ℕ, ◌+◌, ◌*◌, ◌≤◌, ◌<◌, List, length, get_or, take, drop}
use Rattle.std.proofs.Math.Option.{some}
use Rattle.rules.specs.Table.{types_of, Part}
use Rattle.rules.proofs.Laws.Parts.{part_at, vars_of}

-- the list of node n
unfoldable pub list_at : List ℕ → ℕ → List ℕ
list_at lists n = take (get_or lists (33 * n) 0) (drop (33 * n + 1) lists)

-- the list of node n lies in its row, and its variables are below a bound
pub record Row (bound : ℕ) (lists : List ℕ) (n : ℕ) : Type 0 where
  pub long : length lists ≡ 16896
  pub inside : n < 512
  pub few : get_or lists (33 * n) 0 ≤ 32
  pub low : (i : ℕ) → i < get_or lists (33 * n) 0 → get_or lists (33 * n + 1 + i) 0 < bound

-- the list of node n is that of the variables that its part q mentions
pub record ListOf (bytes lists : List ℕ) (n : ℕ) (q : Part) : Type 0 where
  pub row : Row (length (types_of bytes)) lists n
  pub count : get_or lists (33 * n) 0 ≡ length (vars_of q)
  pub list : list_at lists n ≡ vars_of q
  pub item : (i : ℕ) → i < get_or lists (33 * n) 0 → get_or lists (33 * n + 1 + i) 0 ≡ get_or (vars_of q) i 0

-- every node of the table has its list
pub record Lists (bytes lists : List ℕ) : Type 0 where
  pub long : length lists ≡ 16896
  pub few : length (types_of bytes) ≤ 32
  pub each : (n : ℕ) (q : Part) → part_at bytes n ≡ some q → ListOf bytes lists n q
