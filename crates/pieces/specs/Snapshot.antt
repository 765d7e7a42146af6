-- What the functions over snapshots of the old record ask and answer, by the definitions of the rules.
-- Assumes nothing.
use Rattle.std.specs.Prelude.{◌≡◌, Bool, true, List, [], ◌∷◌, ℕ, ◌+◌, ◌≤◌, ◌<◌, length, get_or, ℤ}
use Rattle.numbers.specs.Lay.{lay}
use Rattle.rules.specs.Outcome.{Outcome, accepted, ◌>>=◌}
use Rattle.rules.specs.Value.{Ty, at, type_of, in_type, plus, zeros, most_variables, put, snapshot, minus_all}
use Rattle.rules.specs.Table.{nodes_at, types_of}
use Rattle.rules.specs.Patch.{read_snapshot, moved_all}
use Rattle.table.specs.Lists.{list_at, Row}
use Rattle.pieces.specs.Unbroken.{Unbroken, UnbrokenWith}
use Rattle.pieces.specs.Old.{part, Inside}

-- ---- what is asked

-- the node's list is there whole, and each of its variables has a type
pub record Named (bytes lists : List ℕ) (node : ℕ) : Type 0 where
  pub row : Row (length (types_of bytes)) lists node
  pub few : length (types_of bytes) ≤ 32
  pub long : nodes_at bytes ≤ length bytes

-- a snapshot of the node may stand between the place and the end
pub record Snapped (bytes lists : List ℕ) (node : ℕ) (old : List ℤ) (from end : ℕ) : Type 0 where
  pub named : Named bytes lists node
  pub inside : Inside old from end

-- the words of a snapshot of these variables from a place on
abbrev pub olds : List ℤ → ℕ → List ℕ → List ℤ
olds old from vs = part old from (from + length vs)

-- a snapshot of the node stands there, each word in its type
pub record Standing (bytes lists : List ℕ) (node : ℕ) (old : List ℤ) (from : ℕ) : Type 0 where
  pub named : Named bytes lists node
  pub inside : from + length (list_at lists node) ≤ length old
  pub fits : (i : ℕ) → i < length (list_at lists node) → in_type (type_of (types_of bytes) (get_or (list_at lists node) i 0)) (at old (from + i)) ≡ true

-- ---- what is answered

-- the snapshot takes its changes and is laid down
abbrev pub MovedAs : Outcome (List ℤ) → Bool → List ℤ → ℕ → List ℤ → Type 0
MovedAs m r out place after = UnbrokenWith (λ news. after ≡ lay out place news) m r

-- each listed variable's old word plus its change
unfoldable pub plus_each : List Ty → List ℕ → List ℤ → List ℤ → List ℤ
plus_each types [] words changes = []
plus_each types (v ∷ vs) [] changes = []
plus_each types (v ∷ vs) (o ∷ os) changes = plus (type_of types v) o (at changes v) ∷ plus_each types vs os changes

-- ---- a snapshot that takes its changes

pub record Patched : Type 0 where
  pub old : List ℤ
  pub new : List ℤ
  pub rest : List ℤ

unfoldable pub patched : List Ty → List ℕ → List ℤ → List ℤ → Outcome Patched
patched types vs changes ws = do
  s ← read_snapshot types vs ws
  new ← moved_all types vs s.values changes
  accepted (record { old = s.values; new = new; rest = s.rest })

abbrev pub PatchedAs : Outcome Patched → Bool → List ℤ → ℕ → List ℤ → Type 0
PatchedAs m r out place after = UnbrokenWith (λ p. after ≡ lay out place p.new) m r

-- ---- the contracts of the code, by the node's list

-- the snapshot between the place and the end is read
abbrev pub FitsTo : List ℕ → List ℕ → ℕ → List ℤ → ℕ → ℕ → Bool → Type 0
FitsTo bytes lists node old from end r = Unbroken (read_snapshot (types_of bytes) (list_at lists node) (part old from end)) r

-- the snapshot that stands there takes its changes
abbrev pub MovesTo : List ℕ → List ℕ → ℕ → List ℤ → ℕ → List ℤ → Bool → List ℤ → ℕ → List ℤ → Type 0
MovesTo bytes lists node old from changes r out place after =
    MovedAs (moved_all (types_of bytes) (list_at lists node) (olds old from (list_at lists node)) changes) r out place after

-- it is read and takes its changes
abbrev pub PatchesTo : List ℕ → List ℕ → ℕ → List ℤ → ℕ → ℕ → List ℤ → Bool → List ℤ → ℕ → List ℤ → Type 0
PatchesTo bytes lists node old from end changes r out place after = PatchedAs
    (patched (types_of bytes) (list_at lists node) changes (part old from end)) r out place after

-- the store that it makes with its changes: zero but for the node's variables
abbrev pub started_from : List ℕ → List ℕ → ℕ → List ℤ → ℕ → List ℤ → List ℤ
started_from bytes lists node old from changes =
    let vs = list_at lists node in put vs (plus_each (types_of bytes) vs (olds old from vs) changes) (zeros most_variables)

-- the changes with those of the node's variables set to the new values minus the snapshot
abbrev pub settled_by : List ℕ → List ℕ → ℕ → List ℤ → List ℤ → ℕ → List ℤ → List ℤ
settled_by bytes lists node values old from changes =
    let vs = list_at lists node in put vs (minus_all (types_of bytes) vs (snapshot vs values) (olds old from vs)) changes
