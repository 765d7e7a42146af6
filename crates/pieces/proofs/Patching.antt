-- A snapshot that takes its changes, by its two steps: it is read or refused, and what is read is moved.
-- Assumes nothing.
use mathlib.Core.Path.{◌≡◌, refl, sym, subst}
use mathlib.Core.Bool.{Bool, true, false, true≢false, false≢true}
use Prim.Native.Nat.{ℕ}
use mathlib.Core.List.{List}
use lib.IntN.{ℤ}
use Rattle.rules.specs.Outcome.{Outcome, accepted, refused, ◌>>=◌}
use Rattle.rules.specs.Table.{types_of}
use Rattle.rules.specs.Patch.{Snapshot, read_snapshot, moved_all}
use Rattle.pieces.specs.Old.{part}
use Rattle.table.specs.Lists.{list_at}
use Rattle.pieces.specs.Snapshot.{Snapped, Standing, olds, MovedAs, Patched, patched, PatchedAs}
use Rattle.pieces.specs.Unbroken.{Unbroken}
use Rattle.pieces.specs.Laws.Snapshot.{ReadAt, read_at}

-- either step refuses for the whole
refused_by : (o : Outcome Snapshot) (next : Snapshot → Outcome Patched) (out : List ℤ) (place : ℕ) (after : List ℤ) → Unbroken o false
    → PatchedAs (o >>= next) false out place after
refused_by (accepted s) next out place after h = absurd (false≢true h)
refused_by (refused q) next out place after h = h

moved_by : (s : Snapshot) (o : Outcome (List ℤ)) (r : Bool) (out : List ℤ) (place : ℕ) (after : List ℤ) → MovedAs o r out place after
    → PatchedAs (o >>= λ new. accepted (record { old = s.values; new = new; rest = s.rest })) r out place after
moved_by s (accepted news) r out place after h = h
moved_by s (refused q) r out place after h = h

module _ {bytes lists : List ℕ} {node : ℕ} {old : List ℤ} {from end : ℕ} (snapped : Snapped bytes lists node old from end) where
  -- what is read stands there
  read_by : (o : Outcome Snapshot) → read_snapshot (types_of bytes) (list_at lists node) (part old from end) ≡ o → Unbroken o true
      → (C : Type 0) → ((s : Snapshot) → o ≡ accepted s → ReadAt bytes lists node snapped.named old from end snapped.inside s → C) → C
  read_by (accepted s) e h C next = next s refl (read_at bytes lists node snapped.named old from end snapped.inside s e)
  read_by (refused q) e h C next = absurd (true≢false h.0)

  pub fits_standing : Unbroken (read_snapshot (types_of bytes) (list_at lists node) (part old from end)) true → Standing bytes lists node old from
  fits_standing h = read_by (read_snapshot (types_of bytes) (list_at lists node) (part old from end)) refl h
      (Standing bytes lists node old from) λ s e r. r.standing

  module _ (changes out : List ℤ) (place : ℕ) (after : List ℤ) where
    pub patched_not : Unbroken (read_snapshot (types_of bytes) (list_at lists node) (part old from end)) false
        → PatchedAs (patched (types_of bytes) (list_at lists node) changes (part old from end)) false out place after
    unfolding patched
    patched_not h = refused_by (read_snapshot (types_of bytes) (list_at lists node) (part old from end)) _ out place after h

    pub patched_as : Unbroken (read_snapshot (types_of bytes) (list_at lists node) (part old from end)) true → (r : Bool)
        → MovedAs (moved_all (types_of bytes) (list_at lists node) (olds old from (list_at lists node)) changes) r out place after
        → PatchedAs (patched (types_of bytes) (list_at lists node) changes (part old from end)) r out place after
    unfolding patched
    patched_as h r moves =
        read_by (read_snapshot (types_of bytes) (list_at lists node) (part old from end)) refl h
        (PatchedAs (patched (types_of bytes) (list_at lists node) changes (part old from end)) r out place after) λ s e read.
        let news = moved_by s (moved_all (types_of bytes) (list_at lists node) s.values changes) r out place after
        (subst (λ (ws : List ℤ). MovedAs (moved_all (types_of bytes) (list_at lists node) ws changes) r out place after) (sym read.values) moves) in
        rw e news
