-- What a turn of a loop over a node's list reads: the variable is the list's and has a type, and the word of the old record is the
-- snapshot's.
-- Assumes nothing.
use mathlib.Core.Path.{◌≡◌, refl, sym, ap, ap₂, ◌∙◌, subst}
use Prim.Native.Nat.{ℕ, ◌+◌, ◌≤◌, ◌<◌}
use native.Mathlib.Omega.{arith}
use mathlib.Core.Bool.{Bool, true, false}
use mathlib.Core.List.{List}
use lib.ListN.{length, get_or, set}
use lib.IntN.{ℤ}
use lib.Signed.{mag}
use mir.Syntax.{w64}
use mir.Val.{SFits}
use mir.ValLaws.{to_z-of_z}
use Rattle.std.specs.Prelude.{Option, Some, None}
use Rattle.rules.specs.Value.{Ty, at, type_of, in_type, plus, minus, minus_all, snapshot}
use Rattle.table.specs.Laws.Types.{types_count}
use Rattle.rules.specs.Table.{nodes_at, header_length, variables, types_of}
use Rattle.run.specs.Laws.Numbers.{word_back}
use Rattle.pieces.specs.Change.{Near, AllNear, moved_as}
use Rattle.table.specs.Lists.{list_at, Row}
use Rattle.table.specs.Laws.Row.{row_low}
use Rattle.pieces.specs.Snapshot.{Named, Standing, olds, plus_each}
use Rattle.pieces.specs.Laws.Old.{part_at_lem}
use Rattle.pieces.specs.Laws.Snapshot.{in_near, olds_long, listed_known, listed_below}
use Rattle.pieces.specs.Laws.Changes.{kept, near_kept, kept_near, chosen_in, chosen_out}
use Rattle.pieces.proofs.Snapshots.{new_fits, each_long, each_at, minus_long, minus_at, Putting, put_more}

-- ---- a variable

-- the variable v that turn i reads is the list's, and one of 32
pub record Listed (lists : List ℕ) (node i v : ℕ) : Type 0 where
  pub below : i < length (list_at lists node)
  pub is : v ≡ get_or (list_at lists node) i 0
  pub low : v < 32

pub listed_one : {lists : List ℕ} {node : ℕ} → Row 32 lists node → {items : List ℕ} → items ≡ list_at lists node → {i v : ℕ} → i < length items
    → v ≡ get_or items i 0 → Listed lists node i v
listed_one {lists} {node} row e {i} {v} below is =
    let here : i < length (list_at lists node) = subst (λ (l : List ℕ). i < length l) e below in
    let same : v ≡ get_or (list_at lists node) i 0 = is ∙ ap (λ (l : List ℕ). get_or l i 0) e in
    record { below = here; is = same; low = omega (arith, same, row_low row i here) }

-- the variable v that turn i reads is the list's
pub record Turn (bytes lists : List ℕ) (node i v : ℕ) : Type 0 where
  pub below : i < length (list_at lists node)
  pub is : v ≡ get_or (list_at lists node) i 0
  pub known : v < variables bytes
  pub low : v < 32

pub turn : {bytes lists : List ℕ} {node : ℕ} → Named bytes lists node → {items : List ℕ} → items ≡ list_at lists node → {i v : ℕ} → i < length items → v ≡ get_or items i 0
    → Turn bytes lists node i v
unfolding nodes_at header_length
turn {bytes} {lists} {node} named e {i} {v} below is =
    let here : i < length (list_at lists node) = subst (λ (l : List ℕ). i < length l) e below in
    let same : v ≡ get_or (list_at lists node) i 0 = is ∙ ap (λ (l : List ℕ). get_or l i 0) e in
    record {
      below = here;
      is = same;
      known = omega (arith, same, listed_known bytes lists node named i here, types_count bytes _ refl (omega (arith, named.long)));
      low = omega (arith, same, listed_below bytes lists node named i here);
    }

-- what it is told of a word by the type
pub told : {bytes lists : List ℕ} {node i v : ℕ} → Turn bytes lists node i v → {t : Ty} → t ≡ type_of (types_of bytes) v
    → (w : ℤ) → SFits w64 w → {b : Bool} → b ≡ in_type t (kept w) → in_type (type_of (types_of bytes) (get_or (list_at lists node) i 0)) w ≡ b
told {bytes} {lists} its typed w fits e =
    sym (e ∙ ap₂ {C = Bool} in_type (typed ∙ ap (type_of (types_of bytes)) its.is) (to_z-of_z w64 w fits))

-- ---- a turn over a snapshot that stands

-- the new words of a snapshot, and the changes that are settled against it
abbrev pub news_of : List ℕ → List ℕ → ℕ → List ℤ → ℕ → List ℤ → List ℤ
news_of bytes lists node old from changes = plus_each (types_of bytes) (list_at lists node) (olds old from (list_at lists node)) changes

abbrev pub settled_of : List ℕ → List ℕ → ℕ → List ℤ → ℕ → List ℤ → List ℤ
settled_of bytes lists node old from values = minus_all (types_of bytes) (list_at lists node) (snapshot (list_at lists node) values)
    (olds old from (list_at lists node))

-- there are as many of them as variables
module _ {bytes lists : List ℕ} {node : ℕ} {old : List ℤ} {from : ℕ} (standing : Standing bytes lists node old from) where
  pub whole : length (list_at lists node) ≤ length (olds old from (list_at lists node))
  whole = omega (arith, olds_long bytes lists node old from standing)

  pub news_long : (zs : List ℤ) → length (news_of bytes lists node old from zs) ≡ length (list_at lists node)
  news_long zs = each_long (types_of bytes) zs (list_at lists node) (olds old from (list_at lists node)) whole

  pub settled_long : (zs : List ℤ) → length (settled_of bytes lists node old from zs) ≡ length (list_at lists node)
  settled_long zs = minus_long (types_of bytes) zs (list_at lists node) (olds old from (list_at lists node)) whole

-- what turn i reads of its variable v and of the old record
pub record Reading (bytes lists : List ℕ) (node : ℕ) (old : List ℤ) (from i v : ℕ) : Type 0 where
  pub standing : Standing bytes lists node old from
  pub its : Turn bytes lists node i v
  pub there : from + i < length old

pub reading : {bytes lists : List ℕ} {node : ℕ} {old : List ℤ} {from : ℕ} → Standing bytes lists node old from
    → {items : List ℕ} → items ≡ list_at lists node → {i v : ℕ} → i < length items → v ≡ get_or items i 0 → Reading bytes lists node old from i v
reading {bytes} {lists} {node} {old} {from} standing e {i} below is =
    let t = turn standing.named e below is in
    let there : from + i < length old = omega (arith, t.below, standing.inside) in
    record { standing = standing; its = t; there = there }

module _ {bytes lists : List ℕ} {node : ℕ} {old : List ℤ} {from i v : ℕ} (read : Reading bytes lists node old from i v) where
  open read use {standing, its}

  -- the word that it reads is the snapshot's
  word_at_lem : at (olds old from (list_at lists node)) i ≡ at old (from + i)
  word_at_lem = part_at_lem old from (from + length (list_at lists node)) i (omega (arith, its.below))

  word_there : i < length (olds old from (list_at lists node))
  word_there = omega (arith, its.below, olds_long bytes lists node old from standing)

  word_near : Near (at old (from + i))
  word_near = in_near _ _ (standing.fits i its.below)

  module _ (zs : List ℤ) (near : AllNear zs) where
    pub passed_near : Near (kept (at old (from + i))) × Near (kept (at zs v))
    passed_near = (kept_near (at old (from + i)) word_near, kept_near (at zs v) (near v))

    -- the variable's word, where it is passed
    back : kept (at zs v) ≡ at zs (get_or (list_at lists node) i 0)
    back = near_kept _ (near v) ∙ ap (at zs) its.is

    back_old : kept (at old (from + i)) ≡ at (olds old from (list_at lists node)) i
    back_old = near_kept _ word_near ∙ sym word_at_lem

    new_is : at (news_of bytes lists node old from zs) i
        ≡ plus (type_of (types_of bytes) (get_or (list_at lists node) i 0)) (at (olds old from (list_at lists node)) i) (at zs (get_or (list_at lists node) i 0))
    new_is = each_at (types_of bytes) zs (list_at lists node) (olds old from (list_at lists node)) i its.below word_there

    module _ {t : Ty} (typed : t ≡ type_of (types_of bytes) v) where
      type : t ≡ type_of (types_of bytes) (get_or (list_at lists node) i 0)
      type = typed ∙ ap (type_of (types_of bytes)) its.is

      -- the new value, where it is one of its type
      module _ {r : Option ℤ} (e : r ≡ moved_as t (kept (at old (from + i))) (kept (at zs v))) where
        moved_as_lem : r ≡ moved_as (type_of (types_of bytes) (get_or (list_at lists node) i 0)) (at (olds old from (list_at lists node)) i)
            (at zs (get_or (list_at lists node) i 0))
        moved_as_lem = rw (type, back, back_old) at e

        pub moved_is : {z : ℤ} → r ≡ Some z
            → (new_fits (types_of bytes) zs (list_at lists node) (olds old from (list_at lists node)) i ≡ true) × (z ≡ at (news_of bytes lists node old from zs) i)
        moved_is is = let both = chosen_in _ _ (sym moved_as_lem ∙ is) in (both.0, both.1 ∙ sym new_is)

        pub moved_outside : r ≡ None → new_fits (types_of bytes) zs (list_at lists node) (olds old from (list_at lists node)) i ≡ false
        moved_outside is = chosen_out _ _ (sym moved_as_lem ∙ is)

      module _ {store out : List ℤ} (r : ℤ) (fits : mag r < 9_223_372_036_854_775_808) where
        -- old plus change is put
        pub plus_put : r ≡ plus t (kept (at old (from + i))) (kept (at zs v))
            → Putting store (list_at lists node) (news_of bytes lists node old from zs) i out
            → Putting store (list_at lists node) (news_of bytes lists node old from zs) (i + 1) (set out v (kept r))
        plus_put e so = put_more so its.below (omega (arith, its.below, news_long standing zs)) its.is
            (word_back r fits ∙ e ∙ rw (type, back, back_old) (sym new_is))

        -- new minus old is put
        pub minus_put : r ≡ minus t (kept (at zs v)) (kept (at old (from + i)))
            → Putting store (list_at lists node) (settled_of bytes lists node old from zs) i out
            → Putting store (list_at lists node) (settled_of bytes lists node old from zs) (i + 1) (set out v (kept r))
        minus_put e so = put_more so its.below (omega (arith, its.below, settled_long standing zs)) its.is
            (word_back r fits ∙ e
            ∙ rw (type, back, back_old) (sym (minus_at (types_of bytes) zs (list_at lists node) (olds old from (list_at lists node)) i its.below word_there)))
