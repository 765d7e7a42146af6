-- Laws of snapshots in the old record: where one is read it stands there whole, and what it takes of the changes is each word plus its
-- own; the store it makes is fine, and the changes that are settled against it are near.
-- Assumes nothing.
use Rattle.std.specs.Prelude.{◌≡◌, true, false, ◌⊎◌, ℕ, zero, suc, ◌+◌, ◌-◌, ◌≤◌, ◌<◌, ltb, length, get_or, ℤ}
use Rattle.std.proofs.Common.{sym, ap, ◌∙◌, subst, inl, inr, arith, add-zero}
use mathlib.Core.List.{List, [], ◌∷◌}
use borrow.Author.Tests.{ltb-true, ltb-false}
use Rattle.numbers.specs.Laws.{decide}
use Rattle.rules.specs.Outcome.{accepted}
use Rattle.rules.specs.Value.{Ty, at, type_of, in_type, zeros, most_variables, put, minus_all, snapshot}
use Rattle.rules.specs.Table.{types_of, Part}
use Rattle.rules.specs.Patch.{Snapshot, read, read_in, read_snapshot, moved_all}
use Rattle.rules.proofs.Laws.Outcome.{Holds, value, vacant, holds_bind, holds_if, holds_of}
use Rattle.rules.proofs.Laws.Store.{Good}
use Rattle.rules.proofs.Laws.Rising.{Below}
use Rattle.std.proofs.Math.Option.{some}
use Rattle.rules.proofs.Laws.Parts.{part_at}
use Rattle.table.specs.Lists.{list_at, Row, Lists}
use Rattle.table.specs.Laws.Row.{row_low}
use Rattle.run.specs.Laws.Expressions.{mag_of_type}
use Rattle.pieces.specs.Change.{Near, AllNear}
use Rattle.pieces.specs.Old.{part, Inside}
use Rattle.pieces.specs.Snapshot.{Named, olds, Standing, Patched, patched}
use Rattle.pieces.specs.Laws.Old.{part_none, part_long, part_next, part_at_lem}
use Rattle.pieces.specs.Laws.Expression.{near_minus}
use Rattle.pieces.specs.Laws.Climbing.{Climbs, vars_climb, put_back}
use Rattle.pieces.specs.Laws.Moved.{set_each, zeros_long}
pub use Rattle.pieces.specs.Laws.Moved.{moved_plus, moved_long, started_fine}

-- ---- near words

pub in_near : (t : Ty) (z : ℤ) → in_type t z ≡ true → Near z
in_near t z h = omega (arith, mag_of_type t z h)

pub good_near : (types : List Ty) (store : List ℤ) → Good types store → AllNear store
good_near types store good v = in_near (type_of types v) (at store v) (good v)

-- ---- where a snapshot is read

module _ (types : List Ty) (old : List ℤ) (end : ℕ) (ends : end ≤ length old) where
  record ReadFrom (vs : List ℕ) (from : ℕ) (s : Snapshot) : Type 0 where
    within : from + length vs ≤ end
    fits : (i : ℕ) → i < length vs → in_type (type_of types (get_or vs i 0)) (at old (from + i)) ≡ true
    values : s.values ≡ olds old from vs
    rest : s.rest ≡ part old (from + length vs) end

  read_none : (from : ℕ) → from ≤ end → ReadFrom [] from (record { values = []; rest = part old from end })
  read_none from low = record {
    within = omega arith;
    fits = λ i h. absurd (omega arith);
    values = sym (part_none old from (from + 0) (omega arith));
    rest = ap (λ (n : ℕ). part old n end) (sym (add-zero from));
  }

  -- one word more before a snapshot that is read
  read_more : (v : ℕ) (vs : List ℕ) (from : ℕ) → in_type (type_of types v) (at old from) ≡ true → (s : Snapshot) → ReadFrom vs (from + 1) s
      → ReadFrom (v ∷ vs) from (record { values = at old from ∷ s.values; rest = s.rest })
  read_more v vs from fit s r =
      let behind : from + 1 + length vs ≡ from + suc (length vs) = omega arith in
      record {
        within = omega (arith, r.within);
        fits = each;
        values = ap (λ (ws : List ℤ). at old from ∷ ws) (r.values ∙ ap (part old (from + 1)) behind)
            ∙ sym (part_next old from (from + suc (length vs)) (omega arith) (omega (arith, r.within)));
        rest = r.rest ∙ ap (λ (n : ℕ). part old n end) behind;
      }
    where
      each : (i : ℕ) → i < suc (length vs) → in_type (type_of types (get_or (v ∷ vs) i 0)) (at old (from + i)) ≡ true
      each zero h = rw (add-zero from) fit
      each (suc i) h =
          let next : from + suc i ≡ from + 1 + i = omega arith in
          rw next (r.fits i (omega arith))

  -- the next word, in its type, and the snapshot behind it
  read_word : (v : ℕ) (vs : List ℕ) (from : ℕ) → Holds (ReadFrom vs (from + 1)) (read_snapshot types vs (part old (from + 1) end))
      → (in_type (type_of types v) (at old from) ≡ true) ⊎ (in_type (type_of types v) (at old from) ≡ false)
      → Holds (ReadFrom (v ∷ vs) from) (read_snapshot types (v ∷ vs) (at old from ∷ part old (from + 1) end))
  unfolding read_snapshot read_in read
  read_word v vs from behind (inl fit) = rw fit
      (holds_bind (read_snapshot types vs (part old (from + 1) end)) _ behind λ s r. value (read_more v vs from fit s r))
  read_word v vs from behind (inr unfit) = rw unfit vacant

  -- where a word is left
  read_next : (v : ℕ) (vs : List ℕ) (from : ℕ) → (from < end → Holds (ReadFrom vs (from + 1)) (read_snapshot types vs (part old (from + 1) end)))
      → (ltb from end ≡ true) ⊎ (ltb from end ≡ false) → Holds (ReadFrom (v ∷ vs) from) (read_snapshot types (v ∷ vs) (part old from end))
  unfolding read_snapshot read_in read
  read_next v vs from behind (inl e) =
      let below = ltb-true from end e in
      rw (part_next old from end below ends) (read_word v vs from (behind below) (decide (in_type (type_of types v) (at old from))))
  read_next v vs from behind (inr e) = rw (part_none old from end (ltb-false from end e)) vacant

  read_from : (vs : List ℕ) (from : ℕ) → from ≤ end → Holds (ReadFrom vs from) (read_snapshot types vs (part old from end))
  unfolding read_snapshot
  read_from [] from low = value (read_none from low)
  read_from (v ∷ vs) from low = read_next v vs from (λ below. read_from vs (from + 1) (omega arith)) (decide (ltb from end))

module _ (bytes lists : List ℕ) (node : ℕ) (named : Named bytes lists node) (old : List ℤ) (from end : ℕ) (inside : Inside old from end) where
  pub record ReadAt (s : Snapshot) : Type 0 where
    pub standing : Standing bytes lists node old from
    pub within : from + length (list_at lists node) ≤ end
    pub values : s.values ≡ olds old from (list_at lists node)
    pub rest : s.rest ≡ part old (from + length (list_at lists node)) end

  pub read_at : (s : Snapshot) → read_snapshot (types_of bytes) (list_at lists node) (part old from end) ≡ accepted s → ReadAt s
  read_at s e =
      let r = holds_of (subst (Holds (ReadFrom (types_of bytes) old end inside.ends (list_at lists node) from)) e
      (read_from (types_of bytes) old end inside.ends (list_at lists node) from inside.ordered)) in
      record {
        standing = record { named = named; inside = omega (arith, r.within, inside.ends); fits = r.fits };
        within = r.within;
        values = r.values;
        rest = r.rest;
      }

  pub record PatchedAt (changes : List ℤ) (p : Patched) : Type 0 where
    pub standing : Standing bytes lists node old from
    pub within : from + length (list_at lists node) ≤ end
    pub was : p.old ≡ olds old from (list_at lists node)
    pub moved : moved_all (types_of bytes) (list_at lists node) p.old changes ≡ accepted p.new
    pub rest : p.rest ≡ part old (from + length (list_at lists node)) end

  patched_from : (changes : List ℤ) → Holds (PatchedAt changes) (patched (types_of bytes) (list_at lists node) changes (part old from end))
  unfolding patched
  patched_from changes =
      holds_bind (read_snapshot (types_of bytes) (list_at lists node) (part old from end)) _
      (holds_if (read_snapshot (types_of bytes) (list_at lists node) (part old from end)) read_at) λ s r.
      holds_bind {P = λ new. moved_all (types_of bytes) (list_at lists node) s.values changes ≡ accepted new}
      (moved_all (types_of bytes) (list_at lists node) s.values changes) _
      (holds_if (moved_all (types_of bytes) (list_at lists node) s.values changes) (λ new e. e)) λ new e.
      value (record { standing = r.standing; within = r.within; was = r.values; moved = e; rest = r.rest })

  pub patched_at : (changes : List ℤ) (p : Patched) → patched (types_of bytes) (list_at lists node) changes (part old from end) ≡ accepted p → PatchedAt changes p
  patched_at changes p e = holds_of (subst (Holds (PatchedAt changes)) e (patched_from changes))

-- how many words a standing snapshot has
pub olds_long : (bytes lists : List ℕ) (node : ℕ) (old : List ℤ) (from : ℕ) → Standing bytes lists node old from
    → length (olds old from (list_at lists node)) ≡ length (list_at lists node)
olds_long bytes lists node old from s =
    let count : from + length (list_at lists node) - from ≡ length (list_at lists node) = omega arith in
    part_long old from (from + length (list_at lists node)) s.inside ∙ count

-- ---- the variables that a node mentions

module _ (bytes lists : List ℕ) (node : ℕ) (named : Named bytes lists node) where
  -- each is a variable of the table
  pub listed_known : (i : ℕ) → i < length (list_at lists node) → get_or (list_at lists node) i 0 < length (types_of bytes)
  listed_known i h = row_low named.row i h

  pub listed_below : (i : ℕ) → i < length (list_at lists node) → get_or (list_at lists node) i 0 < 32
  listed_below i h = omega (arith, row_low named.row i h, named.few)

-- it lies in its row
pub named_row : {bytes lists : List ℕ} {node : ℕ} → Named bytes lists node → Row 32 lists node
named_row named = record {
  long = named.row.long;
  inside = named.row.inside;
  few = named.row.few;
  low = λ i h. omega (arith, named.row.low i h, named.few);
}

-- a node's list rises, so what is put of it is read back
pub started_back : (bytes lists : List ℕ) → Lists bytes lists → (node : ℕ) (q : Part) → part_at bytes node ≡ some q → (news : List ℤ)
    → length news ≡ length (list_at lists node) → snapshot (list_at lists node) (put (list_at lists node) news (zeros most_variables)) ≡ news
unfolding most_variables
started_back bytes lists every node q e news many =
    let l = every.each node q e in
    let climbs : Climbs 0 (list_at lists node) = subst (Climbs 0) (sym l.list) (vars_climb q) in
    let known : Below (length (zeros most_variables)) (list_at lists node) = λ i h. omega (arith, row_low l.row i h, every.few, zeros_long) in
    put_back climbs news (zeros most_variables) known many

-- ---- the changes settled against it

module _ (types : List Ty) (store : List ℤ) (good : Good types store) where
  put_near : (vs : List ℕ) (olds : List ℤ) → ((i : ℕ) → i < length vs → in_type (type_of types (get_or vs i 0)) (at olds i) ≡ true)
      → (changes : List ℤ) → AllNear changes → AllNear (put vs (minus_all types vs (snapshot vs store) olds) changes)
  unfolding put minus_all snapshot
  put_near [] olds fits changes near = near
  put_near (v ∷ vs) [] fits changes near = near
  put_near (v ∷ vs) (o ∷ os) fits changes near =
      put_near vs os (λ i h. fits (suc i) (omega arith)) _
      (set_each (λ w z. Near z) changes near v _ (near_minus (type_of types v) (at store v) o (good v) (fits 0 (omega arith))))

pub settled_near : (bytes lists : List ℕ) (node : ℕ) (old : List ℤ) (from : ℕ) → Standing bytes lists node old from → (store : List ℤ)
    → Good (types_of bytes) store
    → (changes : List ℤ) → AllNear changes
    → AllNear (put (list_at lists node) (minus_all (types_of bytes) (list_at lists node) (snapshot (list_at lists node) store) (olds old from (list_at lists node))) changes)
settled_near bytes lists node old from s store good changes near =
    put_near (types_of bytes) store good (list_at lists node) (olds old from (list_at lists node)) fits changes near
  where
    fits : (i : ℕ) → i < length (list_at lists node)
        → in_type (type_of (types_of bytes) (get_or (list_at lists node) i 0)) (at (olds old from (list_at lists node)) i) ≡ true
    fits i h = rw (part_at_lem old from (from + length (list_at lists node)) i (omega arith)) (s.fits i h)
