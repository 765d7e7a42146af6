-- Walks put together: one that goes on is sound at its next place, and one walk behind another is a walk with the counts and words of
-- both.
-- Assumes nothing.
use mathlib.Core.Path.{◌≡◌, sym, ap, ap₂, ◌∙◌, subst}
use Prim.Native.Nat.{ℕ, ◌+◌, ◌*◌, ◌≤◌}
use native.Mathlib.Omega.{arith}
use mathlib.Core.List.{List, ◌++◌}
use lib.ListN.{length, length-append}
use lib.IntN.{ℤ}
use Rattle.numbers.specs.Lay.{lay, lay_append}
use Rattle.rules.specs.Patch.{Visited, steps_of, both}
use Rattle.rules.proofs.Laws.Size.{weight}
use Rattle.table.specs.declared.answer.Changes.{Changes}
use Rattle.run.specs.Code.{farthest}
use Rattle.pieces.specs.Change.{AllNear}
use Rattle.pieces.specs.Old.{Inside}
use Rattle.pieces.specs.Entry.{Sound, Came, Stepped, AdvancedBy}
use Rattle.pieces.specs.declared.entry.Reached.{Reached}

-- ---- where it stands

module _ {old : List ℤ} {end : ℕ} {s : Reached} (h : Sound old end s) where
  -- the end may be nearer
  pub sound_before : {stop : ℕ} → s.from ≤ stop → stop ≤ end → Sound old stop s
  sound_before {stop} low high =
      let ends : stop ≤ length old = omega (arith, h.inside.ends) in
      record {
        long = h.long;
        near = h.near;
        inside = record { ordered = low; ends = ends };
        place = h.place;
        few = h.few;
      }

  -- the same changes at another place
  sound_at : {r : Reached} → r.changes ≡ s.changes → Inside old r.from end
      → r.at + weight * r.left + length old + 60_000_000 ≤ farthest + r.from → r.walked + r.reused + r.left ≤ 1_000_000 → Sound old end r
  sound_at b inside place few = record {
    long = ap (λ (c : Changes). length c.values) b ∙ h.long;
    near = subst (λ (c : Changes). AllNear c.values) (sym b) h.near;
    inside = inside;
    place = place;
    few = few;
  }

  pub sound_advanced : {n : ℕ} {r : Reached} → AdvancedBy n s r → s.from + n ≤ end → Sound old end r
  sound_advanced {r} a within =
      let ordered : r.from ≤ end = omega (arith, a.from) in
      let place : r.at + weight * r.left + length old + 60_000_000 ≤ farthest + r.from = omega (arith, h.place, a.left, a.from, a.at) in
      let few : r.walked + r.reused + r.left ≤ 1_000_000 = omega (arith, h.few, a.left, a.walked, a.reused) in
      sound_at a.changes (record { ordered = ordered; ends = h.inside.ends }) place few

  pub sound_stepped : {r : Reached} → Stepped s r → s.from + 3 ≤ end → Sound old end r
  sound_stepped {r} a within =
      let ordered : r.from ≤ end = omega (arith, a.from) in
      let place : r.at + weight * r.left + length old + 60_000_000 ≤ farthest + r.from = omega (arith, h.place, a.left, a.from, a.at) in
      let few : r.walked + r.reused + r.left ≤ 1_000_000 = omega (arith, h.few, a.left, a.walked, a.reused) in
      sound_at a.changes (record { ordered = ordered; ends = h.inside.ends }) place few

-- ---- one walk behind another

abbrev pub follow : Visited → Visited → Visited
follow v w = record { changes = w.changes; counts = both v.counts w.counts; words = v.words ++ w.words; rest = w.rest }

pub came_then : {v w : Visited} {s r u : Reached} {old : List ℤ} {end : ℕ} {out one two : List ℤ}
    → Came v s r old end out one → Came w r u old end one two → Came (follow v w) s u old end out two
unfolding both steps_of
came_then {v} {w} {s} {r} {u} {old} {end} {out} {one} {two} h k =
    let leaves : u.left + (v.counts.walked + w.counts.walked + (v.counts.reused + w.counts.reused) + (v.counts.fresh + w.counts.fresh)) ≡ s.left
    = omega (arith, h.leaves, k.leaves) in
    let walks : u.walked ≡ s.walked + (v.counts.walked + w.counts.walked) = omega (arith, h.walks, k.walks) in
    let reuses : u.reused ≡ s.reused + (v.counts.reused + w.counts.reused) = omega (arith, h.reuses, k.reuses) in
    let onward : s.from ≤ u.from = omega (arith, h.onward, k.onward) in
    let ends : u.at ≡ s.at + length (v.words ++ w.words) = omega (arith, h.ends, k.ends, length-append v.words w.words) in
    record {
      sound = k.sound;
      changes = k.changes;
      leaves = leaves;
      walks = walks;
      reuses = reuses;
      rest = k.rest;
      onward = onward;
      ends = ends;
      lays = k.lays ∙ ap₂ {C = List ℤ} (λ (o : List ℤ) (i : ℕ). lay o i w.words) h.lays h.ends ∙ sym (lay_append out s.at v.words w.words);
    }
