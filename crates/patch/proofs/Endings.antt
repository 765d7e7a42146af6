-- A repeat behind the iterations that stay: the rest fall away, come anew, or there is none, as the definition of `loop` tells them apart.
-- Assumes nothing.
use mathlib.Core.Path.{◌≡◌, refl, sym, ap, ◌∙◌, subst}
use Rattle.patch.specs.Statement.{listed}
use Rattle.std.specs.Prelude.{Result, Ok, Err}
use Prim.Native.Nat.{ℕ, zero, suc, ◌+◌, ◌≤◌, ◌<◌}
use native.Mathlib.Omega.{arith}
use native.Mathlib.Nat.{add-zero}
use mathlib.Core.Bool.{false}
use mathlib.Core.List.{List, [], ◌∷◌}
use lib.IntN.{ℤ}
use Rattle.numbers.specs.Lay.{lay}
use Rattle.rules.specs.Outcome.{accepted, ◌>>=◌, broken}
use Rattle.rules.specs.Outcome as Paper
use Rattle.rules.specs.Value.{Ty, at}
use Rattle.rules.specs.Table.{types_of}
use Rattle.rules.specs.Run.{Done, run}
use Rattle.rules.specs.Patch.{Visited, Walked, Turn, no_steps, steps_of, finished, complete, grown, shrunk, loop, visit, walk}
use Rattle.table.specs.Agrees.{both, neither}
use Rattle.table.specs.Paper.{refusal_for}
use Rattle.table.specs.declared.answer.Refusal.{Refusal}
use Rattle.table.specs.declared.script.Script.{Script}
use Rattle.pieces.specs.Old.{part}
use Rattle.pieces.specs.Laws.Old.{part_none, part_next}
use Rattle.pieces.specs.Entry.{WalkAs}
use Rattle.patch.specs.Loop.{turn_at, Endable, EndsTo, ShrinksTo}
use Rattle.pieces.specs.declared.entry.Reached.{Reached}

-- iterations fall away, where none is left of the new
loop_dropped : (types : List Ty) (body : ℕ → List ℤ → List ℤ → Paper.Outcome Visited) (fresh : ℕ → List ℤ → Paper.Outcome Done) (vs : List ℕ) (t : Turn)
    (n : ℕ) → 0 < n
    → loop types body fresh vs n 0 t ≡ shrunk types vs t
unfolding loop
loop_dropped types body fresh vs t zero p = absurd (omega arith)
loop_dropped types body fresh vs t (suc n) p = refl

module _ {script : Script} {node body last : ℕ} {old : List ℤ} {end : ℕ} {s : Reached} (h : Endable script node body last old end s) where
  abbrev types : List Ty
  types = types_of script.checked.table.now

  module _ (dropped more : ℕ) where
    pub ended_shrunk : 0 < dropped → more ≡ 0 → {r : Result Reached Refusal} {out : List ℤ} → ShrinksTo script node last old end s r
        → EndsTo script node body dropped more last old end s r out out
    ended_shrunk some none {r} {out} e b here was new l =
        let t = turn_at s old end was new in
        subst (λ (m : Paper.Outcome Walked). WalkAs m s r old end out out)
        (sym (ap (λ (n : ℕ). loop types (visit b (walk types b) false) (run b) (listed script node) dropped n t) none
        ∙ loop_dropped types (visit b (walk types b) false) (run b) (listed script node) t dropped some))
        (e out was new l)

    -- words are left before the end
    pub ended_broken : dropped ≡ 0 → (s.from ≡ end → ⊥) → {out : List ℤ} → EndsTo script node body dropped more last old end s (Err (refusal_for broken)) out out
    unfolding loop grown complete finished
    ended_broken none apart {out} b here was new l =
        let below : s.from < end = omega (arith, h.turnable.sound.inside.ordered) in
        rw (none, part_next old s.from end below h.turnable.sound.inside.ends) (of more)
      where
        of : (n : ℕ) → WalkAs (loop types (visit b (walk types b) false) (run b) (listed script node) 0 n
            (record { left = s.left; changes = s.changes.values; old = was; new = new; rest = at old s.from ∷ part old (s.from + 1) end })) s
            (Err (refusal_for broken)) old end out out
        of zero = neither refl
        of (suc n) = neither refl

    pub ended_same : dropped ≡ 0 → more ≡ 0 → s.from ≡ end → {out : List ℤ} → EndsTo script node body dropped more last old end s (Ok s) out out
    unfolding loop complete finished no_steps steps_of lay
    ended_same none none' there {out} b here was new l =
        let over : part old s.from end ≡ [] = part_none old s.from end (omega (arith, there)) in
        let stays : s.from ≤ s.from = omega arith in
        let leaves : s.left + 0 ≡ s.left = omega arith in
        rw (none, none', over) (both (record {
          sound = h.turnable.sound;
          changes = refl;
          leaves = leaves;
          walks = sym (add-zero s.walked);
          reuses = sym (add-zero s.reused);
          rest = sym over;
          onward = stays;
          ends = sym (add-zero s.at);
          lays = refl;
        }))
