-- Words of the old record copied as far as the buffer goes: what would fall past its end is not laid at all.
-- Assumes nothing.
use mathlib.Core.Path.{◌≡◌, refl, sym, ap, ◌∙◌}
use mathlib.Core.Logic.{◌⊎◌, inl, inr}
use Prim.Native.Nat.{ℕ, zero, suc, ◌+◌, ◌-◌, ◌≤◌, ◌<◌, min}
use native.Mathlib.Omega.{arith}
use mathlib.Core.List.{List, [], ◌∷◌}
use lib.ListN.{length, set, take, length-set}
use lib.Seq.{set_out, take_all}
use lib.IntN.{ℤ, pos}
use mir.Syntax.{w64}
use mir.Val.{SFits}
use Rattle.std.specs.Prelude.{leb, true, false}
use Rattle.std.proofs.Common.{leb-true, leb-false}
use Rattle.numbers.specs.Lay.{lay}
use Rattle.numbers.specs.Laws.{decide}
use Rattle.rules.specs.Value.{at}
use Rattle.run.specs.Laws.Laying.{Laid, laid_by}
use Rattle.pieces.specs.Old.{part, Inside}
use Rattle.pieces.specs.Laws.Old.{part_at_lem, part_long}
use Rattle.pieces.specs.Laws.Changes.{kept}

-- words laid past the end change nothing
pub lay_past : (out : List ℤ) (place : ℕ) (ws : List ℤ) → length out ≤ place → lay out place ws ≡ out
unfolding lay
lay_past out place [] past = refl
lay_past out place (w ∷ ws) past =
    ap (λ (l : List ℤ). lay l (suc place) ws) (set_out out place w past) ∙ lay_past out (suc place) ws (omega arith)

-- as many words as reach the end are as good as all
lay_reach : (out : List ℤ) (place : ℕ) (ws : List ℤ) (n : ℕ) → length out ≤ place + n → lay out place (take n ws) ≡ lay out place ws
unfolding lay
lay_reach out place [] zero past = refl
lay_reach out place [] (suc n) past = refl
lay_reach out place (w ∷ ws) zero past = sym (lay_past out place (w ∷ ws) (omega arith))
lay_reach out place (w ∷ ws) (suc n) past = lay_reach (set out place w) (suc place) ws n (omega (arith, length-set out place w))

-- all are copied, or as many as the buffer has room for
module _ {old : List ℤ} (out : List ℤ) {from stop place count : ℕ} (lies : Inside old from stop) (is : count ≡ min (stop - from) (length out - place))
    (room : place < length out) where
  all : lay out place (take count (part old from stop)) ≡ lay out place (part old from stop)
  all = by (decide (leb (stop - from) (length out - place)))
    where
      by : (leb (stop - from) (length out - place) ≡ true) ⊎ (leb (stop - from) (length out - place) ≡ false)
          → lay out place (take count (part old from stop)) ≡ lay out place (part old from stop)
      by (inl e) =
          let fits = leb-true _ _ e in
          ap (lay out place) (take_all count (part old from stop) (omega (arith, part_long old from stop lies.ends, is)))
      by (inr e) =
          let more = leb-false _ _ e in
          lay_reach out place (part old from stop) count (omega (arith, is))

  -- the last turn leaves them all
  pub copied_all : {i : ℕ} {after : List ℤ} → Laid out place (part old from stop) i after → count ≤ i → i ≤ count
      → after ≡ lay out place (part old from stop)
  copied_all {i} laid low high =
      let same : i ≡ count = omega arith in
      laid.is ∙ ap (λ (n : ℕ). lay out place (take n (part old from stop))) same ∙ all

-- a turn copies the next word
pub copied_more : {old out₀ out : List ℤ} {from stop place i : ℕ} → Inside old from stop → Laid out₀ place (part old from stop) i out → i < stop - from
    → SFits w64 (at old (from + i)) → Laid out₀ place (part old from stop) (i + 1) (set out (place + i) (kept (at old (from + i))))
copied_more {old} {from} {stop} {i} lies laid below fits =
    laid_by (pos 0) laid (omega (arith, part_long old from stop lies.ends)) (sym (part_at_lem old from stop i below)) fits refl
