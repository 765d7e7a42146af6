-- An operator's old operands and its new result in code: what the words at a place recall, and what a computed number says.
-- Assumes nothing.
use mathlib.Core.Path.{◌≡◌, refl, sym, ap, ap₂, ◌∙◌, subst}
use mathlib.Core.Logic.{⊎_elim}
use mathlib.Core.Bool.{true, false}
use mathlib.Core.List.{List, [], ◌∷◌}
use Prim.Native.Nat.{ℕ, ◌+◌, ◌≤◌, ◌<◌}
use native.Mathlib.Omega.{arith}
use lib.ListN.{length, drop}
use lib.IntN.{ℤ}
use Rattle.std.specs.Prelude.{Option, Some, None, Ok, Err}
use Rattle.numbers.specs.Laws.{decide}
use Rattle.rules.specs.Outcome.{Refusal, accepted, refused, ◌>>=◌, broken}
use Rattle.rules.specs.Value.{Ty, in_type, at}
use Rattle.rules.specs.Tree.{Operator, gives, apply}
use Rattle.rules.specs.Run.{compute}
use Rattle.rules.specs.Patch.{read, read_in}
use Rattle.rules.proofs.Laws.Outcome.{holds_at}
use Rattle.table.specs.Agrees.{agrees_ok, agrees_err, accepts}
use Rattle.table.specs.declared.answer.Refusal.TheVariants.{Broken}
use Rattle.run.specs.Code.{Number, computed_as}
use Rattle.run.specs.Laws.Expressions.{mag_of_type}
use Rattle.pieces.specs.Change.{Near}
use Rattle.pieces.specs.Old.{part, Inside}
use Rattle.pieces.specs.Expression.{recall, Recalls}
use Rattle.pieces.specs.Laws.Old.{part_long, part_next, part_drop}
use Rattle.pieces.specs.Laws.Expression.{Recalled, recalled}
use Rattle.pieces.specs.Laws.Changes.{kept, near_kept, chosen_in, chosen_out}
use Rattle.pieces.specs.declared.expression.Recalled.{Recalled as Answer}

-- ---- a number that was computed, or none

module _ (o : Operator) (x y : ℤ) {r : Option ℤ} (is : r ≡ computed_as o x y) where
  computed_none : (reason : Refusal) → r ≡ None → compute reason o x y ≡ refused reason
  unfolding compute
  computed_none reason e = rw (chosen_out (in_type (gives o) (apply o x y)) (apply o x y) (sym is ∙ e))

  -- what was computed is in the operator's type
  computed_in : {z : ℤ} → r ≡ Some z → (in_type (gives o) (apply o x y) ≡ true) × (z ≡ apply o x y)
  computed_in e = chosen_in (in_type (gives o) (apply o x y)) (apply o x y) (sym is ∙ e)

  pub computed_near : {z : ℤ} → r ≡ Some z → Near z
  computed_near {z} e =
      let h = computed_in e in
      subst Near (sym h.1) (omega (arith, mag_of_type (gives o) (apply o x y) h.0))

  computed_as_lem : (reason : Refusal) {z : ℤ} → r ≡ Some z → compute reason o x y ≡ accepted z
  unfolding compute
  computed_as_lem reason e = let h = computed_in e in rw (h.0, h.1)

-- ---- the words at a place

module _ (o : Operator) where
  recall_short : (ws : List ℤ) → length ws < 2 → recall o ws ≡ refused broken
  unfolding recall read_in read
  recall_short [] h = refl
  recall_short (w ∷ []) h = ⊎_elim (λ e. rw e) (λ e. rw e) (decide (in_type Ty.number w))
  recall_short (w ∷ v ∷ ws) h = absurd (omega (arith, h))

  recall_left : (w : ℤ) (ws : List ℤ) → in_type Ty.number w ≡ false → recall o (w ∷ ws) ≡ refused broken
  unfolding recall read_in read
  recall_left w ws e = rw e

  recall_right : (w v : ℤ) (ws : List ℤ) → Number w → in_type Ty.number v ≡ false → recall o (w ∷ v ∷ ws) ≡ refused broken
  unfolding recall read_in read
  recall_right w v ws h e = rw (h, e)

  recall_both : (w v : ℤ) (ws : List ℤ) → Number w → Number v
      → recall o (w ∷ v ∷ ws) ≡ (compute broken o w v >>= λ z. accepted (record { left = w; right = v; result = z; rest = ws }))
  unfolding recall read_in read
  recall_both w v ws h e = rw (h, e)

  module _ {old : List ℤ} {from end : ℕ} (inside : Inside old from end) where
    pub recalls_short : end < from + 2 → Recalls o old from end (Err Broken)
    recalls_short short = agrees_err (recall_short (part old from end) (omega (arith, part_long old from end inside.ends, short))) refl

    -- two words are there
    module _ (room : from + 2 ≤ end) {x y : ℤ} (left : x ≡ at old from) (right : y ≡ at old (from + 1)) where
      two : part old from end ≡ x ∷ y ∷ part old (from + 2) end
      two =
          let next : from + 1 + 1 ≡ from + 2 = omega arith in
          part_next old from end (omega arith) inside.ends
          ∙ ap₂ {C = List ℤ} (λ (w : ℤ) (ws : List ℤ). w ∷ ws) (sym left)
          (part_next old (from + 1) end (omega arith) inside.ends
          ∙ ap₂ {C = List ℤ} (λ (w : ℤ) (k : ℕ). w ∷ part old k end) (sym right) next)

      pub recalls_left : in_type Ty.number x ≡ false → Recalls o old from end (Err Broken)
      recalls_left e = agrees_err (ap (recall o) two ∙ recall_left x (y ∷ part old (from + 2) end) e) refl

      pub recalls_right : Number x → in_type Ty.number y ≡ false → Recalls o old from end (Err Broken)
      recalls_right h e = agrees_err (ap (recall o) two ∙ recall_right x y (part old (from + 2) end) h e) refl

      module _ (hx : Number x) (hy : Number y) {r : Option ℤ} (is : r ≡ computed_as o x y) where
        both : recall o (part old from end) ≡ (compute broken o x y >>= λ z. accepted (record { left = x; right = y; result = z; rest = part old (from + 2) end }))
        both = ap (recall o) two ∙ recall_both x y (part old (from + 2) end) hx hy

        pub recalls_none : r ≡ None → Recalls o old from end (Err Broken)
        recalls_none e = agrees_err {p = broken} (both ∙ rw (computed_none o x y is broken e)) refl

        pub recalls_are : {z : ℤ} → r ≡ Some z → Recalls o old from end (Ok (record { left = x; right = y; result = kept z }))
        recalls_are {z} e = agrees_ok {a = record { left = x; right = y; result = z; rest = part old (from + 2) end }}
            (both ∙ rw (computed_as_lem o x y is broken e))
            (record { left = refl; right = refl; result = near_kept z (computed_near o x y is e) })

-- ---- an operator's old operands and old result

pub record Remembered (o : Operator) (old : List ℤ) (from end : ℕ) (r : Answer) : Type 0 where
  pub comes : recall o (part old from end) ≡ accepted (record { left = r.left; right = r.right; result = r.result; rest = part old (from + 2) end })
  pub room : from + 2 ≤ end
  pub left : Number r.left
  pub right : Number r.right
  pub near : Near r.result

pub remembered : (o : Operator) (old : List ℤ) (from end : ℕ) → Inside old from end → (r : Answer) → Recalls o old from end (Ok r) → Remembered o old from end r
remembered o old from end inside r h =
    let a = accepts h refl in
    let k = a.value in
    let s : Recalled o (part old from end) k = holds_at a.comes (recalled o (part old from end)) in
    let room : from + 2 ≤ end = omega (arith, ap length s.first, part_long old from end inside.ends, inside.ordered) in
    let behind : k.rest ≡ part old (from + 2) end = ap (drop 2) (sym s.first) ∙ part_drop old from end 2 room in
    let same : k ≡ record { left = r.left; right = r.right; result = r.result; rest = part old (from + 2) end }
    = λ i. record { left = sym a.holds.left i; right = sym a.holds.right i; result = sym a.holds.result i; rest = behind i } in
    record {
      comes = a.comes ∙ ap accepted same;
      room = room;
      left = subst Number (sym a.holds.left) s.left;
      right = subst Number (sym a.holds.right) s.right;
      near = subst Near (sym a.holds.result) (omega (arith, mag_of_type (gives o) k.result s.result));
    }
