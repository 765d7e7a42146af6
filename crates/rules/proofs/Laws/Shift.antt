-- An expression's shift is its evaluation on the new store: through the record that evaluating left, with the difference of the
-- two stores, the walk answers what evaluating anew answers. By induction on the expression, in record order.
-- Assumes nothing.
use Rattle.std.specs.Prelude.{◌≡◌, true, length, ℤ}
use Rattle.std.proofs.Common.{sym, ap₂, ◌∙◌}
use Rattle.std.proofs.Math.Path.{ap}
use mathlib.Core.List.{List, [], ◌∷◌, ◌++◌, append_assoc}
use Rattle.rules.specs.Outcome.{Refusal, accepted, out_of_range, broken}
use Rattle.rules.specs.Value.{Ty, in_type, minus, at}
use Rattle.rules.specs.Tree.{Operator, Expression, constant, variable, operation, gives, apply}
use Rattle.rules.specs.Run.{Valued, compute, evaluate}
use Rattle.rules.specs.Patch.{Shifted, read, read_in, moved, shift}
use Rattle.rules.proofs.Laws.Outcome.{Holds, value, holds_bind, holds_both, Alike, values, alike_bind, alike_after, alike_with}
use Rattle.rules.proofs.Laws.Value.{plus_minus, minus_self}
use Rattle.rules.proofs.Laws.Store.{Good, difference, at_difference}
use Rattle.rules.proofs.Laws.Typed.{TypedAs, value_typed, computed}

-- the shift of an expression whose old value is x: the change to the new one, its new record, and the words behind
abbrev pub Shift : Ty → Valued → List ℤ → Valued → Shifted → Type 0
Shift t x rest y s = s ≡ record { change = minus t y.value x.value; words = y.words; rest = rest }

-- a word in its type is read, and with its change it is the new value
pub reads_in : (t : Ty) (z : ℤ) (rest : List ℤ) → in_type t z ≡ true → read_in t (z ∷ rest) ≡ accepted (record { word = z; rest = rest })
unfolding read_in read
reads_in t z rest h = rw h

pub moves_to : (t : Ty) (old new : ℤ) → in_type t old ≡ true → in_type t new ≡ true → moved t old (minus t new old) ≡ accepted new
unfolding moved
moves_to t old new ho hn = rw (plus_minus t old new ho hn, hn)

-- an operator's result that was in range is found again
pub computes : (r : Refusal) (o : Operator) (x y : ℤ) → in_type (gives o) (apply o x y) ≡ true → compute r o x y ≡ accepted (apply o x y)
unfolding compute
computes r o x y h = rw h

-- shifts that differ in the change alone
shift_by : {c d : ℤ} (words rest : List ℤ) → c ≡ d
    → ◌≡◌ {A = Shifted} (record { change = c; words = words; rest = rest }) (record { change = d; words = words; rest = rest })
shift_by words rest e = rw e

module _ (types : List Ty) (old new : List ℤ) (long : length new ≡ length old) (good : Good types old) (good' : Good types new) where
  pub shift_follows : (t : Ty) (e : Expression) → TypedAs types t e
      → Holds (λ x. (rest : List ℤ) → Alike (Shift t x rest) (evaluate e new) (shift e (difference types new old) (x.words ++ rest)))
      (evaluate e old)
  unfolding evaluate shift
  shift_follows t (constant n z) h = value λ rest. values (shift_by [] rest (sym (minus_self t z)))
  shift_follows t (variable n v) h = value λ rest. values (shift_by [] rest (at_difference types new old long v ∙ ap (λ u. minus u (at new v) (at old v)) h))
  shift_follows t (operation n o a b) h =
      holds_bind (evaluate a old) _ (holds_both (value_typed types old good Ty.number a h.0) (shift_follows Ty.number a h.0)) λ l hl.
      holds_bind (evaluate b old) _ (holds_both (value_typed types old good Ty.number b h.1) (shift_follows Ty.number b h.1)) λ r hr.
      holds_bind (compute out_of_range o l.value r.value) _ (computed out_of_range o l.value r.value) λ z hz.
      value λ rest.
      rw (
        reads_in Ty.number l.value (r.value ∷ (l.words ++ r.words) ++ rest) hl.0,
        reads_in Ty.number r.value ((l.words ++ r.words) ++ rest) hr.0,
        computes broken o l.value r.value hz.1,
        append_assoc l.words r.words rest,
      )
      (alike_bind (evaluate a new) (shift a (difference types new old) (l.words ++ (r.words ++ rest))) _ _
      (alike_with (value_typed types new good' Ty.number a h.0) (hl.1 (r.words ++ rest))) λ l' x p.
      rw (p.1, moves_to Ty.number l.value l'.value hl.0 p.0)
      (alike_bind (evaluate b new) (shift b (difference types new old) (r.words ++ rest)) _ _
      (alike_with (value_typed types new good' Ty.number b h.1) (hr.1 rest)) λ r' y q.
      rw (q.1, moves_to Ty.number r.value r'.value hr.0 q.0)
      (alike_after (compute out_of_range o l'.value r'.value) _ _ λ z'.
      values (shift_by (l'.value ∷ r'.value ∷ (l'.words ++ r'.words)) rest
      (ap₂ {C = ℤ} (λ u w. minus u z' w) h.2 (sym hz.0))))))
