-- Laws of shifts: the new record is as long as the old one that was read, two words for each operator; the change is near; and an
-- operator's shift is its old operands recalled, each operand moved, and the new result settled.
-- Assumes nothing.
use Rattle.std.specs.Prelude.{◌≡◌, refl, Bool, true, false, not, List, [], ◌∷◌, ◌++◌, ℕ, ◌+◌, ◌-◌, ◌*◌, ◌≤◌, length, drop, ℤ, pos}
use Rattle.std.proofs.Common.{sym, ap, ◌∙◌, subst, arith, lit<, length-append, length-drop, drop-drop}
use Rattle.numbers.specs.Signed.{eq_z}
use Rattle.numbers.specs.Bounds.{mag_sub}
use Rattle.rules.specs.Outcome.{Outcome, accepted, refused, ◌>>=◌, out_of_range, broken}
use Rattle.rules.specs.Value.{Ty, in_type, plus, minus, differ, bit, at}
use Rattle.rules.specs.Tree.{Operator, Expression, constant, variable, operation, gives}
use Rattle.rules.specs.Run.{compute}
use Rattle.rules.specs.Patch.{Read, Shifted, read, read_in, moved, shift}
use Rattle.rules.proofs.Laws.Outcome.{Holds, value, vacant, holds_bind, holds_need, holds_any}
use Rattle.rules.proofs.Laws.Size.{operations}
use Rattle.rules.proofs.Laws.Typed.{computed}
use Rattle.run.specs.Laws.Expressions.{mag_of_type}
use Rattle.pieces.specs.Change.{Near, AllNear}
use Rattle.pieces.specs.Expression.{Recall, recall, operand_of, settle_of}

-- ---- an operator's shift, part by part

-- a computation that goes on in one or in two goes
grouped : {A B C : Type 0} (m : Outcome A) (f : A → Outcome B) (g : B → Outcome C) (h : A → Outcome C)
    → ((a : A) → h a ≡ (f a >>= g)) → (m >>= h) ≡ (m >>= f >>= g)
grouped (accepted a) f g h e = e a
grouped (refused r) f g h e = refl

pub shift_operation : (n : ℕ) (o : Operator) (a b : Expression) (changes ws : List ℤ)
    → shift (operation n o a b) changes ws
    ≡ (recall o ws >>= λ k. operand_of a k.left changes k.rest >>= λ x. operand_of b k.right changes x.rest >>= λ y. settle_of o k.result x y)
unfolding shift recall operand_of settle_of
shift_operation n o a b changes ws =
    grouped (read_in Ty.number ws) _ _ _ λ l.
    grouped (read_in Ty.number l.rest) _ _ _ λ r.
    grouped (compute broken o l.word r.word) _ _ _ λ z.
    grouped (shift a changes r.rest) _ _ _ λ x.
    grouped (moved Ty.number l.word x.change) _ _ _ λ left.
    grouped (shift b changes x.rest) _ _ _ λ y.
    grouped (moved Ty.number r.word y.change) _ _ _ λ right.
    refl

-- ---- how many words are read and laid down

-- how a shift reads the words before it: so many are behind it
pub record Sized (e : Expression) (ws : List ℤ) (x : Shifted) : Type 0 where
  pub size : length x.words ≡ 2 * operations e
  pub inside : length x.words ≤ length ws
  pub rest : x.rest ≡ drop (length x.words) ws

-- a word that is read is the first, and in its type
pub record First (t : Ty) (ws : List ℤ) (r : Read) : Type 0 where
  pub first : ws ≡ r.word ∷ r.rest
  pub typed : in_type t r.word ≡ true

pub read_first : (t : Ty) (ws : List ℤ) → Holds (First t ws) (read_in t ws)
unfolding read_in read
read_first t [] = vacant
read_first t (w ∷ ws) = holds_need (in_type t w) broken _ λ e. value (record { first = refl; typed = e })

-- two numbers are recalled, and their result in its type
pub record Recalled (o : Operator) (ws : List ℤ) (k : Recall) : Type 0 where
  pub first : ws ≡ k.left ∷ k.right ∷ k.rest
  pub left : in_type Ty.number k.left ≡ true
  pub right : in_type Ty.number k.right ≡ true
  pub result : in_type (gives o) k.result ≡ true

pub recalled : (o : Operator) (ws : List ℤ) → Holds (Recalled o ws) (recall o ws)
unfolding recall
recalled o ws =
    holds_bind (read_in Ty.number ws) _ (read_first Ty.number ws) λ l hl.
    holds_bind (read_in Ty.number l.rest) _ (read_first Ty.number l.rest) λ r hr.
    holds_bind (compute broken o l.word r.word) _ (computed broken o l.word r.word) λ z hz.
    value
    (record {
      first = hl.first ∙ ap (λ (vs : List ℤ). l.word ∷ vs) hr.first;
      left = hl.typed;
      right = hr.typed;
      result = rw hz.0 hz.1;
    })

operand_as : (e : Expression) (was : ℤ) (changes ws : List ℤ) → Holds (Sized e ws) (shift e changes ws) → Holds (Sized e ws) (operand_of e was changes ws)
unfolding operand_of
operand_as e was changes ws h =
    holds_bind (shift e changes ws) _ h λ x s.
    holds_bind (moved Ty.number was x.change) _ (holds_any (moved Ty.number was x.change)) λ z u.
    value (record { size = s.size; inside = s.inside; rest = s.rest })

-- two words before those of both operands
two_and_both : (n : ℕ) (o : Operator) (a b : Expression) (w v : ℤ) (ws : List ℤ) (was : ℤ) (x y : Shifted) → Sized a ws x → Sized b x.rest y
    → Holds (Sized (operation n o a b) (w ∷ v ∷ ws)) (settle_of o was x y)
unfolding settle_of operations
two_and_both n o a b w v ws was x y s t =
    let both : length (x.words ++ y.words) ≡ length x.words + length y.words = length-append x.words y.words in
    let behind : length x.rest ≡ length ws - length x.words = ap length s.rest ∙ length-drop (length x.words) ws in
    holds_bind (compute out_of_range o x.change y.change) _ (holds_any (compute out_of_range o x.change y.change)) λ z u.
    value (record {
      size = omega (arith, both, s.size, t.size);
      inside = omega (arith, both, behind, s.inside, t.inside);
      rest = t.rest ∙ ap (drop (length y.words)) s.rest ∙ drop-drop (length y.words) (length x.words) ws
          ∙ ap (λ (k : ℕ). drop k ws) (sym both);
    })

-- nothing is read
leaf_sized : (e : Expression) (change : ℤ) (ws : List ℤ) → operations e ≡ 0 → Sized e ws (record { change = change; words = []; rest = ws })
leaf_sized e change ws none = record { size = omega (arith, none); inside = omega arith; rest = refl }

pub shift_sized : (e : Expression) (changes ws : List ℤ) → Holds (Sized e ws) (shift e changes ws)
unfolding shift operations
shift_sized (constant n z) changes ws = value (leaf_sized (constant n z) (pos 0) ws refl)
shift_sized (variable n v) changes ws = value (leaf_sized (variable n v) (at changes v) ws refl)
shift_sized (operation n o a b) changes ws = subst (Holds (Sized (operation n o a b) ws)) (sym (shift_operation n o a b changes ws))
    (holds_bind (recall o ws) _ (recalled o ws) λ k hk.
    holds_bind (operand_of a k.left changes k.rest) _ (operand_as a k.left changes k.rest (shift_sized a changes k.rest)) λ x hx.
    holds_bind (operand_of b k.right changes x.rest) _ (operand_as b k.right changes x.rest (shift_sized b changes x.rest)) λ y hy.
    subst (λ (vs : List ℤ). Holds (Sized (operation n o a b) vs) (settle_of o k.result x y)) (sym hk.first)
    (two_and_both n o a b k.left k.right k.rest k.result x y hx hy))

pub operand_sized : (e : Expression) (was : ℤ) (changes ws : List ℤ) → Holds (Sized e ws) (operand_of e was changes ws)
operand_sized e was changes ws = operand_as e was changes ws (shift_sized e changes ws)

-- ---- the change is near, and an operand a number

near_bit : (b : Bool) → Near (bit b)
near_bit true = lit< tt
near_bit false = lit< tt

pub near_minus : (t : Ty) (new old : ℤ) → in_type t new ≡ true → in_type t old ≡ true → Near (minus t new old)
unfolding minus differ
near_minus Ty.number new old hn ho = omega (arith, mag_sub new old, mag_of_type Ty.number new hn, mag_of_type Ty.number old ho)
near_minus Ty.truth new old hn ho = near_bit (not (eq_z new old))

settled_near : (o : Operator) (was : ℤ) (x y : Shifted) → in_type (gives o) was ≡ true → Holds (λ z. Near z.change) (settle_of o was x y)
unfolding settle_of
settled_near o was x y h =
    holds_bind (compute out_of_range o x.change y.change) _ (computed out_of_range o x.change y.change) λ z hz.
    value (near_minus (gives o) z was (rw hz.0 hz.1) h)

pub shift_near : (e : Expression) (changes ws : List ℤ) → AllNear changes → Holds (λ x. Near x.change) (shift e changes ws)
unfolding shift
shift_near (constant n z) changes ws near = value (lit< tt)
shift_near (variable n v) changes ws near = value (near v)
shift_near (operation n o a b) changes ws near = subst (Holds (λ x. Near x.change)) (sym (shift_operation n o a b changes ws))
    (holds_bind (recall o ws) _ (recalled o ws) λ k hk.
    holds_bind (operand_of a k.left changes k.rest) _ (holds_any (operand_of a k.left changes k.rest)) λ x hx.
    holds_bind (operand_of b k.right changes x.rest) _ (holds_any (operand_of b k.right changes x.rest)) λ y hy.
    settled_near o k.result x y hk.result)

moved_in : (t : Ty) (old change : ℤ) → Holds (λ z. in_type t z ≡ true) (moved t old change)
unfolding moved
moved_in t old change = holds_need (in_type t (plus t old change)) broken _ λ h. value h

pub operand_number : (e : Expression) (was : ℤ) (changes ws : List ℤ) → Holds (λ x. in_type Ty.number x.change ≡ true) (operand_of e was changes ws)
unfolding operand_of
operand_number e was changes ws =
    holds_bind (shift e changes ws) _ (holds_any (shift e changes ws)) λ x u.
    holds_bind (moved Ty.number was x.change) _ (moved_in Ty.number was x.change) λ z h.
    value h
