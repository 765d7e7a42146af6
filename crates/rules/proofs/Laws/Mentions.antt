-- Laws of the lists of variables: a part's variables are among its whole's.
-- Assumes nothing.
use Rattle.std.specs.Prelude.{◌≡◌, refl, ◌⊎◌}
use Rattle.std.proofs.Common.{ap, inl, inr, eqb-true}
use Prim.Native.Nat.{ℕ, compare, Ordering}
use mathlib.Core.List.Memᴰ
use mathlib.Core.List.{List, [], ◌∷◌, Memᴰ}
use Rattle.std.proofs.Math.Decide.{ℕ_discrete}
use Rattle.std.proofs.Math.Dec.{compare_is_eq}
use Rattle.rules.specs.Tree.{Expression, Statement, assign, sequence, if, repeat, among, insert, union, reads, mentions}

-- v is one of vs
infix 30 ◌∈◌
abbrev pub ◌∈◌ : ℕ → List ℕ → Type 0
v ∈ vs = Memᴰ v vs

-- each of vs is one of ws
infix 30 ◌⊆◌
abbrev pub ◌⊆◌ : List ℕ → List ℕ → Type 0
vs ⊆ ws = (v : ℕ) → v ∈ vs → v ∈ ws

member : (v w : ℕ) (ws : List ℕ) → Dec (v ≡ w) → (v ∈ ws) ⊎ (v ∈ ws → ⊥) → (v ∈ w ∷ ws) ⊎ (v ∈ w ∷ ws → ⊥)
member v w ws (yes e) h = inl (Memᴰ.head e)
member v w ws (no f) (inl h) = inl (Memᴰ.tail h)
member v w ws (no f) (inr g) = inr λ h. neither (Memᴰ.cases_cons h)
  where
    neither : (v ≡ w) ⊎ (v ∈ ws) → ⊥
    neither (inl e) = f e
    neither (inr h) = g h

-- it is one of them or not
pub is_member : (v : ℕ) (vs : List ℕ) → (v ∈ vs) ⊎ (v ∈ vs → ⊥)
is_member v [] = inr Memᴰ.not-nil
is_member v (w ∷ ws) = member v w ws (ℕ_discrete v w) (is_member v ws)

-- ---- insert and union

among_new : (o : Ordering) (v w : ℕ) (ws further : List ℕ) → (compare v w ≡ o) → v ∈ further → v ∈ among o v w ws further
among_new Ordering.lt v w ws further e h = Memᴰ.head refl
among_new Ordering.eq v w ws further e h = Memᴰ.head (eqb-true v w (ap compare_is_eq e))
among_new Ordering.gt v w ws further e h = Memᴰ.tail h

pub insert_new : (v : ℕ) (ws : List ℕ) → v ∈ insert v ws
unfolding insert
insert_new v [] = Memᴰ.head refl
insert_new v (w ∷ ws) = among_new (compare v w) v w ws (insert v ws) refl (insert_new v ws)

among_old : (o : Ordering) (u v w : ℕ) (ws further : List ℕ) → ((u ∈ ws) → u ∈ further) → u ∈ w ∷ ws → u ∈ among o v w ws further
among_old Ordering.lt u v w ws further f h = Memᴰ.tail h
among_old Ordering.eq u v w ws further f h = h
among_old Ordering.gt u v w ws further f (Memᴰ.head e) = Memᴰ.head e
among_old Ordering.gt u v w ws further f (Memᴰ.tail h) = Memᴰ.tail (f h)

pub insert_old : (v : ℕ) (ws : List ℕ) → ws ⊆ insert v ws
unfolding insert
insert_old v [] u h = Memᴰ.tail h
insert_old v (w ∷ ws) u h = among_old (compare v w) u v w ws (insert v ws) (insert_old v ws u) h

pub union_right : (vs ws : List ℕ) → ws ⊆ union vs ws
unfolding union
union_right [] ws u h = h
union_right (v ∷ vs) ws u h = insert_old v (union vs ws) u (union_right vs ws u h)

pub union_left : (vs ws : List ℕ) → vs ⊆ union vs ws
unfolding union
union_left [] ws u x = elim x [ ]
union_left (v ∷ vs) ws u (Memᴰ.head e) = Memᴰ.cast e (insert_new v (union vs ws))
union_left (v ∷ vs) ws u (Memᴰ.tail h) = insert_old v (union vs ws) u (union_left vs ws u h)

-- ---- a statement's parts

module _ (n : ℕ) (s t : Statement) where
  pub sequence_first : mentions s ⊆ mentions (sequence n s t)
  unfolding mentions
  sequence_first = union_left (mentions s) (mentions t)

  pub sequence_second : mentions t ⊆ mentions (sequence n s t)
  unfolding mentions
  sequence_second = union_right (mentions s) (mentions t)

module _ (n : ℕ) (e : Expression) (s t : Statement) where
  pub if_condition : reads e ⊆ mentions (if n e s t)
  unfolding mentions
  if_condition = union_left (reads e) (union (mentions s) (mentions t))

  pub if_then : mentions s ⊆ mentions (if n e s t)
  unfolding mentions
  if_then v m = union_right (reads e) (union (mentions s) (mentions t)) v (union_left (mentions s) (mentions t) v m)

  pub if_else : mentions t ⊆ mentions (if n e s t)
  unfolding mentions
  if_else v m = union_right (reads e) (union (mentions s) (mentions t)) v (union_right (mentions s) (mentions t) v m)

module _ (n : ℕ) (e : Expression) (s : Statement) where
  pub repeat_count : reads e ⊆ mentions (repeat n e s)
  unfolding mentions
  repeat_count = union_left (reads e) (mentions s)

  pub repeat_body : mentions s ⊆ mentions (repeat n e s)
  unfolding mentions
  repeat_body = union_right (reads e) (mentions s)

  pub assign_expression : (v : ℕ) → reads e ⊆ mentions (assign n v e)
  unfolding mentions
  assign_expression v = insert_old v (reads e)

  pub assign_variable : (v : ℕ) → v ∈ mentions (assign n v e)
  unfolding mentions
  assign_variable v = insert_new v (reads e)
