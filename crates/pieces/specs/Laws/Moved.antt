-- What words take of the changes: each that moves is a value of its type, the old word plus its change; and the store that they make,
-- zero elsewhere, is fine.
-- Assumes nothing.
use Rattle.std.specs.Prelude.{◌≡◌, true, false, ◌⊎◌, ℕ, zero, suc, ltb, length, set, replicate, ℤ, pos}
use Rattle.std.proofs.Math.Path.{refl, ap₂}
use Rattle.std.proofs.Common.{ap, ◌∙◌, subst, inl, inr, ltb-true, ltb-false, get_or-set_same, get_or-set_other}
use mathlib.Core.List.{List, [], ◌∷◌}
use Rattle.std.proofs.Math.Decide.{ℕ_discrete}
use Rattle.std.proofs.lemmas.List.{length-replicate}
use Rattle.std.proofs.Math.Seq.{set_out}
use Rattle.numbers.specs.Laws.{decide}
use Rattle.rules.specs.Outcome.{accepted}
use Rattle.rules.specs.Value.{Ty, at, type_of, in_type, plus, zeros, most_variables, put}
use Rattle.rules.specs.Patch.{moved, moved_all}
use Rattle.rules.proofs.Laws.Outcome.{Holds, value, vacant, holds_bind, holds_of}
use Rattle.rules.proofs.Laws.Value.{zero_in}
use Rattle.rules.proofs.Laws.Store.{Good, length_put}
use Rattle.rules.proofs.Laws.Entry.{Fine}
use Rattle.pieces.specs.Snapshot.{plus_each}

-- words that took their changes, each in its type
data Moved (types : List Ty) (changes : List ℤ) : List ℕ → List ℤ → List ℤ → Type 0 where
  all : {words : List ℤ} → Moved types changes [] words []
  short : {v : ℕ} {vs : List ℕ} → Moved types changes (v ∷ vs) [] []
  more : {v : ℕ} {vs : List ℕ} {o : ℤ} {os zs : List ℤ} → in_type (type_of types v) (plus (type_of types v) o (at changes v)) ≡ true → Moved types changes vs os zs
      → Moved types changes (v ∷ vs) (o ∷ os) (plus (type_of types v) o (at changes v) ∷ zs)

module _ (types : List Ty) (changes : List ℤ) where
  moved_word : (v : ℕ) (vs : List ℕ) (o : ℤ) (os : List ℤ) → Holds (Moved types changes vs os) (moved_all types vs os changes)
      → (in_type (type_of types v) (plus (type_of types v) o (at changes v)) ≡ true) ⊎ (in_type (type_of types v) (plus (type_of types v) o (at changes v)) ≡ false)
      → Holds (Moved types changes (v ∷ vs) (o ∷ os)) (moved_all types (v ∷ vs) (o ∷ os) changes)
  unfolding moved_all moved
  moved_word v vs o os behind (inl fit) = rw fit (holds_bind (moved_all types vs os changes) _ behind λ zs m. value (more fit m))
  moved_word v vs o os behind (inr unfit) = rw unfit vacant

  moved_each : (vs : List ℕ) (words : List ℤ) → Holds (Moved types changes vs words) (moved_all types vs words changes)
  unfolding moved_all
  moved_each [] words = value all
  moved_each (v ∷ vs) [] = value short
  moved_each (v ∷ vs) (o ∷ os) = moved_word v vs o os (moved_each vs os) (decide (in_type (type_of types v) (plus (type_of types v) o (at changes v))))

  moved_is : (vs : List ℕ) (words news : List ℤ) → moved_all types vs words changes ≡ accepted news → Moved types changes vs words news
  moved_is vs words news e = holds_of (subst (Holds (Moved types changes vs words)) e (moved_each vs words))

  plus_is : {vs : List ℕ} {words news : List ℤ} → Moved types changes vs words news → news ≡ plus_each types vs words changes
  unfolding plus_each
  plus_is all = refl
  plus_is short = refl
  plus_is (more fit m) = ap₂ {C = List ℤ} (λ z zs. z ∷ zs) refl (plus_is m)

  long_is : {vs : List ℕ} {words news : List ℤ} → Moved types changes vs words news → length words ≡ length vs → length news ≡ length vs
  long_is all e = refl
  long_is short e = e
  long_is (more fit m) e = ap suc (long_is m (cc))

pub moved_plus : (types : List Ty) (vs : List ℕ) (words changes news : List ℤ) → moved_all types vs words changes ≡ accepted news
    → news ≡ plus_each types vs words changes
moved_plus types vs words changes news e = plus_is types changes (moved_is types changes vs words news e)

pub moved_long : (types : List Ty) (vs : List ℕ) (words changes news : List ℤ) → length words ≡ length vs → moved_all types vs words changes ≡ accepted news
    → length news ≡ length vs
moved_long types vs words changes news many e = long_is types changes (moved_is types changes vs words news e) many

-- ---- the store that they make

-- a fact of each variable's word stays, where it is true of each word that is put
module _ (P : ℕ → ℤ → Type 0) where
  pub set_each : (store : List ℤ) → ((w : ℕ) → P w (at store w)) → (v : ℕ) (z : ℤ) → P v z → (w : ℕ) → P w (at (set store v z) w)
  set_each store each v z p w = known (ℕ_discrete w v) (decide (ltb v (length store)))
    where
      known : Dec (w ≡ v) → (ltb v (length store) ≡ true) ⊎ (ltb v (length store) ≡ false) → P w (at (set store v z) w)
      known (no apart) t = rw (get_or-set_other store v w z (pos 0) apart) (each w)
      known (yes e) (inl t) = rw (e, get_or-set_same store v z (pos 0) (ltb-true v (length store) t)) p
      known (yes e) (inr t) = rw (set_out store v z (ltb-false v (length store) t)) (each w)

zeros_good : (types : List Ty) → Good types (zeros most_variables)
unfolding zeros most_variables
zeros_good types v = rw (zero_at 32 v) (zero_in (type_of types v))
  where
    zero_at : (n k : ℕ) → at (replicate n (pos 0)) k ≡ pos 0
    zero_at zero k = refl
    zero_at (suc n) zero = refl
    zero_at (suc n) (suc k) = zero_at n k

put_good : {types : List Ty} {changes : List ℤ} {vs : List ℕ} {words news : List ℤ} → Moved types changes vs words news
    → (store : List ℤ) → Good types store → Good types (put vs news store)
unfolding put
put_good all store good = good
put_good short store good = good
put_good {types} (more {v} {vs} {o} {os} {zs} fit m) store good =
    put_good m _ (set_each (λ w z. in_type (type_of types w) z ≡ true) store good v _ fit)

pub zeros_long : length (zeros most_variables) ≡ most_variables
unfolding zeros
zeros_long = length-replicate most_variables (pos 0)

pub started_fine : (types : List Ty) (vs : List ℕ) (words changes news : List ℤ) → moved_all types vs words changes ≡ accepted news
    → Fine types (put vs news (zeros most_variables))
started_fine types vs words changes news e = record {
  long = length_put vs news (zeros most_variables) ∙ zeros_long;
  good = put_good (moved_is types changes vs words news e) (zeros most_variables) (zeros_good types);
}
