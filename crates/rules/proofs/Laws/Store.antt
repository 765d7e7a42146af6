-- Laws of stores: the difference of two stores variable by variable, snapshots and what is put back from them.
-- Two lists of equal length are equal when they have the same word at each variable.
-- Assumes nothing.
use Rattle.std.specs.Prelude.{◌≡◌, refl, ◌⊎◌, ℕ, zero, suc, true, List, [], ◌∷◌, ◌++◌, length, set, ℤ, pos}
use Rattle.std.proofs.Common.{sym, ap, ap₂, ◌∙◌, inl, inr, arith, length-set, ext_get_or}
use mathlib.Core.List.Memᴰ
use Rattle.std.proofs.lemmas.List.{length-map}
use Rattle.numbers.specs.Signed.{eq_z}
use Rattle.numbers.specs.Laws.{and_left, and_right, eq_z_true}
use Rattle.rules.specs.Outcome.{accepted}
use Rattle.rules.specs.Value.{Ty, in_type, minus, at, type_of, snapshot, put, minus_all, unchanged}
use Rattle.rules.specs.Patch.{read, read_in, moved, read_snapshot, moved_all}
use Rattle.rules.proofs.Laws.Value.{plus_minus, minus_self, unmoved}
use Rattle.rules.proofs.Laws.Mentions.{◌∈◌, ◌⊆◌, is_member}

-- every variable's value is in its type
abbrev pub Good : List Ty → List ℤ → Type 0
Good types store = (v : ℕ) → in_type (type_of types v) (at store v) ≡ true

-- the stores agree on these variables
pub record Agree (vs : List ℕ) (store other : List ℤ) : Type 0 where
  pub long : length store ≡ length other
  pub on : (v : ℕ) → v ∈ vs → at store v ≡ at other v

pub agree_part : {vs ws : List ℕ} {store other : List ℤ} → vs ⊆ ws → Agree ws store other → Agree vs store other
agree_part sub h = record { long = h.long; on = λ v m. h.on v (sub v m) }

suc_injective : {a b : ℕ} → suc a ≡ suc b → a ≡ b
suc_injective e = cc

-- lists of unequal length are none of ours
apart : {X : Type 0} (n : ℕ) → suc n ≡ 0 → X
apart n e = absurd (no_number e)
  where
    no_number : suc n ≡ 0 → ⊥
    no_number e = omega arith

set_alike : (store other : List ℤ) → length store ≡ length other → (v : ℕ) (z : ℤ) (w : ℕ)
    → at store w ≡ at other w → at (set store v z) w ≡ at (set other v z) w
set_alike [] [] e v z w h = h
set_alike [] (o ∷ os) e v z w h = apart (length os) (sym e)
set_alike (s ∷ ss) [] e v z w h = apart (length ss) e
set_alike (s ∷ ss) (o ∷ os) e zero z zero h = refl
set_alike (s ∷ ss) (o ∷ os) e zero z (suc w) h = h
set_alike (s ∷ ss) (o ∷ os) e (suc v) z zero h = h
set_alike (s ∷ ss) (o ∷ os) e (suc v) z (suc w) h = set_alike ss os (suc_injective e) v z w h

-- a variable set alike in both
pub agree_set : {vs : List ℕ} {store other : List ℤ} (v : ℕ) (z : ℤ) → Agree vs store other → Agree vs (set store v z) (set other v z)
agree_set {store} {other} v z h = record {
  long = length-set store v z ∙ h.long ∙ sym (length-set other v z);
  on = λ w m. set_alike store other h.long v z w (h.on w m);
}

-- ---- the difference of two stores

unfoldable pub difference : List Ty → List ℤ → List ℤ → List ℤ
difference types [] olds = []
difference types (n ∷ ns) [] = []
difference [] (n ∷ ns) (o ∷ os) = minus Ty.number n o ∷ difference [] ns os
difference (t ∷ ts) (n ∷ ns) (o ∷ os) = minus t n o ∷ difference ts ns os

pub length_difference : (types : List Ty) (news olds : List ℤ) → length news ≡ length olds → length (difference types news olds) ≡ length news
unfolding difference
length_difference types [] olds e = refl
length_difference types (n ∷ ns) [] e = apart (length ns) e
length_difference [] (n ∷ ns) (o ∷ os) e = ap suc (length_difference [] ns os (suc_injective e))
length_difference (t ∷ ts) (n ∷ ns) (o ∷ os) e = ap suc (length_difference ts ns os (suc_injective e))

pub at_difference : (types : List Ty) (news olds : List ℤ) → length news ≡ length olds
    → (v : ℕ) → at (difference types news olds) v ≡ minus (type_of types v) (at news v) (at olds v)
unfolding difference
at_difference types [] [] e v = sym (minus_self (type_of types v) (pos 0))
at_difference types [] (o ∷ os) e v = apart (length os) (sym e)
at_difference types (n ∷ ns) [] e v = apart (length ns) e
at_difference [] (n ∷ ns) (o ∷ os) e zero = refl
at_difference [] (n ∷ ns) (o ∷ os) e (suc v) = at_difference [] ns os (suc_injective e) v
at_difference (t ∷ ts) (n ∷ ns) (o ∷ os) e zero = refl
at_difference (t ∷ ts) (n ∷ ns) (o ∷ os) e (suc v) = at_difference ts ns os (suc_injective e) v

pub set_difference : (types : List Ty) (news olds : List ℤ) → length news ≡ length olds → (v : ℕ) (n o : ℤ)
    → difference types (set news v n) (set olds v o) ≡ set (difference types news olds) v (minus (type_of types v) n o)
unfolding difference
set_difference types [] [] e v n o = refl
set_difference types [] (o' ∷ os) e v n o = refl
set_difference types (n' ∷ ns) [] e v n o = apart (length ns) e
set_difference [] (n' ∷ ns) (o' ∷ os) e zero n o = refl
set_difference [] (n' ∷ ns) (o' ∷ os) e (suc v) n o = ap (λ r. minus Ty.number n' o' ∷ r) (set_difference [] ns os (suc_injective e) v n o)
set_difference (t ∷ ts) (n' ∷ ns) (o' ∷ os) e zero n o = refl
set_difference (t ∷ ts) (n' ∷ ns) (o' ∷ os) e (suc v) n o = ap (λ r. minus t n' o' ∷ r) (set_difference ts ns os (suc_injective e) v n o)

-- ---- snapshots

pub length_snapshot : (vs : List ℕ) (store : List ℤ) → length (snapshot vs store) ≡ length vs
unfolding snapshot
length_snapshot vs store = length-map vs (at store)

pub snapshot_agree : (vs : List ℕ) (store other : List ℤ) → Agree vs store other → snapshot vs store ≡ snapshot vs other
unfolding snapshot
snapshot_agree [] store other h = refl
snapshot_agree (v ∷ vs) store other h =
    ap₂ {C = List ℤ} (λ z zs. z ∷ zs) (h.on v (Memᴰ.head refl)) (snapshot_agree vs store other (agree_part (λ u m. Memᴰ.tail m) h))

-- the words of a snapshot are read back
pub read_back : (types : List Ty) (vs : List ℕ) (store rest : List ℤ) → Good types store
    → read_snapshot types vs (snapshot vs store ++ rest) ≡ accepted (record { values = snapshot vs store; rest = rest })
unfolding snapshot read_snapshot read_in read
read_back types [] store rest good = refl
read_back types (v ∷ vs) store rest good = rw (good v, read_back types vs store rest good) refl

-- a snapshot plus the difference to another store is that store's
pub move_on : (types : List Ty) (vs : List ℕ) (new old : List ℤ) → length new ≡ length old → Good types old → Good types new
    → moved_all types vs (snapshot vs old) (difference types new old) ≡ accepted (snapshot vs new)
unfolding snapshot moved_all moved
move_on types [] new old e go gn = refl
move_on types (v ∷ vs) new old e go gn =
    rw (at_difference types new old e v, plus_minus (type_of types v) (at old v) (at new v) (go v) (gn v), gn v, move_on types vs new old e go gn) refl

-- what the differences of two snapshots are
pub minus_snapshots : (types : List Ty) (vs : List ℕ) (new old : List ℤ) → length new ≡ length old
    → minus_all types vs (snapshot vs new) (snapshot vs old) ≡ snapshot vs (difference types new old)
unfolding snapshot minus_all
minus_snapshots types [] new old e = refl
minus_snapshots types (v ∷ vs) new old e =
    ap₂ {C = List ℤ} (λ z zs. z ∷ zs) (sym (at_difference types new old e v)) (minus_snapshots types vs new old e)

unchanged_on : (types : List Ty) (vs : List ℕ) (new old : List ℤ) → length new ≡ length old → Good types old → Good types new
    → unchanged vs (difference types new old) ≡ true → (v : ℕ) → v ∈ vs → at new v ≡ at old v
unfolding unchanged
unchanged_on types [] new old e go gn h v x = elim x [ ]
unchanged_on types (w ∷ vs) new old e go gn h v (Memᴰ.head q) =
    rw q (unmoved (type_of types w) (at old w) (at new w) (go w) (gn w)
    (sym (at_difference types new old e w) ∙ eq_z_true _ _ (and_left (eq_z (at (difference types new old) w) (pos 0)) _ h)))
unchanged_on types (w ∷ vs) new old e go gn h v (Memᴰ.tail m) =
    unchanged_on types vs new old e go gn (and_right (eq_z (at (difference types new old) w) (pos 0)) _ h) v m

-- where the skip rule's test passes, the stores agree
pub unchanged_agree : (types : List Ty) (vs : List ℕ) (new old : List ℤ) → length new ≡ length old → Good types old → Good types new
    → unchanged vs (difference types new old) ≡ true → Agree vs new old
unchanged_agree types vs new old e go gn h = record { long = e; on = unchanged_on types vs new old e go gn h }

-- ---- what is put back from a snapshot

set_agrees : (words whole : List ℤ) → length words ≡ length whole → (w v : ℕ)
    → (v ≡ w) ⊎ (at words v ≡ at whole v) → at (set words w (at whole w)) v ≡ at whole v
set_agrees [] [] e w v h = refl
set_agrees [] (z ∷ zs) e w v h = apart (length zs) (sym e)
set_agrees (y ∷ ys) [] e w v h = apart (length ys) e
set_agrees (y ∷ ys) (z ∷ zs) e zero zero h = refl
set_agrees (y ∷ ys) (z ∷ zs) e zero (suc v) (inl q) = apart v q
set_agrees (y ∷ ys) (z ∷ zs) e zero (suc v) (inr q) = q
set_agrees (y ∷ ys) (z ∷ zs) e (suc w) zero (inl q) = apart w (sym q)
set_agrees (y ∷ ys) (z ∷ zs) e (suc w) zero (inr q) = q
set_agrees (y ∷ ys) (z ∷ zs) e (suc w) (suc v) (inl q) = set_agrees ys zs (suc_injective e) w v (inl (suc_injective q))
set_agrees (y ∷ ys) (z ∷ zs) e (suc w) (suc v) (inr q) = set_agrees ys zs (suc_injective e) w v (inr q)

pub put_agrees : (vs : List ℕ) (words whole : List ℤ) → length words ≡ length whole → (v : ℕ)
    → (v ∈ vs) ⊎ (at words v ≡ at whole v) → at (put vs (snapshot vs whole) words) v ≡ at whole v
unfolding put snapshot
put_agrees [] words whole e v (inl x) = elim x [ ]
put_agrees [] words whole e v (inr q) = q
put_agrees (w ∷ vs) words whole e v (inl (Memᴰ.head q)) =
    put_agrees vs (set words w (at whole w)) whole (length-set words w (at whole w) ∙ e) v (inr (set_agrees words whole e w v (inl q)))
put_agrees (w ∷ vs) words whole e v (inl (Memᴰ.tail m)) =
    put_agrees vs (set words w (at whole w)) whole (length-set words w (at whole w) ∙ e) v (inl m)
put_agrees (w ∷ vs) words whole e v (inr q) =
    put_agrees vs (set words w (at whole w)) whole (length-set words w (at whole w) ∙ e) v (inr (set_agrees words whole e w v (inr q)))

pub length_put : (vs : List ℕ) (news words : List ℤ) → length (put vs news words) ≡ length words
unfolding put
length_put [] news words = refl
length_put (v ∷ vs) [] words = refl
length_put (v ∷ vs) (n ∷ ns) words = length_put vs ns (set words v n) ∙ length-set words v n

-- words that agree with a whole outside some variables become the whole, once those are put
pub put_whole : (vs : List ℕ) (words whole : List ℤ) → length words ≡ length whole
    → ((v : ℕ) → (v ∈ vs → ⊥) → at words v ≡ at whole v) → put vs (snapshot vs whole) words ≡ whole
put_whole vs words whole e outside =
    ext_get_or (pos 0) _ _ (length_put vs (snapshot vs whole) words ∙ e) (λ v below. put_agrees vs words whole e v (known v (is_member v vs)))
  where
    known : (v : ℕ) → (v ∈ vs) ⊎ (v ∈ vs → ⊥) → (v ∈ vs) ⊎ (at words v ≡ at whole v)
    known v (inl m) = inl m
    known v (inr n) = inr (outside v n)
