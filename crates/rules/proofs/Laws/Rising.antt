-- Lists of variables that rise, each once, as flags: `rising` lists the numbers of the flags that are set. To insert a variable
-- is to set its flag, and to unite is to set the flags of one list among those of the other.
-- Assumes nothing.
use Rattle.std.specs.Prelude.{◌≡◌, refl, Bool, true, false, List, [], ◌∷◌, ◌++◌, length, get_or, take, drop, set, replicate}
use Rattle.std.proofs.Common.{sym, ap, ap₂, ◌∙◌, subst, arith, add-zero, zero-add, add-one, append-nil, take-append-drop, length-append, length-set, take-suc, length-take-le, le-leb, eq-eqb, ne_eqb}
use Prim.Native.Nat.{ℕ, zero, suc, ◌+◌, ◌≤◌, ◌<◌, compare, Ordering}
use Rattle.std.proofs.Math.Decide.{ℕ_discrete}
use Rattle.std.proofs.lemmas.Bool.{false≢true, lt-leb}
use Rattle.std.proofs.lemmas.List.{length-replicate, set_comm}
use Rattle.std.proofs.Math.Seq.{get_or-append_seam}
use Rattle.std.proofs.Math.Dec.{is_le, compare_is_eq}
use Rattle.rules.specs.Tree.{insert, union}

-- ---- flags

-- the numbers of the flags that are set, where the first flag is that of k
unfoldable pub rising : ℕ → List Bool → List ℕ
rising k [] = []
rising k (true ∷ fs) = k ∷ rising (suc k) fs
rising k (false ∷ fs) = rising (suc k) fs

-- the flags, with those of vs set one after the other
unfoldable pub flagged : List Bool → List ℕ → List Bool
flagged fs [] = fs
flagged fs (v ∷ vs) = flagged (set fs v true) vs

-- each of vs is below n
abbrev pub Below : ℕ → List ℕ → Type 0
Below n vs = (i : ℕ) → i < length vs → get_or vs i 0 < n

pub below_none : (n : ℕ) → Below n []
below_none n i h = absurd (omega arith)

pub below_more : (n v : ℕ) (vs : List ℕ) → v < n → Below n vs → Below n (v ∷ vs)
below_more n v vs h hs zero q = h
below_more n v vs h hs (suc i) q = hs i (omega arith)

pub below_head : (n v : ℕ) (vs : List ℕ) → Below n (v ∷ vs) → v < n
below_head n v vs h = h 0 (omega arith)

pub below_tail : (n v : ℕ) (vs : List ℕ) → Below n (v ∷ vs) → Below n vs
below_tail n v vs h i q = h (suc i) (omega arith)

-- ---- how two numbers compare

less : (o : Ordering) → is_le o ≡ true → compare_is_eq o ≡ false → o ≡ Ordering.lt
less Ordering.lt p q = refl
less Ordering.eq p q = absurd (false≢true (sym q))
less Ordering.gt p q = absurd (false≢true p)

more : (o : Ordering) → is_le o ≡ false → o ≡ Ordering.gt
more Ordering.lt p = absurd (false≢true (sym p))
more Ordering.eq p = absurd (false≢true (sym p))
more Ordering.gt p = refl

same : (o : Ordering) → compare_is_eq o ≡ true → o ≡ Ordering.eq
same Ordering.lt p = absurd (false≢true p)
same Ordering.eq p = refl
same Ordering.gt p = absurd (false≢true p)

compare_less : (v w : ℕ) → v < w → compare v w ≡ Ordering.lt
compare_less v w h = less (compare v w) (le-leb v w (omega arith)) (ne_eqb v w (λ e. omega arith))

compare_more : (v w : ℕ) → w < v → compare v w ≡ Ordering.gt
compare_more v w h = more (compare v w) (lt-leb v w h)

compare_same : (v : ℕ) → compare v v ≡ Ordering.eq
compare_same v = same (compare v v) (eq-eqb v v refl)

-- ---- insert

-- below them all it comes first
insert_first : (v k : ℕ) (fs : List Bool) → v < k → insert v (rising k fs) ≡ v ∷ rising k fs
unfolding insert rising
insert_first v k [] h = refl
insert_first v k (true ∷ fs) h = rw (compare_less v k h)
insert_first v k (false ∷ fs) h = insert_first v (suc k) fs (omega arith)

insert_from : (v k : ℕ) (fs : List Bool) → v < length fs → insert (k + v) (rising k fs) ≡ rising k (set fs v true)
unfolding insert rising
insert_from v k [] h = absurd (omega arith)
insert_from zero k (true ∷ fs) h = rw (add-zero k, compare_same k)
insert_from zero k (false ∷ fs) h = rw (add-zero k) (insert_first k (suc k) fs (omega arith))
insert_from (suc v) k (true ∷ fs) h =
    let e : k + suc v ≡ suc k + v = omega arith in
    rw (compare_more (k + suc v) k (omega arith))
    (ap (λ (ws : List ℕ). k ∷ ws) (ap (λ (u : ℕ). insert u (rising (suc k) fs)) e ∙ insert_from v (suc k) fs (omega arith)))
insert_from (suc v) k (false ∷ fs) h =
    let e : k + suc v ≡ suc k + v = omega arith in
    ap (λ (u : ℕ). insert u (rising (suc k) fs)) e ∙ insert_from v (suc k) fs (omega arith)

pub insert_rising : (v : ℕ) (fs : List Bool) → v < length fs → insert v (rising 0 fs) ≡ rising 0 (set fs v true)
insert_rising v fs h = ap (λ (u : ℕ). insert u (rising 0 fs)) (sym (zero-add v)) ∙ insert_from v 0 fs h

-- ---- union

pub length_flagged : (fs : List Bool) (vs : List ℕ) → length (flagged fs vs) ≡ length fs
unfolding flagged
length_flagged fs [] = refl
length_flagged fs (v ∷ vs) = length_flagged (set fs v true) vs ∙ length-set fs v true

set_either : (fs : List Bool) (v w : ℕ) → Dec (v ≡ w) → set (set fs v true) w true ≡ set (set fs w true) v true
set_either fs v w (yes e) = rw e
set_either fs v w (no f) = set_comm fs v w true true f

-- the flag that is set first may as well be set last
flagged_late : (fs : List Bool) (v : ℕ) (vs : List ℕ) → flagged (set fs v true) vs ≡ set (flagged fs vs) v true
unfolding flagged
flagged_late fs v [] = refl
flagged_late fs v (w ∷ vs) = ap (λ (gs : List Bool). flagged gs vs) (set_either fs v w (ℕ_discrete v w)) ∙ flagged_late (set fs w true) v vs

pub flagged_more : (fs : List Bool) (vs : List ℕ) (v : ℕ) → flagged fs (vs ++ v ∷ []) ≡ set (flagged fs vs) v true
unfolding flagged
flagged_more fs [] v = refl
flagged_more fs (w ∷ vs) v = flagged_more (set fs w true) vs v

pub rising_flagged : (fs : List Bool) (vs : List ℕ) → Below (length fs) vs → rising 0 (flagged fs vs) ≡ union vs (rising 0 fs)
unfolding union flagged
rising_flagged fs [] h = refl
rising_flagged fs (v ∷ vs) h =
    let inside : v < length (flagged fs vs) = subst (λ n. v < n) (sym (length_flagged fs vs)) (below_head (length fs) v vs h) in
    ap (rising 0) (flagged_late fs v vs) ∙ sym (insert_rising v (flagged fs vs) inside)
    ∙ ap (insert v) (rising_flagged fs vs (below_tail (length fs) v vs h))

-- ---- what a rising list is like

pub rising_none : (k n : ℕ) → rising k (replicate n false) ≡ []
unfolding rising
rising_none k zero = refl
rising_none k (suc n) = rising_none (suc k) n

rising_below : (k : ℕ) (fs : List Bool) → Below (k + length fs) (rising k fs)
unfolding rising
rising_below k [] i h = absurd (omega arith)
rising_below k (true ∷ fs) zero h = omega arith
rising_below k (true ∷ fs) (suc i) h = omega (arith, rising_below (suc k) fs i (omega arith))
rising_below k (false ∷ fs) i h = omega (arith, rising_below (suc k) fs i h)

pub rising_short : (k : ℕ) (fs : List Bool) → length (rising k fs) ≤ length fs
unfolding rising
rising_short k [] = omega arith
rising_short k (true ∷ fs) = omega (arith, rising_short (suc k) fs)
rising_short k (false ∷ fs) = omega (arith, rising_short (suc k) fs)

-- v alone, if its flag is set
abbrev pub alone : Bool → ℕ → List ℕ
alone true v = v ∷ []
alone false v = []

rising_append : (k : ℕ) (fs gs : List Bool) → rising k (fs ++ gs) ≡ rising k fs ++ rising (k + length fs) gs
unfolding rising
rising_append k [] gs = ap (λ (u : ℕ). rising u gs) (sym (add-zero k))
rising_append k (true ∷ fs) gs = ap (λ (ws : List ℕ). k ∷ ws) (rising_append (suc k) fs gs ∙ ap (λ (u : ℕ). rising (suc k) fs ++ rising u gs) (omega arith))
rising_append k (false ∷ fs) gs = rising_append (suc k) fs gs ∙ ap (λ (u : ℕ). rising (suc k) fs ++ rising u gs) (omega arith)

rising_alone : (k : ℕ) (f : Bool) → rising k (f ∷ []) ≡ alone f k
unfolding rising
rising_alone k true = refl
rising_alone k false = refl

-- the flags up to the next number
pub rising_take : (fs : List Bool) (v : ℕ) → v < length fs → rising 0 (take (v + 1) fs) ≡ rising 0 (take v fs) ++ alone (get_or fs v false) v
rising_take fs v h =
    ap (rising 0) (ap (λ (n : ℕ). take n fs) (add-one v) ∙ take-suc fs v false h) ∙ rising_append 0 (take v fs) (get_or fs v false ∷ [])
    ∙ ap (λ (ws : List ℕ). rising 0 (take v fs) ++ ws)
    (rising_alone (0 + length (take v fs)) (get_or fs v false) ∙ ap (alone (get_or fs v false)) (zero-add (length (take v fs)) ∙ length-take-le v fs (omega arith)))

rising_above : (k : ℕ) (fs : List Bool) (i : ℕ) → i < length (rising k fs) → k ≤ get_or (rising k fs) i 0
unfolding rising
rising_above k [] i h = absurd (omega arith)
rising_above k (true ∷ fs) zero h = omega arith
rising_above k (true ∷ fs) (suc i) h = omega (arith, rising_above (suc k) fs i (omega arith))
rising_above k (false ∷ fs) i h = omega (arith, rising_above (suc k) fs i h)

-- nothing from n on follows a list below n
none_above : (n : ℕ) (ws vs : List ℕ) → Below n (ws ++ vs) → ((i : ℕ) → i < length vs → n ≤ get_or vs i 0) → vs ≡ []
none_above n ws [] low high = refl
none_above n ws (v ∷ vs) low high =
    absurd (omega (arith, high 0 (omega arith), rw (get_or-append_seam ws v vs 0) at (low (length ws) (rw (length-append ws (v ∷ vs)) (omega arith)))))

-- where all that are set are below n, the first n flags are enough
pub rising_first : (n : ℕ) (fs : List Bool) → n ≤ length fs → Below n (rising 0 fs) → rising 0 (take n fs) ≡ rising 0 fs
rising_first n fs h low =
    let start : 0 + length (take n fs) ≡ n = zero-add (length (take n fs)) ∙ length-take-le n fs h in
    let split : rising 0 fs ≡ rising 0 (take n fs) ++ rising n (drop n fs) =
    ap (rising 0) (sym (take-append-drop n fs)) ∙ rising_append 0 (take n fs) (drop n fs)
    ∙ ap (λ (u : ℕ). rising 0 (take n fs) ++ rising u (drop n fs)) start in
    let rest = none_above n (rising 0 (take n fs)) (rising n (drop n fs)) (rw split at low) (rising_above n (drop n fs)) in
    sym (split ∙ ap (λ (ws : List ℕ). rising 0 (take n fs) ++ ws) rest ∙ append-nil (rising 0 (take n fs)))

union_none : (k : ℕ) (fs : List Bool) → union (rising k fs) [] ≡ rising k fs
unfolding union rising
union_none k [] = refl
union_none k (true ∷ fs) = ap (insert k) (union_none (suc k) fs) ∙ insert_first k (suc k) fs (omega arith)
union_none k (false ∷ fs) = union_none (suc k) fs

-- ---- several lists

-- the lists of all of some parts, united
unfoldable pub together : (ℕ → List ℕ) → List ℕ → List ℕ
together vars [] = []
together vars (c ∷ cs) = union (vars c) (together vars cs)

-- the flags, with those of all their lists set, from the last part to the first
unfoldable pub flagged_by : (ℕ → List ℕ) → List ℕ → List Bool → List Bool
flagged_by vars [] fs = fs
flagged_by vars (c ∷ cs) fs = flagged (flagged_by vars cs fs) (vars c)

pub length_flagged_by : (vars : ℕ → List ℕ) (cs : List ℕ) (fs : List Bool) → length (flagged_by vars cs fs) ≡ length fs
unfolding flagged_by
length_flagged_by vars [] fs = refl
length_flagged_by vars (c ∷ cs) fs = length_flagged (flagged_by vars cs fs) (vars c) ∙ length_flagged_by vars cs fs

-- flags set by the lists `vars`, which are the lists `meant` of these parts
pub rising_together : (n : ℕ) (vars meant : ℕ → List ℕ) (cs : List ℕ) → ((c : ℕ) → Below n (meant c))
    → ((j : ℕ) → j < length cs → vars (get_or cs j 0) ≡ meant (get_or cs j 0)) → rising 0 (flagged_by vars cs (replicate n false)) ≡ together meant cs
unfolding flagged_by together
rising_together n vars meant [] low agree = rising_none 0 n
rising_together n vars meant (c ∷ cs) low agree =
    let first : vars c ≡ meant c = agree 0 (omega arith) in
    let long : length (flagged_by vars cs (replicate n false)) ≡ n = length_flagged_by vars cs (replicate n false) ∙ length-replicate n false in
    rising_flagged (flagged_by vars cs (replicate n false)) (vars c) (rw (long, first) (low c))
    ∙ ap₂ union first (rising_together n vars meant cs low (λ j h. agree (suc j) (omega arith)))

-- ---- lists of variables below n that rise

pub record Rises (n : ℕ) (vs : List ℕ) : Type 0 where
  pub flags : List Bool
  pub long : length flags ≡ n
  pub listed : vs ≡ rising 0 flags

module _ (n : ℕ) where
  pub rises_none : Rises n []
  rises_none = record { flags = replicate n false; long = length-replicate n false; listed = sym (rising_none 0 n) }

  pub rises_insert : (v : ℕ) (vs : List ℕ) → v < n → Rises n vs → Rises n (insert v vs)
  rises_insert v vs h r = record {
    flags = set r.flags v true;
    long = length-set r.flags v true ∙ r.long;
    listed = ap (insert v) r.listed ∙ insert_rising v r.flags (rw r.long h);
  }

  pub rises_below : (vs : List ℕ) → Rises n vs → Below n vs
  rises_below vs r i h =
      rw r.listed (subst (λ m. get_or (rising 0 r.flags) i 0 < m) (zero-add (length r.flags) ∙ r.long) (rising_below 0 r.flags i (rw r.listed at h)))

  pub rises_union : (vs ws : List ℕ) → Rises n vs → Rises n ws → Rises n (union vs ws)
  rises_union vs ws r s = record {
    flags = flagged s.flags vs;
    long = length_flagged s.flags vs ∙ s.long;
    listed = ap (union vs) s.listed ∙ sym (rising_flagged s.flags vs (rw s.long (rises_below vs r)));
  }

  -- at most n of them
  pub rises_short : (vs : List ℕ) → Rises n vs → length vs ≤ n
  rises_short vs r = rw r.listed (rw r.long at (rising_short 0 r.flags))

  pub rises_alone : (vs : List ℕ) → Rises n vs → union vs [] ≡ vs
  rises_alone vs r = rw r.listed (union_none 0 r.flags)
