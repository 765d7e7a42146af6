-- The whole patch follows the whole run: from the record of an accepted run, with a legal list of changes, a patch comes to the end
-- that a run on the changed inputs comes to. The header is read back, the list is the difference of the two stores, and the rest
-- is the entry theorem.
-- Assumes nothing.
use Rattle.std.specs.Prelude.{◌≡◌, ◌⊎◌, ◌&&◌, List, [], ◌∷◌, ◌++◌, take, drop, replicate, leb, ℤ, pos, negsuc, nat_abs}
use Rattle.std.proofs.Math.Path.{refl}
use Rattle.std.proofs.Common.{sym, ap, ap₂, ◌∙◌, subst, arith, inl, inr, append_assoc, length-append, ext_get_or, take_at, drop_at, length-take-le}
use Prim.Native.Nat.{ℕ, zero, suc, ◌+◌, ◌-◌, ◌*◌, ◌≤◌}
use Rattle.std.proofs.Math.Bool.{true}
use Rattle.std.proofs.lemmas.Bool.{false≢true}
use Rattle.std.proofs.Math.ListN.{length}
use Rattle.std.proofs.lemmas.List.{length-replicate}
use Rattle.std.specs.Int.Signed.{le_z}
use borrow.Author.Tests.{le-leb, leb-true}
use Rattle.numbers.specs.Signed.{between}
use Rattle.numbers.specs.Laws.{and_left, and_right, and_both, sub_back}
use Rattle.rules.specs.Outcome.{accepted, broken}
use Rattle.rules.specs.Value.{Ty, most_variables, zeros, in_type, differ, plus, minus, type_of, at, padded, fit, plus_all}
use Rattle.rules.specs.Run.{headed, most_steps, record_of}
use Rattle.rules.specs.Call.{length_of, limit_of, steps_in, inputs_of, outputs_of, Header, header, is_change, legal}
use Rattle.rules.proofs.Laws.Outcome.{Holds, value, holds_need}
use Rattle.rules.proofs.Laws.Value.{truth_cases, zero_in, plus_minus, minus_self}
use Rattle.rules.proofs.Laws.Store.{Good, difference, at_difference, length_difference}
use Rattle.rules.proofs.Laws.Entry.{Fine}

-- ---- one word for each variable

pub fit_long : (types : List Ty) (words : List ℤ) → fit types words ≡ true → length words ≡ length types
unfolding fit
fit_long [] [] h = refl
fit_long [] (z ∷ zs) h = absurd (false≢true h)
fit_long (t ∷ ts) [] h = absurd (false≢true h)
fit_long (t ∷ ts) (z ∷ zs) h = ap suc (fit_long ts zs (and_right (in_type t z) _ h))

pub fit_good : (types : List Ty) (words : List ℤ) → fit types words ≡ true → Good types words
unfolding fit
fit_good [] [] h v = zero_in Ty.number
fit_good [] (z ∷ zs) h v = absurd (false≢true h)
fit_good (t ∷ ts) [] h v = absurd (false≢true h)
fit_good (t ∷ ts) (z ∷ zs) h zero = and_left (in_type t z) _ h
fit_good (t ∷ ts) (z ∷ zs) h (suc v) = fit_good ts zs (and_right (in_type t z) _ h) v

pub good_fit : (types : List Ty) (store : List ℤ) → Good types store → length types ≤ length store → fit types (take (length types) store) ≡ true
unfolding fit
good_fit [] store good le = refl
good_fit (t ∷ ts) [] good le = absurd (omega arith)
good_fit (t ∷ ts) (z ∷ zs) good le = and_both (good zero) (good_fit ts zs (λ v. good (suc v)) (omega arith))

at_behind : (n v : ℕ) → at (replicate n (pos 0)) v ≡ pos 0
at_behind zero v = refl
at_behind (suc n) zero = refl
at_behind (suc n) (suc v) = at_behind n v

at_zeros : (words : List ℤ) (n v : ℕ) → at (words ++ replicate n (pos 0)) v ≡ at words v
at_zeros [] n v = at_behind n v
at_zeros (z ∷ zs) n zero = refl
at_zeros (z ∷ zs) n (suc v) = at_zeros zs n v

pub at_padded : (words : List ℤ) (v : ℕ) → at (padded words) v ≡ at words v
unfolding padded zeros
at_padded words v = at_zeros words (most_variables - length words) v

pub length_padded : (words : List ℤ) → length words ≤ most_variables → length (padded words) ≡ most_variables
unfolding padded zeros
length_padded words h =
    length-append words (replicate (most_variables - length words) (pos 0))
    ∙ ap (λ (n : ℕ). length words + n) (length-replicate (most_variables - length words) (pos 0)) ∙ omega arith

pub padded_fine : (types : List Ty) (words : List ℤ) → length types ≤ most_variables → fit types words ≡ true → Fine types (padded words)
padded_fine types words few h = record {
  long = length_padded words (subst (λ n. n ≤ most_variables) (sym (fit_long types words h)) few);
  good = λ v. rw (at_padded words v) (fit_good types words h v);
}

-- ---- a legal list is the difference of the two inputs

flip_undone : (z c : ℤ) → (z ≡ pos 0) ⊎ (z ≡ pos 1) → (c ≡ pos 0) ⊎ (c ≡ pos 1) → differ (differ z c) z ≡ c
unfolding differ
flip_undone z c (inl p) (inl q) = rw (p, q)
flip_undone z c (inl p) (inr q) = rw (p, q)
flip_undone z c (inr p) (inl q) = rw (p, q)
flip_undone z c (inr p) (inr q) = rw (p, q)

-- (old + change) - old = change
minus_plus : (t : Ty) (z c : ℤ) → in_type t z ≡ true → is_change t c ≡ true → minus t (plus t z c) z ≡ c
unfolding minus plus is_change
minus_plus Ty.number z c hz hc = sub_back z c
minus_plus Ty.truth z c hz hc = flip_undone z c (truth_cases z hz) (truth_cases c hc)

-- what a legal list says of the first variable, and of the others
module _ (t : Ty) (ts : List Ty) (z : ℤ) (zs : List ℤ) (c : ℤ) (cs : List ℤ) (h : legal (t ∷ ts) (z ∷ zs) (c ∷ cs) ≡ true) where
  legal_head : (is_change t c ≡ true) × (in_type t (plus t z c) ≡ true)
  unfolding legal
  legal_head =
      let first : (is_change t c && in_type t (plus t z c)) ≡ true = and_left (is_change t c && in_type t (plus t z c)) (legal ts zs cs) h in
      (and_left (is_change t c) (in_type t (plus t z c)) first, and_right (is_change t c) (in_type t (plus t z c)) first)

  legal_tail : legal ts zs cs ≡ true
  unfolding legal
  legal_tail = and_right (is_change t c && in_type t (plus t z c)) (legal ts zs cs) h

-- the new inputs are inputs
pub legal_fit : (types : List Ty) (inputs changes : List ℤ) → legal types inputs changes ≡ true → fit types (plus_all types inputs changes) ≡ true
unfolding fit plus_all legal
legal_fit [] inputs changes h = refl
legal_fit (t ∷ ts) [] changes h = absurd (false≢true h)
legal_fit (t ∷ ts) (z ∷ zs) [] h = absurd (false≢true h)
legal_fit (t ∷ ts) (z ∷ zs) (c ∷ cs) h = and_both (legal_head t ts z zs c cs h).1 (legal_fit ts zs cs (legal_tail t ts z zs c cs h))

pub legal_long : (types : List Ty) (inputs changes : List ℤ) → legal types inputs changes ≡ true → length changes ≡ length types
unfolding legal
legal_long [] inputs [] h = refl
legal_long [] inputs (c ∷ cs) h = absurd (false≢true h)
legal_long (t ∷ ts) [] changes h = absurd (false≢true h)
legal_long (t ∷ ts) (z ∷ zs) [] h = absurd (false≢true h)
legal_long (t ∷ ts) (z ∷ zs) (c ∷ cs) h = ap suc (legal_long ts zs cs (legal_tail t ts z zs c cs h))

legal_at : (types : List Ty) (inputs changes : List ℤ) → legal types inputs changes ≡ true → fit types inputs ≡ true
    → (v : ℕ) → minus (type_of types v) (at (plus_all types inputs changes) v) (at inputs v) ≡ at changes v
unfolding plus_all legal fit
legal_at [] [] [] h k v = minus_self Ty.number (pos 0)
legal_at [] [] (c ∷ cs) h k v = absurd (false≢true h)
legal_at [] (z ∷ zs) changes h k v = absurd (false≢true k)
legal_at (t ∷ ts) [] changes h k v = absurd (false≢true h)
legal_at (t ∷ ts) (z ∷ zs) [] h k v = absurd (false≢true h)
legal_at (t ∷ ts) (z ∷ zs) (c ∷ cs) h k zero = minus_plus t z c (and_left (in_type t z) _ k) (legal_head t ts z zs c cs h).0
legal_at (t ∷ ts) (z ∷ zs) (c ∷ cs) h k (suc v) = legal_at ts zs cs (legal_tail t ts z zs c cs h) (and_right (in_type t z) _ k) v

-- a legal list of changes is the difference of the stores that the two inputs make
pub legal_difference : (types : List Ty) (inputs changes : List ℤ) → length types ≤ most_variables
    → legal types inputs changes ≡ true → fit types inputs ≡ true
    → padded changes ≡ difference types (padded (plus_all types inputs changes)) (padded inputs)
legal_difference types inputs changes few h k =
    let new : List ℤ = plus_all types inputs changes in
    let long : length (padded new) ≡ most_variables = (padded_fine types new few (legal_fit types inputs changes h)).long in
    let long₀ : length (padded inputs) ≡ most_variables = (padded_fine types inputs few k).long in
    let same : length (padded new) ≡ length (padded inputs) = long ∙ sym long₀ in
    ext_get_or (pos 0) _ _
    (length_padded changes (subst (λ n. n ≤ most_variables) (sym (legal_long types inputs changes h)) few) ∙ sym long ∙ sym (length_difference types (padded new) (padded inputs) same))
    (λ v below. at_padded changes v ∙ sym (legal_at types inputs changes h k v)
    ∙ ap₂ {C = ℤ} (minus (type_of types v)) (sym (at_padded new v)) (sym (at_padded inputs v)) ∙ sym (at_difference types (padded new) (padded inputs) same v))

-- ---- outputs

-- old outputs plus the difference are the new outputs
pub outputs_moved : (types : List Ty) (old new : List ℤ) → length new ≡ length old → length types ≤ length old → Good types old → Good types new
    → plus_all types (take (length types) old) (difference types new old) ≡ take (length types) new
unfolding plus_all difference
outputs_moved [] old new e le go gn = refl
outputs_moved (t ∷ ts) [] new e le go gn = absurd (omega arith)
outputs_moved (t ∷ ts) (o ∷ os) [] e le go gn = absurd (omega arith)
outputs_moved (t ∷ ts) (o ∷ os) (n ∷ ns) e le go gn =
    ap₂ {C = List ℤ} (λ z zs. z ∷ zs) (plus_minus t o n (go zero) (gn zero))
    (outputs_moved ts os ns (omega arith) (omega arith) (λ v. go (suc v)) (λ v. gn (suc v)))

plus_front : (types : List Ty) (outs changes behind : List ℤ) → length types ≤ length changes
    → plus_all types outs (take (length types) changes ++ behind) ≡ plus_all types outs changes
unfolding plus_all
plus_front [] outs changes behind le = refl
plus_front (t ∷ ts) [] changes behind le = refl
plus_front (t ∷ ts) (o ∷ os) [] behind le = absurd (omega arith)
plus_front (t ∷ ts) (o ∷ os) (c ∷ cs) behind le = ap {B = List ℤ} (λ zs. plus t o c ∷ zs) (plus_front ts os cs behind (omega arith))

-- the reported changes are those of the table's variables
pub plus_padded : (types : List Ty) (outs changes : List ℤ) → length types ≤ length changes
    → plus_all types outs (padded (take (length types) changes)) ≡ plus_all types outs changes
unfolding padded
plus_padded types outs changes le = plus_front types outs changes (zeros (most_variables - length (take (length types) changes))) le

-- and so are the reported values
pub take_padded : (n : ℕ) (words : List ℤ) → n ≤ length words → take n (padded (take n words)) ≡ take n words
unfolding padded
take_padded n words le = take_at (take n words) (zeros (most_variables - length (take n words))) n (length-take-le n words le)

-- ---- the header of a record is read back

three_more : (n : ℕ) → 3 + n ≡ suc (suc (suc n))
three_more n = omega arith

slice_long : (n w b : ℕ) → leb (3 + 2 * n) (suc (suc (suc (2 * n + w + b)))) ≡ true
slice_long n w b = le-leb (3 + 2 * n) (suc (suc (suc (2 * n + w + b)))) (omega arith)

length_least : (n w : ℕ) → leb (3 + 2 * n) (3 + (2 * n + w)) ≡ true
length_least n w = le-leb (3 + 2 * n) (3 + (2 * n + w)) (omega arith)

length_inside : (n w b : ℕ) → leb (3 + (2 * n + w)) (suc (suc (suc (2 * n + w + b)))) ≡ true
length_inside n w b = le-leb (3 + (2 * n + w)) (suc (suc (suc (2 * n + w + b)))) (omega arith)

length_root : (n w : ℕ) → 3 + (2 * n + w) - (3 + 2 * n) ≡ w
length_root n w = omega arith

module _ (types : List Ty) (inputs outputs words behind : List ℤ) (fits : fit types inputs ≡ true) (fits' : fit types outputs ≡ true) where
  -- the record's words behind its three first, and what stands behind it
  abbrev tail : List ℤ
  tail = (inputs ++ (outputs ++ words)) ++ behind

  tail_inputs : take (length types) tail ≡ inputs
  tail_inputs = rw append_assoc (take_at inputs ((outputs ++ words) ++ behind) (length types) (fit_long types inputs fits))

  tail_outputs : take (length types) (drop (length types) tail) ≡ outputs
  tail_outputs =
      rw (
        append_assoc inputs (outputs ++ words) behind,
        drop_at inputs ((outputs ++ words) ++ behind) (length types) (fit_long types inputs fits),
        append_assoc outputs words behind,
      ) (take_at outputs (words ++ behind) (length types) (fit_long types outputs fits'))

  both_long : length (inputs ++ outputs) ≡ 2 * length types
  both_long = length-append inputs outputs ∙ ap₂ {C = ℕ} (λ a b. a + b) (fit_long types inputs fits) (fit_long types outputs fits') ∙ omega arith

  tail_root : take (length words) (drop (2 * length types) tail) ≡ words
  tail_root =
      ap (λ (ws : List ℤ). take (length words) (drop (2 * length types) (ws ++ behind))) (sym (append_assoc inputs outputs words))
      ∙ ap (λ (ws : List ℤ). take (length words) (drop (2 * length types) ws)) (append_assoc (inputs ++ outputs) words behind)
      ∙ ap (take (length words)) (drop_at (inputs ++ outputs) (words ++ behind) (2 * length types) both_long)
      ∙ take_at words behind (length words) refl

  body_long : length (inputs ++ (outputs ++ words)) ≡ 2 * length types + length words
  body_long =
      ap length (sym (append_assoc inputs outputs words)) ∙ length-append (inputs ++ outputs) words ∙ ap (λ (n : ℕ). n + length words) both_long

  tail_long : length tail ≡ 2 * length types + length words + length behind
  tail_long = length-append (inputs ++ (outputs ++ words)) behind ∙ ap (λ (n : ℕ). n + length behind) body_long

  pub header_back : (limit steps : ℕ) → 1 ≤ limit → limit ≤ 1_000_000 → 1 ≤ steps → steps ≤ limit
      → header types (record_of limit steps inputs outputs words ++ behind)
      ≡ accepted (record { limit = limit; inputs = inputs; outputs = outputs; root = words })
  unfolding header length_of limit_of steps_in inputs_of outputs_of record_of most_steps between
  header_back limit steps l₁ l₂ s₁ s₂ =
      let n : ℕ = length types in
      let w : ℕ = length words in
      rw (
        tail_long,
        body_long,
        slice_long n w (length behind),
        length_least n w,
        length_inside n w (length behind),
        le-leb 1 limit l₁,
        le-leb limit 1_000_000 l₂,
        le-leb 1 steps s₁,
        le-leb steps limit s₂,
        length_root n w,
        tail_inputs,
        fits,
        three_more n,
        tail_outputs,
        fits',
        three_more (2 * n),
        tail_root,
      ) refl

-- a limit that is one
pub in_limits_lem : (limit : ℤ) → between (pos 1) most_steps limit ≡ true → (limit ≡ pos (nat_abs limit)) × (1 ≤ nat_abs limit) × (nat_abs limit ≤ 1_000_000)
unfolding between most_steps
in_limits_lem (pos n) h = (refl, leb-true 1 n (and_left (leb 1 n) (leb n 1_000_000) h), leb-true n 1_000_000 (and_right (leb 1 n) (leb n 1_000_000) h))
in_limits_lem (negsuc n) h = absurd (false≢true h)

-- what is read of a header is what it names
pub record Names (types : List Ty) (old : List ℤ) (h : Header) : Type 0 where
  pub limit : limit_of old ≡ pos h.limit
  pub inputs : inputs_of types old ≡ h.inputs
  pub outputs : outputs_of types old ≡ h.outputs

pub header_names : (types : List Ty) (old : List ℤ) → Holds (Names types old) (header types old)
unfolding header
header_names types old =
    holds_need (leb (headed + 2 * length types) (length old)) broken _ λ e₁.
    holds_need (le_z (pos (headed + 2 * length types)) (length_of old)) broken _ λ e₂.
    holds_need (le_z (length_of old) (pos (length old))) broken _ λ e₃.
    holds_need (between (pos 1) most_steps (limit_of old)) broken _ λ e₄.
    holds_need (between (pos 1) (limit_of old) (steps_in old)) broken _ λ e₅.
    holds_need (fit types (inputs_of types old)) broken _ λ e₆.
    holds_need (fit types (outputs_of types old)) broken _ λ e₇.
    value (record { limit = (in_limits_lem (limit_of old) e₄).0; inputs = refl; outputs = refl })
