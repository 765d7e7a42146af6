-- The walk through an if follows the run of the if: the condition kept, the branch is visited; the condition flipped, the other
-- branch runs fresh from a store that agrees with the new one on all that the if mentions.
-- The branch is spoken of as a run and a visit, so that the laws serve either one.
-- Assumes nothing.
use Rattle.std.specs.Prelude.{◌≡◌, ◌⊎◌, ℕ, Bool, false, not, length, ℤ, pos}
use Rattle.std.proofs.Math.Path.{refl, sym, ap, ap₂}
use Rattle.std.proofs.Common.{◌∙◌, inl, inr, arith, true≢false}
use Rattle.std.proofs.Math.Bool.{true}
use mathlib.Core.List.{List, []}
use Rattle.std.proofs.lemmas.List.{length-replicate}
use Rattle.numbers.specs.Signed.{eq_z}
use Rattle.numbers.specs.Laws.{eq_z_true}
use Rattle.rules.specs.Outcome.{Outcome, accepted, ◌>>=◌, choose}
use Rattle.rules.specs.Value.{Ty, most_variables, zeros, in_type, differ, plus, minus, type_of, snapshot, put, minus_all}
use Rattle.rules.specs.Run.{Done, holds, if_words}
use Rattle.rules.specs.Patch.{steps_of, all_fresh, Walked, Visited, Fork, kept, flipped}
use Rattle.rules.proofs.Laws.Outcome.{Alike, values, alike_bind, alike_with}
use Rattle.rules.proofs.Laws.Value.{truth_cases, plus_minus, unmoved}
use Rattle.rules.proofs.Laws.Store.{Agree, difference, at_difference, length_difference, snapshot_agree, minus_snapshots, move_on, put_agrees, put_whole, length_put}
use Rattle.rules.proofs.Laws.Typed.{Kept, Keeps, keeps_choose}
use Rattle.rules.proofs.Laws.Run.{Same, Goes, goes_choose}
use Rattle.rules.proofs.Laws.Entry.{Fine, Step, Part}

-- ---- what a fresh part starts from, and the changes behind it

-- the new values of the mentioned variables, put into a store of zeros, agree with the new store
pub restored : (types : List Ty) (vs : List ℕ) (new : List ℤ) → Fine types new → Agree vs new (put vs (snapshot vs new) (zeros most_variables))
unfolding zeros
restored types vs new fine = record {
  long = fine.long ∙ sym long;
  on = λ v m. sym (put_agrees vs (zeros most_variables) new (length-replicate most_variables (pos 0) ∙ sym fine.long) v (inl m));
}
  where
    long : length (put vs (snapshot vs new) (zeros most_variables)) ≡ most_variables
    long = length_put vs (snapshot vs new) (zeros most_variables) ∙ length-replicate most_variables (pos 0)

-- "each mentioned variable's change is its new value minus its old one; others pass": the difference of the two ends
pub fresh_changes : (types : List Ty) (vs : List ℕ) {new old new' old' end : List ℤ} → length new ≡ length old
    → Kept types vs new new' → Kept types vs old old' → Agree vs new' end
    → put vs (minus_all types vs (snapshot vs end) (snapshot vs old')) (difference types new old) ≡ difference types new' old'
fresh_changes types vs {new} {old} {new'} {old'} {end} e k l agree =
    ap (λ (zs : List ℤ). put vs (minus_all types vs zs (snapshot vs old')) (difference types new old)) (sym (snapshot_agree vs new' end agree))
    ∙ ap (λ (zs : List ℤ). put vs zs (difference types new old)) (minus_snapshots types vs new' old' long)
    ∙ put_whole vs (difference types new old) (difference types new' old')
    (length_difference types new old e ∙ sym k.long ∙ sym (length_difference types new' old' long))
    (λ v n. at_difference types new old e v ∙ ap₂ {C = ℤ} (minus (type_of types v)) (sym (k.outside v n)) (sym (l.outside v n)) ∙ sym (at_difference types new' old' long v))
  where
    long : length new' ≡ length old'
    long = k.long ∙ e ∙ sym l.long

-- ---- which branch

choose_not : {A : Type 0} (b : Bool) (one two : A) → choose (not b) one two ≡ choose b two one
choose_not true one two = refl
choose_not false one two = refl

-- two truths that differ choose otherwise
otherwise : (x y : ℤ) → (x ≡ pos 0) ⊎ (x ≡ pos 1) → (y ≡ pos 0) ⊎ (y ≡ pos 1) → eq_z (minus Ty.truth y x) (pos 0) ≡ false → holds y ≡ not (holds x)
unfolding minus differ holds
otherwise x y (inl p) (inl q) e = absurd (true≢false (rw (p, q) at e))
otherwise x y (inl p) (inr q) e = rw (p, q)
otherwise x y (inr p) (inl q) e = rw (p, q)
otherwise x y (inr p) (inr q) e = absurd (true≢false (rw (p, q) at e))

-- ---- the branch of an if

module _ (types : List Ty) (vs : List ℕ) (old new : List ℤ) (fine : Fine types old) (fine' : Fine types new)
    (x : ℤ) (hx : in_type Ty.truth x ≡ true) (d : Done) (keeps : Kept types vs old d.store) (test : List ℤ) (left : ℕ) where
  -- the old end of the if's parts, and the new one
  abbrev ended : ℤ → List ℤ → List ℤ → Done → Done
  ended z before test e = record { store = e.store; steps = e.steps; words = if_words z before (snapshot vs e.store) test e.words }

  abbrev fork : ℤ → List ℤ → Fork
  fork y words = record {
    left = left;
    changes = difference types new old;
    vs = vs;
    condition = x;
    before = snapshot vs new;
    after = snapshot vs d.store;
    test = record { change = minus Ty.truth y x; words = words; rest = d.words };
  }

  -- the condition kept
  pub kept_follows : (words : List ℤ) (branch : ℕ → List ℤ → Outcome Done) (visits : Bool → ℕ → List ℤ → List ℤ → Outcome Visited)
      → Keeps types vs branch
      → Alike (Step types d []) (branch left new) (visits true left (difference types new old) d.words)
      → Alike (Part types (ended x (snapshot vs old) test d))
      (branch left new >>= λ e. accepted (ended x (snapshot vs new) words e))
      (kept types visits (fork x words))
  unfolding kept
  kept_follows words branch visits keep h =
      alike_bind (branch left new) (visits true left (difference types new old) d.words) _ _ (alike_with (keep left new fine'.good) h) λ e b p.
      rw (
        p.1.closed,
        move_on types vs e.store d.store (p.0.long ∙ fine'.long ∙ sym fine.long ∙ sym keeps.long) keeps.good p.0.good,
      )
      (values (record { counts = p.1.counts; total = p.1.total; closed = refl }))

  -- the condition flipped
  fresh_part : (words : List ℤ) (y : ℤ) → in_type Ty.truth y ≡ true → (e f : Done) → Kept types vs new e.store → Same vs e f
      → Part types (ended x (snapshot vs old) test d) (ended y (snapshot vs new) words e) (record {
        changes = put vs (minus_all types vs (snapshot vs f.store) (snapshot vs d.store)) (difference types new old);
        counts = all_fresh f.steps;
        words = if_words (plus Ty.truth x (minus Ty.truth y x)) (snapshot vs new) (snapshot vs f.store) words f.words;
      })
  unfolding all_fresh steps_of
  fresh_part words y hy e f k q = record {
    counts = all_fresh f.steps;
    total = omega (arith, q.steps);
    closed = ap₂ {C = Walked} (λ c w. record { changes = c; counts = all_fresh f.steps; words = w })
        (fresh_changes types vs (fine'.long ∙ sym fine.long) k keeps q.agree)
        (ap₂ {C = List ℤ} (λ z ws. if_words z (snapshot vs new) (snapshot vs f.store) words ws) (plus_minus Ty.truth x y hx hy) (sym q.words)
        ∙ ap (λ (after : List ℤ). if_words y (snapshot vs new) after words e.words) (sym (snapshot_agree vs e.store f.store q.agree)));
  }

  pub flipped_follows : (words : List ℤ) (y : ℤ) → in_type Ty.truth y ≡ true → (branch : ℕ → List ℤ → Outcome Done)
      → Keeps types vs branch → Goes vs branch
      → Alike (Part types (ended x (snapshot vs old) test d))
      (branch left new >>= λ e. accepted (ended y (snapshot vs new) words e))
      (flipped types branch (fork y words))
  unfolding flipped
  flipped_follows words y hy branch keep goes =
      alike_bind (branch left new) (branch left (put vs (snapshot vs new) (zeros most_variables))) _ _
      (alike_with (keep left new fine'.good) (goes left new (put vs (snapshot vs new) (zeros most_variables)) (restored types vs new fine'))) λ e f p.
      values (fresh_part words y hy e f p.0 p.1)

  -- the one or the other, as the condition's change says
  pub forked : (words : List ℤ) (y : ℤ) → in_type Ty.truth y ≡ true → (one two : ℕ → List ℤ → Outcome Done)
      → (see look : Bool → ℕ → List ℤ → List ℤ → Outcome Visited)
      → Keeps types vs one → Keeps types vs two → Goes vs one → Goes vs two
      → Alike (Step types d []) (choose (holds x) one two left new) (choose (holds x) see look true left (difference types new old) d.words)
      → (b : Bool) → eq_z (minus Ty.truth y x) (pos 0) ≡ b
      → Alike (Part types (ended x (snapshot vs old) test d))
      (choose (holds y) one two left new >>= λ e. accepted (ended y (snapshot vs new) words e))
      (choose b (kept types (choose (holds x) see look)) (flipped types (choose (holds x) two one)) (fork y words))
  forked words y hy one two see look k₁ k₂ g₁ g₂ h true q =
      rw (unmoved Ty.truth x y hx hy (eq_z_true _ _ q))
      (kept_follows words (choose (holds x) one two) (choose (holds x) see look) (keeps_choose types vs (holds x) one two k₁ k₂) h)
  forked words y hy one two see look k₁ k₂ g₁ g₂ h false q =
      rw (otherwise x y (truth_cases x hx) (truth_cases y hy) q, choose_not (holds x) one two)
      (flipped_follows words y hy (choose (holds x) two one) (keeps_choose types vs (holds x) two one k₂ k₁) (goes_choose vs (holds x) two one g₂ g₁))
