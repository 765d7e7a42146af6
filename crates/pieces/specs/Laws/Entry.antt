-- Laws of an entry met: what each test of its three opening words decides, and what it is where all of them pass. The tests are those
-- of words as the code reads them.
-- Assumes nothing.
use Rattle.std.specs.Prelude.{◌≡◌, refl, ◌⊎◌, ℕ, zero, suc, ◌+◌, ◌-◌, ◌≤◌, ◌<◌, Bool, List, [], ◌∷◌, length, eqb, ℤ, pos, negsuc, Some, None, Ok, Err}
use Rattle.std.proofs.Math.Path.{sym, ap, ap₂}
use Rattle.std.proofs.Common.{◌∙◌, inl, inr, arith, true≢false, le-leb, ltb-true, ltb-false, eqb-true}
use Rattle.std.proofs.Math.Bool.{true, false}
use Rattle.std.proofs.Math.IntN.{nat_abs}
use Rattle.std.specs.Int.Signed.{le_z, lt_z}
use Rattle.std.proofs.lemmas.Bool.{lt-leb, eqb-false}
use Rattle.numbers.specs.Signed.{eq_z, between}
use Rattle.numbers.specs.Laws.{decide, eq_z_true, eq_z_refl}
use Rattle.rules.specs.Outcome.{Outcome, accepted, refused, ◌>>=◌, need, broken}
use Rattle.rules.specs.Value.{at}
use Rattle.rules.specs.Run.{most_steps}
use Rattle.rules.specs.Patch.{Cut, cut, ends, meet}
use Rattle.rules.proofs.Laws.Call.{in_limits_lem}
use Rattle.rules.proofs.Laws.Entry.{cut_back}
use Rattle.table.specs.Agrees.{agrees_ok, agrees_err}
use Rattle.table.specs.declared.answer.Refusal.TheVariants.{Broken}
use Rattle.run.specs.Call.{limited}
use Rattle.pieces.specs.Old.{part, Inside}
use Rattle.pieces.specs.Laws.Old.{part_long, part_none, part_next, part_split}
use Rattle.pieces.specs.Entry.{ends_at, MetAs}
use Rattle.pieces.specs.Laws.Changes.{chosen_in, chosen_out}

-- ---- words cut off

cut_past : (n : ℕ) (ws : List ℤ) → length ws < n → cut n ws ≡ refused broken
unfolding cut
cut_past zero ws past = absurd (none past)
  where
    none : length ws < 0 → ⊥
    none p = omega arith
cut_past (suc n) [] past = refl
cut_past (suc n) (w ∷ ws) past = rw (cut_past n ws (omega arith))

cut_part : (old : List ℤ) (from mid end : ℕ) → from ≤ mid → mid ≤ end → end ≤ length old
    → cut (mid - from) (part old from end) ≡ accepted (record { front = part old from mid; behind = part old mid end })
cut_part old from mid end low high inside =
    ap₂ {C = Outcome Cut} cut (sym (part_long old from mid (omega arith))) (part_split old from mid end low high)
    ∙ cut_back (part old from mid) (part old mid end)

-- a last part leaves nothing behind where it stops at the end
ends_part : (last : Bool) (old : List ℤ) (stop end : ℕ) → stop ≤ end → end ≤ length old → ends last (part old stop end) ≡ ends_at last stop end
unfolding ends
ends_part false old stop end low inside = refl
ends_part true old stop end low inside = by (decide (eqb stop end))
  where
    by : (eqb stop end ≡ true) ⊎ (eqb stop end ≡ false) → ends true (part old stop end) ≡ eqb stop end
    by (inl e) =
        let same : stop ≡ end = eqb-true stop end e in
        rw (part_none old stop end (omega arith), e)
    by (inr e) = rw (part_next old stop end (less stop end low (eqb-false stop end e)) inside, e)
      where
        less : (a b : ℕ) → a ≤ b → (a ≡ b → ⊥) → a < b
        less a b le apart = omega arith

-- ---- tests of the size

-- a size of 3 to so many words
pub record InSize (size : ℤ) (most : ℕ) : Type 0 where
  pub is : size ≡ pos (nat_abs size)
  pub low : 3 ≤ nat_abs size
  pub high : nat_abs size ≤ most

sizes : (size : ℤ) (most : ℕ) → lt_z size (pos 3) ≡ false → lt_z (pos most) size ≡ false → InSize size most
sizes (pos n) most low high = record { is = refl; low = ltb-false n 3 low; high = ltb-false most n high }
sizes (negsuc n) most low high = absurd (true≢false low)

-- by the tests of a word that is this size, and of one that is so many
pub in_size : (size : ℤ) (most : ℕ) {word words : ℤ} → word ≡ size → words ≡ pos most → lt_z word (pos 3) ≡ false → lt_z words word ≡ false → InSize size most
in_size size most is all low high =
    sizes size most (ap (λ (z : ℤ). lt_z z (pos 3)) (sym is) ∙ low) (ap₂ {C = Bool} lt_z (sym all) (sym is) ∙ high)

small : (size : ℤ) → lt_z size (pos 3) ≡ true → le_z (pos 3) size ≡ false
small (pos n) less = lt-leb 3 n (ltb-true n 3 less)
small (negsuc n) less = refl

large : (size : ℤ) → 3 ≤ nat_abs size → size ≡ pos (nat_abs size) → le_z (pos 3) size ≡ true
large (pos n) low is = le-leb 3 n low
large (negsuc n) low is = let z : ◌≡◌ {A = ℕ} 0 1 = cc in absurd (never z)
  where
    never : ◌≡◌ {A = ℕ} 0 1 → ⊥
    never z = omega arith

above : (size : ℤ) (most : ℕ) → lt_z (pos most) size ≡ true → most < nat_abs size
above (pos n) most less = ltb-true most n less
above (negsuc n) most less = absurd (true≢false (sym less))

-- ---- an entry met

-- what refuses as broken behind a test refuses as broken
behind_test : {A : Type 0} (b : Bool) (next : Unit {0} → Outcome A) → next tt ≡ refused broken → (need b broken >>= next) ≡ refused broken
behind_test true next e = e
behind_test false next e = refl

meet_short : (node : ℕ) (last : Bool) (ws : List ℤ) → length ws < 3 → meet node last ws ≡ refused broken
unfolding meet
meet_short node last [] less = refl
meet_short node last (a ∷ []) less = refl
meet_short node last (a ∷ b ∷ []) less = refl
meet_short node last (a ∷ b ∷ d ∷ ws) less = absurd (none (length ws) less)
  where
    none : (n : ℕ) → suc (suc (suc n)) < 3 → ⊥
    none n p = omega arith

-- the three opening words, and those behind them
three : (old : List ℤ) (from end : ℕ) → from + 3 ≤ end → end ≤ length old
    → part old from end ≡ at old from ∷ at old (from + 1) ∷ at old (from + 2) ∷ part old (from + 3) end
three old from end opens inside =
    let two : from + 1 + 1 ≡ from + 2 = omega arith in
    let more : from + 2 + 1 ≡ from + 3 = omega arith in
    part_next old from end (omega arith) inside
    ∙ ap (λ (ws : List ℤ). at old from ∷ ws)
    (part_next old (from + 1) end (omega arith) inside
    ∙ ap (λ (p : ℕ). at old (from + 1) ∷ part old p end) two
    ∙ ap (λ (ws : List ℤ). at old (from + 1) ∷ ws)
    (part_next old (from + 2) end (omega arith) inside ∙ ap (λ (p : ℕ). at old (from + 2) ∷ part old p end) more))

-- the entry met is refused, and the code says so
abbrev pub IsBroken : ℕ → Bool → List ℤ → ℕ → ℕ → Type 0
IsBroken node last old from end = MetAs (meet node last (part old from end)) (Err Broken) old from end

module _ (node : ℕ) (last : Bool) (old : List ℤ) (from end : ℕ) (inside : Inside old from end) where
  refuses : meet node last (part old from end) ≡ refused broken → IsBroken node last old from end
  refuses e = (agrees_err e refl, refl)

  pub under_three : end - from < 3 → IsBroken node last old from end
  under_three less = refuses (meet_short node last (part old from end) (omega (arith, part_long old from end inside.ends)))

  -- three words or more are left
  module _ (opens : 3 ≤ end - from) where
    opened : part old from end ≡ at old from ∷ at old (from + 1) ∷ at old (from + 2) ∷ part old (from + 3) end
    opened = three old from end (omega (arith, inside.ordered)) inside.ends

    pub other_node : (at old from ≡ pos node → ⊥) → IsBroken node last old from end
    unfolding meet
    other_node other = refuses (by (decide (eq_z (at old from) (pos node))))
      where
        by : (eq_z (at old from) (pos node) ≡ true) ⊎ (eq_z (at old from) (pos node) ≡ false) → meet node last (part old from end) ≡ refused broken
        by (inl e) = absurd (other (eq_z_true (at old from) (pos node) e))
        by (inr e) = rw (opened, e)

    pub too_small : {word : ℤ} → word ≡ at old (from + 1) → lt_z word (pos 3) ≡ true → IsBroken node last old from end
    unfolding meet
    too_small is less =
        let under : le_z (pos 3) (at old (from + 1)) ≡ false = small (at old (from + 1)) (ap (λ (z : ℤ). lt_z z (pos 3)) (sym is) ∙ less) in
        refuses (rw (opened, under) (behind_test (eq_z (at old from) (pos node)) _ refl))

    pub too_long : {word words : ℤ} → word ≡ at old (from + 1) → words ≡ pos (end - from) → lt_z words word ≡ true → IsBroken node last old from end
    unfolding meet
    too_long is all more =
        let over : lt_z (pos (end - from)) (at old (from + 1)) ≡ true = ap₂ {C = Bool} lt_z (sym all) (sym is) ∙ more in
        let past : cut (nat_abs (at old (from + 1)) - 3) (part old (from + 3) end) ≡ refused broken = cut_past _ _
        (omega (arith, part_long old (from + 3) end inside.ends, above (at old (from + 1)) (end - from) over)) in
        refuses (rw (opened, past) (behind_test (eq_z (at old from) (pos node)) _ (behind_test (le_z (pos 3) (at old (from + 1))) _ refl)))

    -- the size has passed its tests
    module _ (sized : InSize (at old (from + 1)) (end - from)) where
      -- where the entry stops
      abbrev stop : ℕ
      stop = from + nat_abs (at old (from + 1))

      cut_is : cut (nat_abs (at old (from + 1)) - 3) (part old (from + 3) end)
          ≡ accepted (record { front = part old (from + 3) stop; behind = part old stop end })
      cut_is =
          let count : nat_abs (at old (from + 1)) - 3 ≡ stop - (from + 3) = omega arith in
          ap (λ (n : ℕ). cut n (part old (from + 3) end)) count
          ∙ cut_part old (from + 3) stop end (omega (arith, sized.low)) (omega (arith, sized.high, inside.ordered)) inside.ends

      stops_inside : stop ≤ end
      stops_inside = omega (arith, sized.high, inside.ordered)

      -- by the test of a place that is the stop
      leaves_as : {place : ℕ} {b : Bool} → place ≡ stop → ends_at last place end ≡ b → ends last (part old stop end) ≡ b
      leaves_as is e = ends_part last old stop end stops_inside inside.ends ∙ ap (λ (p : ℕ). ends_at last p end) (sym is) ∙ e

      pub not_last : {place : ℕ} → place ≡ stop → ends_at last place end ≡ false → IsBroken node last old from end
      unfolding meet
      not_last is before =
          let leaves : ends last (part old stop end) ≡ false = leaves_as is before in
          refuses
          (rw (opened, cut_is, leaves)
          (behind_test (eq_z (at old from) (pos node)) _ (behind_test (le_z (pos 3) (at old (from + 1))) _ refl)))

      pub outside_limits : limited (at old (from + 2)) ≡ None → IsBroken node last old from end
      unfolding meet
      outside_limits none =
          let outside : between (pos 1) most_steps (at old (from + 2)) ≡ false = chosen_out _ _ none in
          refuses
          (rw (opened, cut_is, outside)
          (behind_test (eq_z (at old from) (pos node)) _
          (behind_test (le_z (pos 3) (at old (from + 1))) _ (behind_test (ends last (part old stop end)) _ refl))))

      pub entry_met : {place steps : ℕ} → at old from ≡ pos node → place ≡ stop → ends_at last place end ≡ true → limited (at old (from + 2)) ≡ Some steps
          → MetAs (meet node last (part old from end)) (Ok (record { stop = place; steps = steps })) old from end
      unfolding meet
      entry_met {place} {steps} here is there read =
          let leaves : ends last (part old stop end) ≡ true = leaves_as is there in
          let among = chosen_in (between (pos 1) most_steps (at old (from + 2))) (nat_abs (at old (from + 2))) read in
          let same : eq_z (at old from) (pos node) ≡ true = ap (λ (z : ℤ). eq_z z (pos node)) here ∙ eq_z_refl (pos node) in
          let big : le_z (pos 3) (at old (from + 1)) ≡ true = large (at old (from + 1)) sized.low sized.is in (
            agrees_ok {a = record {
              steps = nat_abs (at old (from + 2));
              words = at old from ∷ at old (from + 1) ∷ at old (from + 2) ∷ part old (from + 3) stop;
              parts = part old (from + 3) stop;
              behind = part old stop end;
            }} (rw (opened, same, big, cut_is, leaves, among.0) refl)
                (rw is
                (record {
                  steps = among.1;
                  opens = omega (arith, sized.low);
                  inside = stops_inside;
                  words = sym (three old from stop (omega (arith, sized.low)) (omega (arith, stops_inside, inside.ends)));
                  parts = refl;
                  behind = refl;
                  some = (in_limits_lem (at old (from + 2)) among.0).1;
                  most = (in_limits_lem (at old (from + 2)) among.0).2;
                })),
            tt,
          )
