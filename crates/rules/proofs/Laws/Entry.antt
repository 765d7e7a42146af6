-- An entry that a run left is met, and then skipped or paid for, as a run from the new store goes.
-- `visit_follows` puts the two together: what is left to show of a statement is that the walk through its parts follows.
-- Assumes nothing.
use Rattle.std.specs.Prelude.{◌≡◌, refl, ◌⊎◌, ℕ, zero, suc, ◌+◌, ◌-◌, ◌≤◌, Bool, length, leb, ℤ, pos}
use Rattle.std.proofs.Math.Path.{sym, ap, ap₂}
use Rattle.std.proofs.Common.{◌∙◌, subst, inl, inr, arith, le_trans, ext_get_or, le-leb}
use Rattle.std.proofs.Math.Bool.{true, false}
use mathlib.Core.List.{List, [], ◌∷◌, ◌++◌}
use Rattle.std.proofs.Math.ListN.{drop}
use Rattle.std.proofs.lemmas.Bool.{lt-leb}
use Rattle.numbers.specs.Signed.{between}
use Rattle.numbers.specs.Laws.{eq_z_refl}
use Rattle.rules.specs.Outcome.{Outcome, accepted, refused, choose, fuel_spent}
use Rattle.rules.specs.Value.{Ty, most_variables, minus, type_of, at, unchanged}
use Rattle.rules.proofs.Laws.Value.{minus_self}
use Rattle.rules.specs.Tree.{Statement, skip, assign, sequence, if, repeat, node_of, mentions}
use Rattle.rules.specs.Run.{Done, entry, enter, most_steps, run}
use Rattle.rules.specs.Patch.{cut, Counts, steps_of, both, one_walked, all_reused, Entry, ends, meet, Walked, Visited, Walk, skipped, paid, visit, walk}
use Rattle.rules.proofs.Laws.Outcome.{Holds, value, vacant, holds_bind, holds_of, holds_map, holds_both, holds_if, refused_accepted, Alike, values, refusals, alike_bind}
use Rattle.rules.proofs.Laws.Store.{Good, Agree, difference, at_difference, length_difference, unchanged_agree}
use Rattle.rules.proofs.Laws.Mentions.{◌∈◌, is_member}
use Rattle.rules.proofs.Laws.Typed.{Typed, Kept, run_keeps}
use Rattle.rules.proofs.Laws.Run.{Same, run_alike, Costs, run_costs, split}

-- ---- meeting an entry

pub cut_back : (front behind : List ℤ) → cut (length front) (front ++ behind) ≡ accepted (record { front = front; behind = behind })
unfolding cut
cut_back [] behind = refl
cut_back (w ∷ ws) behind = rw (cut_back ws behind)

-- the entry that an end of a run is, with these words behind it
unfoldable pub met : Done → List ℤ → Entry
met d rest = record { steps = d.steps; words = d.words; parts = drop 3 d.words; behind = rest }

pub meet_back : (node steps : ℕ) (parts rest : List ℤ) (last : Bool) → 1 ≤ steps → steps ≤ 1_000_000 → ends last rest ≡ true
    → meet node last (entry node steps parts ++ rest)
    ≡ accepted (record { steps = steps; words = entry node steps parts; parts = parts; behind = rest })
unfolding meet entry most_steps between
meet_back node steps parts rest last low high h =
    let size : 3 + length parts - 3 ≡ length parts = omega arith in
    let three : leb 3 (3 + length parts) ≡ true = le-leb 3 (3 + length parts) (omega arith) in
    rw (eq_z_refl (pos node), three, size, cut_back parts rest, h, le-leb 1 steps low, le-leb steps 1_000_000 high) refl

-- ---- the steps of an accepted run

pub run_dry : (s : Statement) (store : List ℤ) → run s 0 store ≡ refused fuel_spent
unfolding run enter
run_dry (skip n) store = refl
run_dry (assign n v e) store = refl
run_dry (sequence n s t) store = refl
run_dry (if n e s t) store = refl
run_dry (repeat n e s) store = refl

pub costs_of : (s : Statement) (fuel : ℕ) (store : List ℤ) (d : Done) → run s fuel store ≡ accepted d → Costs (λ k. run s k store) d
costs_of s fuel store d e = holds_of (subst (Holds (Costs (λ k. run s k store))) e (run_costs s store fuel))

pub steps_within : (s : Statement) (fuel : ℕ) (store : List ℤ) (d : Done) → run s fuel store ≡ accepted d → d.steps ≤ fuel
steps_within s fuel store d e =
    split d.steps fuel (λ le. le) (λ less. absurd (refused_accepted (sym ((costs_of s fuel store d e).short fuel less) ∙ e)))

pub steps_some : (s : Statement) (fuel : ℕ) (store : List ℤ) (d : Done) → run s fuel store ≡ accepted d → 1 ≤ d.steps
steps_some s fuel store d e =
    split 1 d.steps (λ le. le) (λ less. absurd (refused_accepted (sym (run_dry s store) ∙ (costs_of s fuel store d e).enough 0 (omega arith))))

-- an entry opens with its node, size and steps
unfoldable pub opens : ℕ → Done → Type 0
opens node d = d.words ≡ entry node d.steps (drop 3 d.words)

enter_opens : (node fuel : ℕ) (inside : ℕ → Outcome Done) → Holds (opens node) (enter node fuel inside)
unfolding enter entry opens
enter_opens node zero inside = vacant
enter_opens node (suc left) inside = holds_bind (inside left) _ (holds_if (inside left) (λ d e. e)) λ d e. value refl

pub run_opens : (s : Statement) (fuel : ℕ) (store : List ℤ) → Holds (opens (node_of s)) (run s fuel store)
unfolding run node_of
run_opens (skip n) fuel store = enter_opens n fuel _
run_opens (assign n v e) fuel store = enter_opens n fuel _
run_opens (sequence n s t) fuel store = enter_opens n fuel _
run_opens (if n e s t) fuel store = enter_opens n fuel _
run_opens (repeat n e s) fuel store = enter_opens n fuel _

-- ---- what a visit and a walk end with, where the old run ended with d and the new one with d'

-- a store of the right length with every value in its type
pub record Fine (types : List Ty) (store : List ℤ) : Type 0 where
  pub long : length store ≡ most_variables
  pub good : Good types store

pub record Step (types : List Ty) (d : Done) (rest : List ℤ) (d' : Done) (v : Visited) : Type 0 where
  pub counts : Counts
  pub total : steps_of counts ≡ d'.steps
  pub closed : v ≡ record { changes = difference types d'.store d.store; counts = counts; words = d'.words; rest = rest }

pub record Part (types : List Ty) (d d' : Done) (w : Walked) : Type 0 where
  pub counts : Counts
  pub total : steps_of counts ≡ d'.steps
  pub closed : w ≡ record { changes = difference types d'.store d.store; counts = counts; words = d'.words }

-- ---- paid

-- the end of an entry whose parts end with d
unfoldable pub shut : ℕ → Done → Done
shut node d = record { store = d.store; steps = suc d.steps; words = entry node (suc d.steps) d.words }

-- the steps of one part and then another
pub sum_of_both : (c e : Counts) (m n : ℕ) → steps_of c ≡ m → steps_of e ≡ n → steps_of (both c e) ≡ m + n
unfolding steps_of both
sum_of_both c e m n p q = omega arith

one_more : (c : Counts) (n : ℕ) → steps_of c ≡ n → steps_of (one_walked c) ≡ suc n
unfolding steps_of one_walked
one_more c n e = omega arith

pub paid_follows : (types : List Ty) (node : ℕ) (changes : List ℤ) (d : Done) (two : ℕ → Outcome Done) (w : Walk)
    → ((left : ℕ) → Alike (Part types d) (two left) (w left changes d.words))
    → (rest : List ℤ) (fuel : ℕ) → Alike (Step types (shut node d) rest) (enter node fuel two) (paid node w (met (shut node d) rest) fuel changes)
unfolding enter paid met shut entry
paid_follows types node changes d two w h rest zero = refusals
paid_follows types node changes d two w h rest (suc left) =
    alike_bind (two left) (w left changes d.words) _ _ (h left) λ d' x p.
    let sum : steps_of (one_walked p.counts) ≡ suc d'.steps = one_more p.counts d'.steps p.total in
    rw (p.closed, sum) (values (record { counts = one_walked p.counts; total = sum; closed = refl }))

-- ---- skipped

-- a store that no run of these variables can tell apart has the same difference
same_difference : (types : List Ty) (vs : List ℕ) {new old new' old' : List ℤ} → Agree vs new old → Agree vs new' old'
    → Kept types vs new new' → Kept types vs old old' → difference types new' old' ≡ difference types new old
same_difference types vs {new} {old} {new'} {old'} agree agree' k l =
    ext_get_or (pos 0) _ _ (length_difference types new' old' agree'.long ∙ k.long ∙ sym (length_difference types new old agree.long))
    (λ v below. at_difference types new' old' agree'.long v ∙ same v (is_member v vs) ∙ sym (at_difference types new old agree.long v))
  where
    same : (v : ℕ) → (v ∈ vs) ⊎ (v ∈ vs → ⊥) → minus (type_of types v) (at new' v) (at old' v) ≡ minus (type_of types v) (at new v) (at old v)
    same v (inl m) = rw (agree'.on v m, agree.on v m) (minus_self (type_of types v) (at old' v) ∙ sym (minus_self (type_of types v) (at old v)))
    same v (inr n) = rw (k.outside v n, l.outside v n)

module _ (types : List Ty) (s : Statement) (typed : Typed types s) (old : List ℤ) (good : Good types old)
    (fuel₀ : ℕ) (d : Done) (was : run s fuel₀ old ≡ accepted d) (new : List ℤ) (good' : Good types new)
    (agree : Agree (mentions s) new old) where
  -- the run from the new store, beside the old end
  beside : (fuel : ℕ) → Alike (Same (mentions s)) (run s fuel new) (run s fuel old)
  beside fuel = run_alike (mentions s) s (λ v m. m) fuel new old agree

  keeps : (store : List ℤ) → Good types store → (fuel : ℕ) → Holds (λ e. Kept types (mentions s) store e.store) (run s fuel store)
  keeps store fine fuel = run_keeps types (mentions s) s typed (λ v m. m) fuel store fine

  reused_step : (rest : List ℤ) (e : Done) → Same (mentions s) e d → Kept types (mentions s) new e.store
      → Step types d rest e (record { changes = difference types new old; counts = all_reused d.steps; words = d.words; rest = rest })
  unfolding all_reused steps_of
  reused_step rest e q k = record {
    counts = all_reused d.steps;
    total = omega (arith, q.steps);
    closed = ap₂ {C = Visited} (λ c w. record { changes = c; counts = all_reused d.steps; words = w; rest = rest })
        (sym (same_difference types (mentions s) agree q.agree k (holds_of (rw was at (keeps old good fuel₀))))) (sym q.words);
  }

  reused_end : (rest : List ℤ) (m : Outcome Done) → Alike (Same (mentions s)) m (accepted d) → Holds (λ e. Kept types (mentions s) new e.store) m
      → Alike (Step types d rest) m
      (accepted (record { changes = difference types new old; counts = all_reused d.steps; words = d.words; rest = rest }))
  reused_end rest m (values {a = e} q) (value k) = values (reused_step rest e q k)

  refused_end : (rest : List ℤ) (m : Outcome Done) → Alike (Same (mentions s)) m (refused fuel_spent) → Alike (Step types d rest) m (refused fuel_spent)
  refused_end rest m refusals = refusals

  pub skip_follows : (rest : List ℤ) (fuel : ℕ) → Alike (Step types d rest) (run s fuel new) (skipped (met d rest) fuel (difference types new old))
  unfolding skipped met
  skip_follows rest fuel = split d.steps fuel
      (λ le. rw (le-leb d.steps fuel le)
      (reused_end rest (run s fuel new) (rw ((costs_of s fuel₀ old d was).enough fuel le) at (beside fuel)) (keeps new good' fuel)))
      (λ less. rw (lt-leb d.steps fuel less)
      (refused_end rest (run s fuel new) (rw ((costs_of s fuel₀ old d was).short fuel less) at (beside fuel))))

-- ---- a visit

module _ (types : List Ty) (s : Statement) where
  -- of the end d of a run from the old store: a visit of its words, with the difference to a new store, goes as a run from there
  unfoldable pub Visits : List ℤ → Done → Type 0
  Visits old d = (new : List ℤ) → Fine types new → (last : Bool) (rest : List ℤ) (fuel : ℕ) → ends last rest ≡ true
      → Alike (Step types d rest) (run s fuel new) (visit s (walk types s) last fuel (difference types new old) (d.words ++ rest))

  -- the same where the entry is met and not skipped
  unfoldable pub Walks : List ℤ → Done → Type 0
  Walks old d = (new : List ℤ) → Fine types new → (rest : List ℤ) (fuel : ℕ)
      → Alike (Step types d rest) (run s fuel new) (paid (node_of s) (walk types s) (met d rest) fuel (difference types new old))

  module _ (typed : Typed types s) (old : List ℤ) (fine : Fine types old) (fuel₀ : ℕ) (most : fuel₀ ≤ 1_000_000) where
    meets : (d : Done) → run s fuel₀ old ≡ accepted d → opens (node_of s) d → (last : Bool) (rest : List ℤ) → ends last rest ≡ true
        → meet (node_of s) last (d.words ++ rest) ≡ accepted (met d rest)
    unfolding opens met
    meets d was start last rest h =
        ap (λ (ws : List ℤ). meet (node_of s) last (ws ++ rest)) start
        ∙ meet_back (node_of s) d.steps (drop 3 d.words) rest last (steps_some s fuel₀ old d was) (le_trans (steps_within s fuel₀ old d was) most) h
        ∙ ap {B = Outcome Entry} (λ (ws : List ℤ). accepted (record { steps = d.steps; words = ws; parts = drop 3 d.words; behind = rest })) (sym start)

    chosen : (d : Done) → run s fuel₀ old ≡ accepted d → Walks old d → (new : List ℤ) → Fine types new → (rest : List ℤ) (fuel : ℕ)
        → (b : Bool) → unchanged (mentions s) (difference types new old) ≡ b
        → Alike (Step types d rest) (run s fuel new)
        (choose b skipped (paid (node_of s) (walk types s)) (met d rest) fuel (difference types new old))
    unfolding Walks
    chosen d was walks new fine' rest fuel true e = skip_follows types s typed old fine.good fuel₀ d was new fine'.good
        (unchanged_agree types (mentions s) new old (fine'.long ∙ sym fine.long) fine.good fine'.good e) rest fuel
    chosen d was walks new fine' rest fuel false e = walks new fine' rest fuel

    pub visit_follows : Holds (Walks old) (run s fuel₀ old) → Holds (Visits old) (run s fuel₀ old)
    unfolding Visits visit
    visit_follows h = holds_map
        (λ d p new fine' last rest fuel e.
        rw (meets d p.0 p.1.0 last rest e)
        (chosen d p.0 p.1.1 new fine' rest fuel (unchanged (mentions s) (difference types new old)) refl))
        (holds_both (holds_if (run s fuel₀ old) (λ d e. e)) (holds_both (run_opens s fuel₀ old) h))

-- the parts of an entry follow, so the entry does
pub enter_walks : (types : List Ty) (node : ℕ) (w : Walk) (inside : List ℤ → ℕ → Outcome Done) (old : List ℤ)
    → ((left₀ : ℕ) → left₀ ≤ 1_000_000 → Holds
    (λ d. (new : List ℤ) → Fine types new → (left : ℕ) → Alike (Part types d) (inside new left) (w left (difference types new old) d.words))
    (inside old left₀))
    → (fuel₀ : ℕ) → fuel₀ ≤ 1_000_000 → Holds
    (λ d. (new : List ℤ) → Fine types new → (rest : List ℤ) (fuel : ℕ)
    → Alike (Step types d rest) (enter node fuel (inside new)) (paid node w (met d rest) fuel (difference types new old)))
    (enter node fuel₀ (inside old))
unfolding enter shut
enter_walks types node w inside old h zero most = vacant
enter_walks types node w inside old h (suc left₀) most = holds_bind (inside old left₀) _ (h left₀ (omega arith)) λ d follows.
    value λ new fine rest fuel.
    paid_follows types node (difference types new old) d (inside new) w (follows new fine) rest fuel
