-- The walk through a repeat's iterations follows the run of the iterations: those that both runs have are visited, further ones
-- run fresh from a store that agrees with the new one on all that the repeat mentions, and of dropped ones the last snapshot
-- tells where the old run ended. By induction on the old iterations; the body is spoken of as a run and a visit.
-- Assumes nothing.
use Rattle.std.specs.Prelude.{◌≡◌, true, drop, leb, ℤ}
use Rattle.std.proofs.Math.Path.{refl, sym, ap, ap₂}
use Rattle.std.proofs.Common.{◌∙◌, arith, length-append, le-leb}
use Prim.Native.Nat.{ℕ, zero, suc, ◌+◌, ◌-◌, ◌≤◌}
use mathlib.Core.List.{List, [], ◌++◌, append_assoc, append-nil}
use Rattle.std.proofs.Math.ListN.{length}
use Rattle.std.proofs.Math.Seq.{drop-append_seam}
use Rattle.rules.specs.Outcome.{Outcome, accepted}
use Rattle.rules.specs.Value.{Ty, most_variables, zeros, snapshot, put, minus_all}
use Rattle.rules.specs.Run.{Done, iterate}
use Rattle.rules.specs.Patch.{steps_of, no_steps, both, all_fresh, Walked, Visited, Turn, finished, read_snapshot, last_snapshot, complete, grown, shrunk, loop}
use Rattle.rules.proofs.Laws.Outcome.{Holds, value, holds_bind, holds_any, holds_both, holds_map, Alike, values, alike_bind, alike_with, alike_then}
use Rattle.rules.proofs.Laws.Store.{Good, difference, length_snapshot, read_back, move_on}
use Rattle.rules.proofs.Laws.Typed.{Kept, Keeps, kept_self, keeps_iterate}
use Rattle.rules.proofs.Laws.Run.{Same, Goes, goes_iterate}
use Rattle.rules.proofs.Laws.Entry.{Fine, Step, Part, sum_of_both}
use Rattle.rules.proofs.Laws.Branch.{restored, fresh_changes}

-- ---- the last snapshot

-- the words of some iterations end with a snapshot of the store that they end with
abbrev EndsSnapped : List ℕ → Done → Type 0
EndsSnapped vs d = (front : List ℤ) × (d.words ≡ front ++ snapshot vs d.store)

iterate_snapped : (body : ℕ → List ℤ → Outcome Done) (vs : List ℕ) (n : ℕ) (left : ℕ) (store : List ℤ)
    → Holds (EndsSnapped vs) (iterate body vs (suc n) left store)
unfolding iterate
iterate_snapped body vs zero left store = holds_bind (body left store) _ (holds_any (body left store)) λ d p.
    value (d.words, ap (λ (ws : List ℤ). d.words ++ ws) (append-nil (snapshot vs d.store)))
iterate_snapped body vs (suc n) left store = holds_bind (body left store) _ (holds_any (body left store)) λ d p.
    holds_bind (iterate body vs (suc n) (left - d.steps) d.store) _ (iterate_snapped body vs n (left - d.steps) d.store) λ r q.
    value (
      d.words ++ (snapshot vs d.store ++ q.0),
      ap (λ (ws : List ℤ). d.words ++ (snapshot vs d.store ++ ws)) q.1
          ∙ sym (append_assoc d.words (snapshot vs d.store ++ q.0) _ ∙ ap (λ (ws : List ℤ). d.words ++ ws) (append_assoc (snapshot vs d.store) q.0 _)),
    )

-- and so it is found there
last_back : (types : List Ty) (vs : List ℕ) (front store : List ℤ) → Good types store
    → last_snapshot types vs (front ++ snapshot vs store) ≡ accepted (record { values = snapshot vs store; rest = [] })
unfolding last_snapshot
last_back types vs front store good =
    let size : length (snapshot vs store) ≡ length vs = length_snapshot vs store in
    let whole : length (front ++ snapshot vs store) ≡ length front + length vs
    = length-append front (snapshot vs store) ∙ ap (λ (n : ℕ). length front + n) size in
    let fits : leb (length vs) (length front + length vs) ≡ true = le-leb (length vs) (length front + length vs) (omega arith) in
    let behind : length front + length vs - length vs ≡ length front = omega arith in
    let here : drop (length front) (front ++ snapshot vs store) ≡ snapshot vs store = drop-append_seam front (snapshot vs store) in
    rw (whole, fits, behind, here) (ap (read_snapshot types vs) (sym (append-nil (snapshot vs store))) ∙ read_back types vs store [] good)

-- ---- the iterations

-- a store that was kept is as fine as the one before
pub fine_end : {types : List Ty} {vs : List ℕ} {store : List ℤ} (end : List ℤ) → Fine types store → Kept types vs store end → Fine types end
fine_end end fine k = record { long = k.long ∙ fine.long; good = k.good }

module _ (types : List Ty) (vs : List ℕ) (run : ℕ → List ℤ → Outcome Done) (visit : ℕ → List ℤ → List ℤ → Outcome Visited)
    (keeps : Keeps types vs run) (goes : Goes vs run)
    (follows : (left₀ : ℕ) → left₀ ≤ 1_000_000 → (old : List ℤ) → Fine types old → Holds
    (λ d. (new : List ℤ) → Fine types new → (rest : List ℤ) (left : ℕ)
    → Alike (Step types d rest) (run left new) (visit left (difference types new old) (d.words ++ rest)))
    (run left₀ old)) where
  -- where the walk stands before the iterations whose old words these are
  abbrev turn : List ℤ → List ℤ → ℕ → List ℤ → Turn
  turn old new left words = record {
    left = left;
    changes = difference types new old;
    old = snapshot vs old;
    new = snapshot vs new;
    rest = words;
  }

  -- of the end d of k iterations from the old store: the loop follows however many iterations the new run has
  abbrev Loops : ℕ → List ℤ → Done → Type 0
  Loops k old d = (k' : ℕ) (new : List ℤ) → Fine types new → (left : ℕ)
      → Alike (Part types d) (iterate run vs k' left new) (loop types visit run vs k k' (turn old new left d.words))

  -- further iterations, run fresh
  grown_part : (old new : List ℤ) → Fine types old → Fine types new → (e f : Done) → Kept types vs new e.store → Same vs e f
      → Part types (record { store = old; steps = 0; words = [] }) e (record {
        changes = put vs (minus_all types vs (snapshot vs f.store) (snapshot vs old)) (difference types new old);
        counts = all_fresh f.steps;
        words = f.words;
      })
  unfolding all_fresh steps_of
  grown_part old new fine fine' e f k q = record {
    counts = all_fresh f.steps;
    total = omega (arith, q.steps);
    closed = ap₂ {C = Walked} (λ c w. record { changes = c; counts = all_fresh f.steps; words = w })
        (fresh_changes types vs (fine'.long ∙ sym fine.long) k (kept_self types vs old fine.good) q.agree) (sym q.words);
  }

  none_left : (old : List ℤ) → Fine types old → Loops 0 old (record { store = old; steps = 0; words = [] })
  unfolding iterate loop complete grown finished no_steps steps_of
  none_left old fine zero new fine' left = values (record { counts = no_steps; total = refl; closed = refl })
  none_left old fine (suc k') new fine' left =
      alike_then (iterate run vs (suc k') left new) (iterate run vs (suc k') left (put vs (snapshot vs new) (zeros most_variables))) _
      (alike_with (keeps_iterate types vs run vs keeps (suc k') left new fine'.good)
      (goes_iterate vs run vs (λ v m. m) goes (suc k') left new (put vs (snapshot vs new) (zeros most_variables)) (restored types vs new fine'))) λ e f p.
      values (grown_part old new fine fine' e f p.0 p.1)

  -- the iterations that are left, dropped
  dropped_part : (old new : List ℤ) → Fine types old → Fine types new → (d : Done) → Kept types vs old d.store
      → Part types d (record { store = new; steps = 0; words = [] }) (record {
        changes = put vs (minus_all types vs (snapshot vs new) (snapshot vs d.store)) (difference types new old);
        counts = no_steps;
        words = [];
      })
  unfolding no_steps steps_of
  dropped_part old new fine fine' d k = record {
    counts = no_steps;
    total = refl;
    closed = ap {B = Walked} (λ c. record { changes = c; counts = no_steps; words = [] })
        (fresh_changes types vs (fine'.long ∙ sym fine.long) (kept_self types vs new fine'.good) k (record { long = refl; on = λ v m. refl }));
  }

  dropped_follows : (k : ℕ) (old : List ℤ) → Fine types old → (d : Done) → EndsSnapped vs d → Kept types vs old d.store
      → (new : List ℤ) → Fine types new → (left : ℕ)
      → Alike (Part types d) (iterate run vs 0 left new) (loop types visit run vs (suc k) 0 (turn old new left d.words))
  unfolding iterate loop shrunk
  dropped_follows k old fine d end keep new fine' left =
      let here : last_snapshot types vs d.words ≡ accepted (record { values = snapshot vs d.store; rest = [] })
      = ap (last_snapshot types vs) end.1 ∙ last_back types vs end.0 d.store keep.good in
      rw here (values (dropped_part old new fine fine' d keep))

  -- of the end d of k + 1 iterations: the loop follows where the new run has one too
  abbrev Follows : ℕ → List ℤ → Done → Type 0
  Follows k old d = (k' : ℕ) (new : List ℤ) → Fine types new → (left : ℕ)
      → Alike (Part types d) (iterate run vs (suc k') left new) (loop types visit run vs (suc k) (suc k') (turn old new left d.words))

  -- a visited iteration, and then the loop over the rest
  one_turn : (k : ℕ) (old : List ℤ) → Fine types old → (d : Done)
      → ((new : List ℤ) → Fine types new → (rest : List ℤ) (left : ℕ)
      → Alike (Step types d rest) (run left new) (visit left (difference types new old) (d.words ++ rest)))
      → Kept types vs old d.store → (r : Done) → Loops k d.store r
      → Follows k old (record { store = r.store; steps = d.steps + r.steps; words = d.words ++ (snapshot vs d.store ++ r.words) })
  unfolding iterate loop
  one_turn k old fine d visits keep r loops k' new fine' left =
      alike_bind (run left new) (visit left (difference types new old) (d.words ++ (snapshot vs d.store ++ r.words))) _ _
      (alike_with (keeps left new fine'.good) (visits new fine' (snapshot vs d.store ++ r.words) left)) λ d' b p.
      let long : length d'.store ≡ length d.store = p.0.long ∙ fine'.long ∙ sym fine.long ∙ sym keep.long in
      rw (p.1.closed, read_back types vs d.store r.words keep.good, move_on types vs d'.store d.store long keep.good p.0.good, p.1.total)
      (alike_bind (iterate run vs k' (left - d'.steps) d'.store) (loop types visit run vs k k' (turn d.store d'.store (left - d'.steps) r.words)) _ _
      (loops k' d'.store (fine_end d'.store fine' p.0) (left - d'.steps)) λ r' w q.
      rw q.closed
      (values (record {
        counts = both p.1.counts q.counts;
        total = sum_of_both p.1.counts q.counts d'.steps r'.steps p.1.total q.total;
        closed = refl;
      })))

  whole : (k : ℕ) (old : List ℤ) → Fine types old → (d : Done) → EndsSnapped vs d → Kept types vs old d.store → Follows k old d → Loops (suc k) old d
  whole k old fine d end keep h zero new fine' left = dropped_follows k old fine d end keep new fine' left
  whole k old fine d end keep h (suc k') new fine' left = h k' new fine' left

  pub loop_follows : (k : ℕ) (left₀ : ℕ) → left₀ ≤ 1_000_000 → (old : List ℤ) → Fine types old → Holds (Loops k old) (iterate run vs k left₀ old)
  unfolding iterate
  loop_follows zero left₀ most old fine = value (none_left old fine)
  loop_follows (suc k) left₀ most old fine = holds_map (λ d p. whole k old fine d p.0 p.1.0 p.1.1)
      (holds_both (iterate_snapped run vs k left₀ old)
      (holds_both (keeps_iterate types vs run vs keeps (suc k) left₀ old fine.good)
      (holds_bind (run left₀ old) _ (holds_both (follows left₀ most old fine) (keeps left₀ old fine.good)) λ d p.
      holds_bind (iterate run vs k (left₀ - d.steps) d.store) _
      (loop_follows k (left₀ - d.steps) (omega arith) d.store (fine_end d.store fine p.1)) λ r q.
      value (one_turn k old fine d p.0 p.1 r q))))
