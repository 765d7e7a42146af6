-- The counts of every call are words: the steps of an accepted run or patch are within its limit, so at most 1,000,000, and its
-- record is within the room.
-- The proof follows the patch's definition: what a visit, or a walk through an entry's parts, has paid for is within the steps that
-- were left when it began.
-- Assumes nothing.
use Rattle.std.specs.Prelude.{◌≡◌, refl, Bool, List, length, leb, ℤ, pos, nat_abs}
use Prim.Native.Nat.{ℕ, zero, suc, ◌+◌, ◌-◌, ◌*◌, ◌≤◌}
use Rattle.std.proofs.Common.{arith, leb-true}
use Rattle.std.proofs.Math.Bool.{true, false}
use Rattle.std.specs.Int.Signed.{le_z}
use Rattle.numbers.specs.Signed.{eq_z, between}
use Rattle.rules.specs.Outcome.{Refusal, Outcome, accepted, refused, ◌>>=◌, need, choose, store_wrong, limit_wrong, room_short, change_wrong, broken, fuel_spent}
use Rattle.rules.specs.Value.{Ty, unchanged, fit, plus_all, padded}
use Rattle.rules.specs.Tree.{Statement, skip, assign, sequence, if, repeat, mentions, node_of}
use Rattle.rules.specs.Table.{check}
use Rattle.rules.specs.Run.{Done, headed, holds, times, iterate, most_steps, run}
use Rattle.rules.specs.Patch.{steps_of, no_steps, both, one_walked, all_reused, all_fresh, Entry, Visited, Walk, Fork, Turn, read_in, moved, shift, finished, meet, skipped, paid, visit, read_snapshot, moved_all, kept, flipped, last_snapshot, complete, grown, shrunk, loop, walk}
use Rattle.rules.specs.Call.{Finished, within, answered, call_run, call_patch, finish_run, finish_patch, header, legal, limit_of, length_of, steps_in, inputs_of, outputs_of}
use Rattle.rules.proofs.Laws.Outcome.{Holds, value, vacant, holds_here, holds_bind, holds_need, holds_any, holds_if}
use Rattle.rules.proofs.Laws.Entry.{steps_within}
use Rattle.rules.proofs.Laws.Call.{in_limits_lem}
use Rattle.simazokwa.specs.Words.{IsWord, Tellable}

-- ---- what was left when it began is enough

abbrev RunsWithin : (ℕ → List ℤ → Outcome Done) → Type 0
RunsWithin body = (left : ℕ) (store : List ℤ) → Holds (λ d. d.steps ≤ left) (body left store)

abbrev WalksWithin : Walk → Type 0
WalksWithin inside = (left : ℕ) (changes ws : List ℤ) → Holds (λ w. steps_of w.counts ≤ left) (inside left changes ws)

abbrev VisitsWithin : (ℕ → List ℤ → List ℤ → Outcome Visited) → Type 0
VisitsWithin body = (left : ℕ) (changes ws : List ℤ) → Holds (λ v. steps_of v.counts ≤ left) (body left changes ws)

run_within : (s : Statement) → RunsWithin (run s)
run_within s left store = holds_if (run s left store) (steps_within s left store)

iterate_within : (body : ℕ → List ℤ → Outcome Done) (vs : List ℕ) → RunsWithin body → (n : ℕ) → RunsWithin (iterate body vs n)
unfolding iterate
iterate_within body vs h zero left store = holds_here _ (omega arith)
iterate_within body vs h (suc n) left store =
    holds_bind (body left store) _ (h left store) λ d k.
    holds_bind (iterate body vs n (left - d.steps) d.store) _ (iterate_within body vs h n (left - d.steps) d.store) λ r q.
    holds_here _ (omega (arith, k, q))

-- ---- an entry

skipped_within : (e : Entry) (fuel : ℕ) (changes : List ℤ) → Holds (λ v. steps_of v.counts ≤ fuel) (skipped e fuel changes)
unfolding skipped steps_of all_reused
skipped_within e fuel changes =
    holds_need (leb e.steps fuel) fuel_spent _ λ h. holds_here _ (omega (arith, leb-true e.steps fuel h))

paid_within : (node : ℕ) (inside : Walk) → WalksWithin inside → (e : Entry) (fuel : ℕ) (changes : List ℤ)
    → Holds (λ v. steps_of v.counts ≤ fuel) (paid node inside e fuel changes)
unfolding paid steps_of one_walked
paid_within node inside h e zero changes = vacant
paid_within node inside h e (suc left) changes =
    holds_bind (inside left changes e.parts) _ (h left changes e.parts) λ w k. holds_here _ (omega (arith, k))

either_within : (b : Bool) (node : ℕ) (inside : Walk) → WalksWithin inside → (e : Entry) (fuel : ℕ) (changes : List ℤ)
    → Holds (λ v. steps_of v.counts ≤ fuel) (choose b skipped (paid node inside) e fuel changes)
either_within true node inside h e fuel changes = skipped_within e fuel changes
either_within false node inside h e fuel changes = paid_within node inside h e fuel changes

visit_within : (s : Statement) (inside : Walk) → WalksWithin inside → (last : Bool) → VisitsWithin (visit s inside last)
unfolding visit
visit_within s inside h last left changes ws =
    holds_bind (meet (node_of s) last ws) _ (holds_any (meet (node_of s) last ws)) λ e any.
    either_within (unchanged (mentions s) changes) (node_of s) inside h e left changes

-- ---- an entry's parts

chosen_visits : (b : Bool) (one two : Bool → ℕ → List ℤ → List ℤ → Outcome Visited)
    → ((last : Bool) → VisitsWithin (one last)) → ((last : Bool) → VisitsWithin (two last)) → (last : Bool) → VisitsWithin (choose b one two last)
chosen_visits true one two h k = h
chosen_visits false one two h k = k

chosen_runs : (b : Bool) (one two : ℕ → List ℤ → Outcome Done) → RunsWithin one → RunsWithin two → RunsWithin (choose b one two)
chosen_runs true one two h k = h
chosen_runs false one two h k = k

module _ (types : List Ty) where
  kept_within : (branch : Bool → ℕ → List ℤ → List ℤ → Outcome Visited) → ((last : Bool) → VisitsWithin (branch last))
      → (f : Fork) → Holds (λ w. steps_of w.counts ≤ f.left) (kept types branch f)
  unfolding kept
  kept_within branch h f =
      holds_bind (branch true f.left f.changes f.test.rest) _ (h true f.left f.changes f.test.rest) λ b k.
      holds_bind (moved_all types f.vs f.after b.changes) _ (holds_any (moved_all types f.vs f.after b.changes)) λ after any.
      value k

  flipped_within : (branch : ℕ → List ℤ → Outcome Done) → RunsWithin branch → (f : Fork) → Holds (λ w. steps_of w.counts ≤ f.left) (flipped types branch f)
  unfolding flipped steps_of all_fresh
  flipped_within branch h f = holds_bind (branch f.left _) _ (h f.left _) λ d k. holds_here _ (omega (arith, k))

  fork_within : (b : Bool) (patched : Bool → ℕ → List ℤ → List ℤ → Outcome Visited) (fresh : ℕ → List ℤ → Outcome Done)
      → ((last : Bool) → VisitsWithin (patched last)) → RunsWithin fresh
      → (f : Fork) → Holds (λ w. steps_of w.counts ≤ f.left) (choose b (kept types patched) (flipped types fresh) f)
  fork_within true patched fresh h k f = kept_within patched h f
  fork_within false patched fresh h k f = flipped_within fresh k f

  loop_within : (body : ℕ → List ℤ → List ℤ → Outcome Visited) (fresh : ℕ → List ℤ → Outcome Done) (vs : List ℕ) → VisitsWithin body → RunsWithin fresh
      → (k k' : ℕ) (t : Turn) → Holds (λ w. steps_of w.counts ≤ t.left) (loop types body fresh vs k k' t)
  unfolding loop complete grown shrunk steps_of no_steps all_fresh both
  loop_within body fresh vs h g zero zero t =
      holds_bind (finished t.rest) _ (holds_any (finished t.rest)) λ end any. holds_here _ (omega arith)
  loop_within body fresh vs h g zero (suc more) t =
      holds_bind (finished t.rest) _ (holds_any (finished t.rest)) λ end any.
      holds_bind (iterate fresh vs (suc more) t.left _) _ (iterate_within fresh vs g (suc more) t.left _) λ d k.
      holds_here _ (omega (arith, k))
  loop_within body fresh vs h g (suc dropped) zero t =
      holds_bind (last_snapshot types vs t.rest) _ (holds_any (last_snapshot types vs t.rest)) λ tail any. holds_here _ (omega arith)
  loop_within body fresh vs h g (suc k) (suc k') t =
      holds_bind (body t.left t.changes t.rest) _ (h t.left t.changes t.rest) λ b m.
      holds_bind (read_snapshot types vs b.rest) _ (holds_any (read_snapshot types vs b.rest)) λ old any.
      holds_bind (moved_all types vs old.values b.changes) _ (holds_any (moved_all types vs old.values b.changes)) λ new any'.
      holds_bind (loop types body fresh vs k k' _) _ (loop_within body fresh vs h g k k' _) λ w q.
      holds_here _ (omega (arith, m, q))

  walk_within : (s : Statement) → WalksWithin (walk types s)
  unfolding walk steps_of no_steps both
  walk_within (skip n) left changes ws =
      holds_bind (finished ws) _ (holds_any (finished ws)) λ end any. holds_here _ (omega arith)
  walk_within (assign n v e) left changes ws =
      holds_bind (shift e changes ws) _ (holds_any (shift e changes ws)) λ x any.
      holds_bind (finished x.rest) _ (holds_any (finished x.rest)) λ end any'. holds_here _ (omega arith)
  walk_within (sequence n s t) left changes ws =
      holds_bind (visit s (walk types s) false left changes ws) _ (visit_within s (walk types s) (walk_within s) false left changes ws) λ a m.
      holds_bind (visit t (walk types t) true (left - steps_of a.counts) a.changes a.rest) _
      (visit_within t (walk types t) (walk_within t) true (left - steps_of a.counts) a.changes a.rest) λ b q.
      holds_here _ (omega (arith, m, q))
  walk_within (if n e s t) left changes ws =
      let vs = mentions (if n e s t) in
      holds_bind (read_in Ty.truth ws) _ (holds_any (read_in Ty.truth ws)) λ old any.
      holds_bind (read_snapshot types vs old.rest) _ (holds_any (read_snapshot types vs old.rest)) λ b any'.
      holds_bind (moved_all types vs b.values changes) _ (holds_any (moved_all types vs b.values changes)) λ before any''.
      holds_bind (read_snapshot types vs b.rest) _ (holds_any (read_snapshot types vs b.rest)) λ a any'''.
      holds_bind (shift e changes a.rest) _ (holds_any (shift e changes a.rest)) λ x any''''.
      fork_within (eq_z x.change (pos 0)) (choose (holds old.word) (visit s (walk types s)) (visit t (walk types t)))
      (choose (holds old.word) (run t) (run s))
      (chosen_visits (holds old.word) (visit s (walk types s)) (visit t (walk types t)) (visit_within s (walk types s) (walk_within s)) (visit_within t (walk types t) (walk_within t)))
      (chosen_runs (holds old.word) (run t) (run s) (run_within t) (run_within s)) _
  walk_within (repeat n e s) left changes ws =
      let vs = mentions (repeat n e s) in
      holds_bind (read_in Ty.number ws) _ (holds_any (read_in Ty.number ws)) λ old any.
      holds_bind (read_snapshot types vs old.rest) _ (holds_any (read_snapshot types vs old.rest)) λ b any'.
      holds_bind (moved_all types vs b.values changes) _ (holds_any (moved_all types vs b.values changes)) λ before any''.
      holds_bind (shift e changes b.rest) _ (holds_any (shift e changes b.rest)) λ x any'''.
      holds_bind (moved Ty.number old.word x.change) _ (holds_any (moved Ty.number old.word x.change)) λ count any''''.
      holds_bind (loop types (visit s (walk types s) false) (run s) vs (times old.word) (times count) _) _
      (loop_within (visit s (walk types s) false) (run s) vs (visit_within s (walk types s) (walk_within s) false) (run_within s) (times old.word) (times count) _) λ w q.
      value q

-- ---- a whole call

abbrev Few : Finished → Type 0
Few f = steps_of f.counts ≤ 1_000_000

run_few : (bytes : List ℕ) (inputs : List ℤ) (limit : ℤ) → Holds Few (finish_run bytes inputs limit)
unfolding finish_run steps_of all_fresh
run_few bytes inputs limit =
    holds_bind (check bytes) _ (holds_any (check bytes)) λ p any.
    holds_need (fit p.types inputs) store_wrong _ λ fits.
    holds_need (between (pos 1) most_steps limit) limit_wrong _ λ h.
    holds_bind (run p.root (nat_abs limit) (padded inputs)) _ (run_within p.root (nat_abs limit) (padded inputs)) λ d k.
    holds_here _ (omega (arith, k, (in_limits_lem limit h).2))

header_few : (types : List Ty) (old : List ℤ) → Holds (λ h. h.limit ≤ 1_000_000) (header types old)
unfolding header
header_few types old =
    holds_need (leb (headed + 2 * length types) (length old)) broken _ λ e₁.
    holds_need (le_z (pos (headed + 2 * length types)) (length_of old)) broken _ λ e₂.
    holds_need (le_z (length_of old) (pos (length old))) broken _ λ e₃.
    holds_need (between (pos 1) most_steps (limit_of old)) broken _ λ e₄.
    holds_need (between (pos 1) (limit_of old) (steps_in old)) broken _ λ e₅.
    holds_need (fit types (inputs_of types old)) broken _ λ e₆.
    holds_need (fit types (outputs_of types old)) broken _ λ e₇.
    value (in_limits_lem (limit_of old) e₄).2

patch_few : (bytes : List ℕ) (old changes : List ℤ) → Holds Few (finish_patch bytes old changes)
unfolding finish_patch
patch_few bytes old changes =
    holds_bind (check bytes) _ (holds_any (check bytes)) λ p any.
    holds_bind (header p.types old) _ (header_few p.types old) λ h low.
    holds_need (legal p.types h.inputs changes) change_wrong _ λ e₁.
    holds_bind (visit p.root (walk p.types p.root) true h.limit (padded changes) h.root) _
    (visit_within p.root (walk p.types p.root) (walk_within p.types p.root) true h.limit (padded changes) h.root) λ v k.
    holds_need (fit p.types (plus_all p.types h.outputs v.changes)) broken _ λ e₂.
    holds_here _ (omega (arith, k, low))

refused_tellable : (room : ℕ) (r : Refusal) → Tellable (answered room (refused r)).answer
unfolding answered no_steps
refused_tellable room r = record { steps = omega arith; walked = omega arith; reused = omega arith; fresh = omega arith; words = omega arith }

accepted_tellable : (room : ℕ) → IsWord room → (f : Finished) → Few f → length f.words ≤ room → Tellable (answered room (accepted f)).answer
unfolding answered steps_of
accepted_tellable room small f few fits = record {
  steps = omega (arith, few);
  walked = omega (arith, few);
  reused = omega (arith, few);
  fresh = omega (arith, few);
  words = omega (arith, small, fits);
}

-- the room decides
decided_tellable : (room : ℕ) → IsWord room → (m : Outcome Finished) → Holds Few m → Tellable (answered room (m >>= within room)).answer
unfolding within
decided_tellable room small (refused r) h = refused_tellable room r
decided_tellable room small (accepted f) (value few) = by (leb (length f.words) room) refl
  where
    by : (b : Bool) → leb (length f.words) room ≡ b → Tellable (answered room (need b room_short >>= λ u. accepted f)).answer
    by true e = accepted_tellable room small f few (leb-true (length f.words) room e)
    by false e = refused_tellable room room_short

pub run_tellable : (bytes : List ℕ) (inputs : List ℤ) (limit : ℤ) (room : ℕ) → IsWord room → Tellable (call_run bytes inputs limit room).answer
unfolding call_run
run_tellable bytes inputs limit room small = decided_tellable room small (finish_run bytes inputs limit) (run_few bytes inputs limit)

pub patch_tellable : (bytes : List ℕ) (old changes : List ℤ) (room : ℕ) → IsWord room → Tellable (call_patch bytes old changes room).answer
unfolding call_patch
patch_tellable bytes old changes room small = decided_tellable room small (finish_patch bytes old changes) (patch_few bytes old changes)
