-- So many iterations that stay, one behind another: the loop's invariant is what they have come to, and that the whole goes on with the
-- iterations that are left.
-- Assumes nothing.
use mathlib.Core.Path.{◌≡◌, refl, sym, ap, ap₂, ◌∙◌, subst}
use Prim.Native.Nat.{ℕ, suc, ◌+◌, ◌-◌, ◌≤◌, ◌<◌}
use native.Mathlib.Omega.{arith}
use native.Mathlib.Nat.{zero-add, add-zero}
use mathlib.Core.Bool.{false}
use mathlib.Core.List.{List, [], ◌++◌, append_assoc, append-nil}
use lib.Dec.{eqb}
use lib.ListN.{length}
use lib.IntN.{ℤ}
use borrow.Author.Tests.{ne_eqb}
use Rattle.patch.specs.Statement.{listed}
use Rattle.std.specs.Prelude.{Result, Ok, Err}
use Rattle.numbers.specs.Lay.{lay}
use Rattle.rules.specs.Outcome.{accepted, refused, ◌>>=◌}
use Rattle.rules.specs.Outcome as Paper
use Rattle.rules.specs.Value.{Ty}
use Rattle.rules.specs.Table.{types_of}
use Rattle.rules.specs.Patch.{Visited, Counts, Turn, no_steps, both, steps_of, visit, walk}
use Rattle.table.specs.Agrees.{Accepts, accepts, agrees_ok, handed_up}
use Rattle.table.specs.declared.answer.Refusal.{Refusal}
use Rattle.table.specs.declared.script.Script.{Script}
use Rattle.pieces.specs.Entry.{Sound}
use Rattle.patch.specs.Loop.{Turned, turn_of, turns_of, turn_at, behind, LastAt, Turnable, TurnCame, last_of, TurnAs, TurnTo, TurnsTo}
use Rattle.patch.specs.Laws.Turns.{both_assoc}
use Rattle.pieces.specs.declared.entry.Reached.{Reached}
use Rattle.patch.proofs.Walks.{came_then}
use Rattle.patch.proofs.Nodes.{for_tree}

-- ---- some iterations, and those that are left

abbrev none : Turn → Turned
none t = record { turn = t; counts = no_steps; words = [] }

behind_none : (t : Turn) (m : Paper.Outcome Turned) → m ≡ (m >>= λ a. accepted (behind (none t) a))
unfolding both no_steps
behind_none t (refused q) = refl
behind_none t (accepted a) =
    ap {B = Paper.Outcome Turned} (λ (c : Counts). accepted (record { turn = a.turn; counts = c; words = a.words })) (counts a.counts)
  where
    counts : (c : Counts) → c ≡ record { walked = 0 + c.walked; reused = 0 + c.reused; fresh = 0 + c.fresh }
    counts c = rw (zero-add c.walked, zero-add c.reused, zero-add c.fresh) refl

behind_turn : (d a : Turned) (m : Paper.Outcome Turned)
    → ((m >>= λ c. accepted (behind a c)) >>= λ c. accepted (behind d c)) ≡ (m >>= λ c. accepted (behind (behind d a) c))
behind_turn d a (refused q) = refl
behind_turn d a (accepted c) = ap₂ {C = Paper.Outcome Turned} (λ (n : Counts) (ws : List ℤ). accepted (record { turn = c.turn; counts = n; words = ws }))
    (both_assoc d.counts a.counts c.counts) (sym (append_assoc d.words a.words c.words))

module _ {script : Script} {node body : ℕ} {old : List ℤ} {end : ℕ} {s : Reached}
    (h : Turnable script node body old end s) (count : ℕ) (out : List ℤ) where
  abbrev vs : List ℕ
  vs = listed script node

  abbrev types : List Ty
  types = types_of script.checked.table.now

  abbrev body_of : ℕ → List ℤ → List ℤ → Paper.Outcome Visited
  body_of = visit h.bodied.tree (walk types h.bodied.tree) false

  -- so many iterations have come to this, from a turn whose last old snapshot stands at `first`
  pub record Iterated (i : ℕ) (r : Reached) (now : List ℤ) (first : ℕ) (was new : List ℤ) : Type 0 where
    pub done : Turned
    pub came : TurnCame script node (last_of i first r.from (length vs)) done s r old end out now
    pub goes_on : (m : ℕ) → i + m ≡ count → turns_of types body_of vs count (turn_at s old end was new)
        ≡ (turns_of types body_of vs m done.turn >>= λ a. accepted (behind done a))

  -- the invariant of the loop
  pub record SoFar (i : ℕ) (r : Reached) (now : List ℤ) : Type 0 where
    pub sound : Sound old end r
    pub each : (first : ℕ) (was new : List ℤ) → LastAt script node old first (turn_at s old end was new) → Iterated i r now first was new

  pub so_far_none : SoFar 0 s out
  unfolding lay no_steps steps_of
  so_far_none = record { sound = h.sound; each = start }
    where
      start : (first : ℕ) (was new : List ℤ) → LastAt script node old first (turn_at s old end was new) → Iterated 0 s out first was new
      start first was new last =
          let t = turn_at s old end was new in
          let leaves : s.left + 0 ≡ s.left = omega arith in
          let stays : s.from ≤ s.from = omega arith in
          record {
            done = none t;
            came = record {
              came = record {
                sound = h.sound;
                changes = refl;
                leaves = leaves;
                walks = sym (add-zero s.walked);
                reuses = sym (add-zero s.reused);
                rest = refl;
                onward = stays;
                ends = sym (add-zero s.at);
                lays = refl;
              };
              left = refl;
              lastly = last;
            };
            goes_on = λ m e.
                let same : count ≡ m = omega arith in
                ap (λ (n : ℕ). turns_of types body_of vs n t) same ∙ behind_none t (turns_of types body_of vs m t);
          }

  each_tree : (r : Result Reached Refusal) (now : List ℤ)
      → ((first : ℕ) (was new : List ℤ) → LastAt script node old first (turn_at s old end was new) → TurnAs script node count first (turns_of types body_of vs count (turn_at s old end was new)) s r old end out now)
      → TurnsTo script node body count old end s r out now
  each_tree r now w = for_tree h.bodied
      (λ t. (first : ℕ) (was new : List ℤ) → LastAt script node old first (turn_at s old end was new)
      → TurnAs script node count first (turns_of types (visit t (walk types t) false) vs count (turn_at s old end was new)) s r old end out now) w

  module _ {i : ℕ} {r : Reached} {now : List ℤ} (so : SoFar i r now) where
    pub turns_all : i ≡ count → TurnsTo script node body count old end s (Ok r) out now
    unfolding turns_of both no_steps
    turns_all all = each_tree (Ok r) now λ first was new last.
        let it = so.each first was new last in
        let a = it.done in
        let none_left : i + 0 ≡ count = omega arith in
        agrees_ok (it.goes_on 0 none_left ∙ nothing_more a)
        (subst (λ (n : ℕ). TurnCame script node (last_of n first r.from (length vs)) a s r old end out now) all it.came)
      where
        counts : (c : Counts) → record { walked = c.walked + 0; reused = c.reused + 0; fresh = c.fresh + 0 } ≡ c
        counts c = rw (add-zero c.walked, add-zero c.reused, add-zero c.fresh) refl

        nothing_more : (a : Turned) → accepted (record { turn = a.turn; counts = record { walked = a.counts.walked + 0; reused = a.counts.reused + 0; fresh = a.counts.fresh + 0 }; words = a.words ++ [] }) ≡ accepted a
        nothing_more a = ap₂ {C = Paper.Outcome Turned} (λ (c : Counts) (ws : List ℤ). accepted (record { turn = a.turn; counts = c; words = ws }))
            (counts a.counts) (append-nil a.words)

    pub again_turnable : Turnable script node body old end r
    again_turnable = record { known = h.known; bodied = h.bodied; within = h.within; sound = so.sound }

    module _ (below : i < count) {u : Result Reached Refusal} {one : List ℤ} (p : TurnTo script node body old end r u now one) where
      -- the turn that the walk stands at is the one that the iterations came to
      same_turn : (a : Turned) (last : ℕ) → TurnCame script node last a s r old end out now → turn_at r old end a.turn.old a.turn.new ≡ a.turn
      same_turn a last c = rw (← c.left, c.came.changes, ← c.came.rest) refl

      next : {first : ℕ} {was new : List ℤ} (it : Iterated i r now first was new)
          → TurnAs script node 1 0 (turn_of types body_of vs it.done.turn) r u old end now one
      next it = subst (λ (t : Turn). TurnAs script node 1 0 (turn_of types body_of vs t) r u old end now one)
          (same_turn it.done _ it.came)
          (p h.bodied.tree h.bodied.here it.done.turn.old it.done.turn.new)

      pub again_refused : {q : Refusal} → u ≡ Err q → (final : List ℤ) → TurnsTo script node body count old end s (Err q) out final
      unfolding turns_of
      again_refused {q} stops final = each_tree (Err q) final λ first was new last.
          let it = so.each first was new last in
          let more : i + suc (count - suc i) ≡ count = omega arith in
          subst (λ (m : Paper.Outcome Turned). TurnAs script node count first m s (Err q) old end out final) (sym (it.goes_on (suc (count - suc i)) more))
          (handed_up {B = Reached} (λ a. accepted (behind it.done a))
          (handed_up {Q = λ a to. Unit {0}} (λ a. turns_of types body_of vs (count - suc i) a.turn >>= λ b. accepted (behind a b)) (next it) stops) refl)

      module _ {x : Reached} (goes : u ≡ Ok x) where
        step : {first : ℕ} {was new : List ℤ} (it : Iterated i r now first was new) → Iterated (i + 1) x one first was new
        unfolding turns_of
        step {first} it =
            let d = it.done in
            let a = accepts (next it) goes in
            let positive : eqb (i + 1) 0 ≡ false = ne_eqb (i + 1) 0 (λ e. omega arith) in
            let place : x.from - length vs ≡ last_of (i + 1) first x.from (length vs) = rw positive refl in
            record {
              done = behind d a.value;
              came = record {
                came = came_then it.came.came a.holds.came;
                left = a.holds.left;
                lastly = subst (λ (n : ℕ). LastAt script node old n a.value.turn) place a.holds.lastly;
              };
              goes_on = λ m e.
                  let more : i + suc m ≡ count = omega arith in
                  it.goes_on (suc m) more
                  ∙ ap (λ (o : Paper.Outcome Turned). (o >>= λ c. turns_of types body_of vs m c.turn >>= λ f. accepted (behind c f)) >>= λ f. accepted (behind d f)) a.comes
                  ∙ behind_turn d a.value (turns_of types body_of vs m a.value.turn);
            }

        -- what it has come to, whatever the last snapshots are
        any : Accepts (λ a to. TurnCame script node (to.from - length vs) a r to old end now one) (turn_of types body_of vs (turn_at r old end [] [])) x
        any = accepts (p h.bodied.tree h.bodied.here [] []) goes

        pub again_done : SoFar (i + 1) x one
        again_done = record {
          sound = any.holds.came.sound;
          each = λ first was new last. step (so.each first was new last);
        }
