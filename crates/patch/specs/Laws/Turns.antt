-- Laws of walks taken apart: a loop is the iterations that stay and then the rest; an if is its head and then a branch; a repeat is its
-- head and then the loop.
-- Assumes nothing.
use Rattle.std.specs.Prelude.{◌≡◌, ℤ, pos}
use Rattle.std.proofs.Math.Path.{refl, sym, ap, ap₂}
use Rattle.std.proofs.Common.{◌∙◌, zero-add}
use Prim.Native.Nat.{ℕ, zero, suc, ◌+◌, ◌-◌}
use native.Mathlib.Omega.{arith}
use mathlib.Core.List.{List, [], ◌++◌, append_assoc}
use Rattle.numbers.specs.Signed.{eq_z}
use Rattle.rules.specs.Outcome.{accepted, refused, ◌>>=◌, choose}
use Rattle.rules.specs.Outcome as Paper
use Rattle.rules.specs.Value.{Ty}
use Rattle.rules.specs.Tree.{Expression, Statement, if, repeat, mentions}
use Rattle.rules.specs.Run.{Done, holds, run}
use Rattle.rules.specs.Patch.{Visited, Walked, Counts, Turn, Fork, no_steps, both, steps_of, read_in, read_snapshot, moved_all, moved, shift, kept, flipped, loop, visit, walk}
use Rattle.rules.proofs.Laws.Outcome.{bind_assoc, bind_same}
use Rattle.pieces.specs.Snapshot.{patched}
use Rattle.pieces.specs.Expression.{operand_of}
use Rattle.patch.specs.Head.{head_of}
use Rattle.patch.specs.Branch.{fork_of}
use Rattle.patch.specs.Loop.{Turned, turn_of, turns_of, count_of, repeated}

-- ---- the iterations that stay, and then the rest

-- iterations that stayed, and what came behind them
abbrev pub joined : Turned → Walked → Walked
joined a w = record { changes = w.changes; counts = both a.counts w.counts; words = a.words ++ w.words }

both_none : (c : Counts) → c ≡ both no_steps c
unfolding both no_steps
both_none c = rw (zero-add c.walked, zero-add c.reused, zero-add c.fresh) refl

-- three parts are joined from either side
pub both_assoc : (c d e : Counts) → both c (both d e) ≡ both (both c d) e
unfolding both
both_assoc c d e =
    let w : c.walked + (d.walked + e.walked) ≡ c.walked + d.walked + e.walked = omega arith in
    let r : c.reused + (d.reused + e.reused) ≡ c.reused + d.reused + e.reused = omega arith in
    let f : c.fresh + (d.fresh + e.fresh) ≡ c.fresh + d.fresh + e.fresh = omega arith in
    rw (w, r, f) refl

joined_none : (t : Turn) (m : Paper.Outcome Walked) → m ≡ (m >>= λ w. accepted (joined (record { turn = t; counts = no_steps; words = [] }) w))
joined_none t (refused q) = refl
joined_none t (accepted w) = ap (λ (c : Counts). accepted (record { changes = w.changes; counts = c; words = w.words })) (both_none w.counts)

module _ (types : List Ty) (body : ℕ → List ℤ → List ℤ → Paper.Outcome Visited) (fresh : ℕ → List ℤ → Paper.Outcome Done) (vs : List ℕ) where
  -- one iteration of the loop is one turn
  loop_turn : (k k' : ℕ) (t : Turn) → loop types body fresh vs (suc k) (suc k') t
      ≡ (turn_of types body vs t >>= λ a. loop types body fresh vs k k' a.turn >>= λ w. accepted (joined a w))
  unfolding loop turn_of patched
  loop_turn k k' t =
      sym (bind_assoc (body t.left t.changes t.rest) _ _
      ∙ bind_same (body t.left t.changes t.rest) _ _ (λ b.
      bind_assoc (patched types vs b.changes b.rest) _ _
      ∙ bind_assoc (read_snapshot types vs b.rest) _ _
      ∙ bind_same (read_snapshot types vs b.rest) _ _ (λ o.
      bind_assoc (moved_all types vs o.values b.changes) _ _
      ∙ bind_same (moved_all types vs o.values b.changes) _ _ (λ new.
      bind_same (loop types body fresh vs k k' (record { left = t.left - steps_of b.counts; changes = b.changes; old = o.values; new = new; rest = o.rest })) _ _ (λ w.
      ap (λ (ws : List ℤ). accepted (record { changes = w.changes; counts = both b.counts w.counts; words = ws }))
      (append_assoc b.words new w.words))))))

  pub loop_turns : (n k k' : ℕ) (t : Turn) → loop types body fresh vs (n + k) (n + k') t
      ≡ (turns_of types body vs n t >>= λ a. loop types body fresh vs k k' a.turn >>= λ w. accepted (joined a w))
  unfolding turns_of
  loop_turns zero k k' t =
      let e : 0 + k ≡ k = omega arith in
      let f : 0 + k' ≡ k' = omega arith in
      ap₂ {C = Paper.Outcome Walked} (λ (i j : ℕ). loop types body fresh vs i j t) e f ∙ joined_none t (loop types body fresh vs k k' t)
  loop_turns (suc n) k k' t =
      let e : suc n + k ≡ suc (n + k) = omega arith in
      let f : suc n + k' ≡ suc (n + k') = omega arith in
      ap₂ {C = Paper.Outcome Walked} (λ (i j : ℕ). loop types body fresh vs i j t) e f
      ∙ loop_turn (n + k) (n + k') t
      ∙ bind_same (turn_of types body vs t) _ _ (λ a.
      ap (λ (m : Paper.Outcome Walked). m >>= λ w. accepted (joined a w)) (loop_turns n k k' a.turn)
      ∙ behind a (turns_of types body vs n a.turn))
      ∙ sym (bind_assoc (turn_of types body vs t) _ _)
    where
      last : (a c : Turned) (m : Paper.Outcome Walked) → ((m >>= λ w. accepted (joined c w)) >>= λ w. accepted (joined a w))
          ≡ (m >>= λ w. accepted (joined (record { turn = c.turn; counts = both a.counts c.counts; words = a.words ++ c.words }) w))
      last a c (refused q) = refl
      last a c (accepted w) = ap₂ {C = Paper.Outcome Walked} (λ (n : Counts) (ws : List ℤ). accepted (record { changes = w.changes; counts = n; words = ws }))
          (both_assoc a.counts c.counts w.counts) (sym (append_assoc a.words c.words w.words))

      behind : (a : Turned) (m : Paper.Outcome Turned)
          → ((m >>= λ c. loop types body fresh vs k k' c.turn >>= λ w. accepted (joined c w)) >>= λ w. accepted (joined a w))
          ≡ ((m >>= λ c. accepted (record { turn = c.turn; counts = both a.counts c.counts; words = a.words ++ c.words })) >>= λ c. loop types body fresh vs k k' c.turn >>= λ w. accepted (joined c w))
      behind a (refused q) = refl
      behind a (accepted c) = last a c (loop types body fresh vs k k' c.turn)

-- ---- an if: its head, and then a branch

abbrev pub branch_of : List Ty → Statement → Statement → Fork → Paper.Outcome Walked
branch_of types a b f = choose (eq_z f.test.change (pos 0))
    (kept types (choose (holds f.condition) (visit a (walk types a)) (visit b (walk types b))))
    (flipped types (choose (holds f.condition) (run b) (run a))) f

pub walk_if : (types : List Ty) (n : ℕ) (e : Expression) (a b : Statement) (left : ℕ) (changes ws : List ℤ)
    → walk types (if n e a b) left changes ws ≡ (fork_of types (mentions (if n e a b)) e left changes ws >>= branch_of types a b)
unfolding walk fork_of head_of patched
walk_if types n e a b left changes ws =
    let vs = mentions (if n e a b) in
    sym (bind_assoc (head_of types Ty.truth vs changes ws) _ _
    ∙ bind_assoc (read_in Ty.truth ws) _ _
    ∙ bind_same (read_in Ty.truth ws) _ _ (λ w.
    bind_assoc (patched types vs changes w.rest) _ _
    ∙ bind_assoc (read_snapshot types vs w.rest) _ _
    ∙ bind_same (read_snapshot types vs w.rest) _ _ (λ s.
    bind_assoc (moved_all types vs s.values changes) _ _
    ∙ bind_same (moved_all types vs s.values changes) _ _ (λ new.
    bind_assoc (read_snapshot types vs s.rest) _ _
    ∙ bind_same (read_snapshot types vs s.rest) _ _ (λ r.
    bind_assoc (shift e changes r.rest) _ _)))))

-- ---- a repeat: its head, and then the loop

pub walk_repeat : (types : List Ty) (n : ℕ) (e : Expression) (b : Statement) (left : ℕ) (changes ws : List ℤ)
    → walk types (repeat n e b) left changes ws
    ≡ (count_of types (mentions (repeat n e b)) e changes ws >>= λ c. repeated types (mentions (repeat n e b)) b c left changes)
unfolding walk count_of head_of patched operand_of repeated
walk_repeat types n e b left changes ws =
    let vs = mentions (repeat n e b) in
    sym (bind_assoc (head_of types Ty.number vs changes ws) _ _
    ∙ bind_assoc (read_in Ty.number ws) _ _
    ∙ bind_same (read_in Ty.number ws) _ _ (λ w.
    bind_assoc (patched types vs changes w.rest) _ _
    ∙ bind_assoc (read_snapshot types vs w.rest) _ _
    ∙ bind_same (read_snapshot types vs w.rest) _ _ (λ s.
    bind_assoc (moved_all types vs s.values changes) _ _
    ∙ bind_same (moved_all types vs s.values changes) _ _ (λ new.
    bind_assoc (operand_of e w.word changes s.rest) _ _
    ∙ bind_assoc (shift e changes s.rest) _ _
    ∙ bind_same (shift e changes s.rest) _ _ (λ x.
    bind_assoc (moved Ty.number w.word x.change) _ _)))))
