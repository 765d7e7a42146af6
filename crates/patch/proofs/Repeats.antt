-- A repeat: its head is read, the iterations that stay are patched, the rest follow, and the count's word is set in front; laid in this
-- order, the words are those of the definition.
-- Assumes nothing.
use mathlib.Core.Path.{◌≡◌, refl, sym, ap, ap₂, ◌∙◌, subst}
use Prim.Native.Nat.{ℕ, ◌+◌, ◌-◌, ◌≤◌, min}
use native.Mathlib.Omega.{arith}
use mathlib.Core.Bool.{false}
use mathlib.Core.List.{List, ◌++◌}
use lib.ListN.{length, set, length-append}
use lib.IntN.{ℤ}
use Rattle.std.specs.Prelude.{Result, Ok, Err}
use Rattle.numbers.specs.Lay.{lay, lay_append, set_lay}
use Rattle.rules.specs.Outcome.{accepted, ◌>>=◌}
use Rattle.rules.specs.Outcome as Paper
use Rattle.rules.specs.Value.{Ty, at}
use Rattle.rules.specs.Tree.{Statement, mentions}
use Rattle.rules.specs.Table.{Node as Bytes, types_of}
use Rattle.rules.specs.Run.{times, run, repeat_words}
use Rattle.rules.specs.Patch.{Visited, Walked, Turn, both, steps_of, moved_all, loop, visit, walk}
use Rattle.rules.proofs.Laws.Mentions.{◌⊆◌, repeat_body}
use Rattle.rules.proofs.Laws.Parts.{node_at}
use Rattle.rules.proofs.Laws.Size.{Small}
use Rattle.table.specs.Agrees.{Agrees, Accepts, accepts, handed_up}
use Rattle.table.specs.declared.answer.Refusal.{Refusal}
use Rattle.table.specs.declared.answer.Changes.{Changes}
use Rattle.table.specs.declared.script.Script.{Script}
use Rattle.run.specs.Code.{farthest}
use Rattle.run.specs.Laws.Loops.{repeat_laid, repeat_long}
use Rattle.pieces.specs.Old.{part}
use Rattle.rules.proofs.Laws.Outcome.{accepted_of}
use Rattle.patch.specs.Laws.Turns.{joined, loop_turns}
use Rattle.pieces.specs.Entry.{Sound, Came, whole, WalkAs, AdvancedBy}
use Rattle.patch.specs.Statement.{listed, Node}
use Rattle.patch.specs.Loop.{Counted, Count, count_of, count_laid, repeated, IteratesTo, Turned, turns_of, turn_at, LastAt, Turnable, visited, TurnCame, last_of, TurnsTo, Endable, EndsTo}
use Rattle.pieces.specs.declared.entry.Reached.{Reached}
use Rattle.patch.proofs.Agreed.{agrees_map, agrees_then}
use Rattle.patch.proofs.Walks.{sound_advanced}
use Rattle.patch.proofs.Nodes.{same_tree}
use Rattle.patch.proofs.Counted.{tree_is, vs_are, counted_at, count_inside, width, body_here}

-- the turn that the walk stands at is the one that the iterations came to
pub turn_same : (t : Turn) (r : Reached) (old : List ℤ) (end : ℕ) → t.left ≡ r.left → r.changes.values ≡ t.changes → t.rest ≡ part old r.from end
    → turn_at r old end t.old t.new ≡ t
turn_same t r old end l c e =
    ap₂ {C = Turn} (λ (n : ℕ) (cs : List ℤ). record { left = n; changes = cs; old = t.old; new = t.new; rest = part old r.from end }) (sym l) c
    ∙ ap (λ (ws : List ℤ). record { left = t.left; changes = t.changes; old = t.old; new = t.new; rest = ws }) (sym e)

module _ {script : Script} {node : ℕ} {new : ℤ} {size : ℕ} {old : List ℤ} {end : ℕ} {s : Reached}
    (h : Counted script node new size old end s) where
  abbrev k : Node script node
  k = h.entered.known

  abbrev sound : Sound old end s
  sound = h.entered.sound

  abbrev vs : List ℕ
  vs = listed script node

  abbrev types : List Ty
  types = types_of script.checked.table.now

  abbrev c : Count
  c = h.count

  -- the head ends inside, in the old record and in the new one
  module _ {ws : List ℕ} (wide : ws ≡ vs) where
    pub count_fits : s.from + (1 + length ws + size) ≤ length old
    count_fits = omega (arith, ap length wide, count_inside h, sound.inside.ends)

    pub count_near : s.at + (1 + length ws + size) ≤ farthest
    count_near = omega (arith, count_fits, sound.place)

  abbrev was : ℕ
  was = times c.head.word

  abbrev next : ℕ
  next = times c.count.change

  -- the counts as the code has them
  pub was_is : {i : ℕ} {x : ℤ} → x ≡ at old s.from → i ≡ times x → i ≡ was
  was_is word e = e ∙ ap times (word ∙ sym (counted_at h).word)

  pub next_is : {j : ℕ} {x : ℤ} → x ≡ new → j ≡ times x → j ≡ next
  next_is word e = e ∙ ap times (word ∙ h.is)

  -- ---- from the head to the iterations

  module _ {ws : List ℕ} (wide : ws ≡ vs) {u : Reached} (along : AdvancedBy (1 + length ws + size) s u)
      {top : Bytes} (read : top ≡ node_at script.checked.table.now node) where
    abbrev body : ℕ
    body = top.b

    is : body ≡ (node_at script.checked.table.now node).b
    is = ap (λ (n : Bytes). n.b) read

    step : AdvancedBy (1 + length vs + size) s u
    step = subst (λ (l : List ℕ). AdvancedBy (1 + length l + size) s u) wide along

    abbrev bodied : Node script body
    bodied = record { tree = h.b; here = body_here h is; small = (subst Small (tree_is h) k.small).2; fine = k.fine }

    within : mentions h.b ⊆ mentions k.tree
    within = subst (λ (t : Statement). mentions h.b ⊆ mentions t) (sym (tree_is h)) (repeat_body node h.e h.b)

    pub turns_turnable : Turnable script node body old end u
    turns_turnable = record { known = k; bodied = bodied; within = within; sound = sound_advanced sound step (count_inside h) }

    abbrev start : Turn
    start = turn_at u old end c.head.snap.old c.head.snap.new

    starts : LastAt script node old (s.from + 1) start
    starts = record {
      standing = (counted_at h).first;
      was = (counted_at h).was;
      moved = subst (λ (d : Changes). moved_all types vs c.head.snap.old d.values ≡ accepted c.head.snap.new) (sym step.changes)
          (counted_at h).moved;
    }

    abbrev body_of : ℕ → List ℤ → List ℤ → Paper.Outcome Visited
    body_of = visit h.b (walk types h.b) false

    abbrev stays : Paper.Outcome Turned
    stays = turns_of types body_of vs (min was next) start

    abbrev rest : Turned → Paper.Outcome Walked
    rest a = loop types body_of (run h.b) vs (was - next) (next - was) a.turn

    abbrev shut : Walked → Walked
    shut w = record { changes = w.changes; counts = w.counts; words = repeat_words c.count.change c.head.snap.new c.count.words w.words }

    repeated_is : repeated types vs h.b c s.left s.changes.values
        ≡ ((stays >>= λ a. rest a >>= λ w. accepted (joined a w)) >>= λ w. accepted (shut w))
    unfolding repeated
    repeated_is =
        let place : s.from + 1 + length vs + length c.count.words ≡ u.from = omega (arith, step.from, h.size) in
        let one : was ≡ min was next + (was - next) = omega arith in
        let two : next ≡ min was next + (next - was) = omega arith in
        ap (λ (m : Paper.Outcome Walked). m >>= λ w. accepted (shut w))
        (ap₂ {C = Paper.Outcome Walked} (λ (n : ℕ) (d : Changes). loop types body_of (run h.b) vs was next (record { left = n; changes = d.values; old = c.head.snap.old; new = c.head.snap.new; rest = c.count.rest }))
        (sym step.left) (sym step.changes)
        ∙ ap (λ (ws : List ℤ). loop types body_of (run h.b) vs was next (record { left = u.left; changes = u.changes.values; old = c.head.snap.old; new = c.head.snap.new; rest = ws }))
        ((counted_at h).count.rest ∙ ap (λ (p : ℕ). part old p end) place)
        ∙ ap₂ {C = Paper.Outcome Walked} (λ (i j : ℕ). loop types body_of (run h.b) vs i j start) one two
        ∙ loop_turns types body_of (run h.b) vs (min was next) (was - next) (next - was) start)

    -- ---- every way to know the node's repeat is this one

    abbrev repeat_of : List ℤ → (List ℕ → Statement → Count → List ℤ → Type 0) → Statement → Type 0
    repeat_of out Q (Statement.repeat n e b) = (d : Count) → count_of types (mentions (Statement.repeat n e b)) e s.changes.values
        (part old s.from end) ≡ accepted d
        → new ≡ d.count.change → (out₀ : List ℤ) → out ≡ count_laid (mentions (Statement.repeat n e b)) out₀ s.at d
        → Q (mentions (Statement.repeat n e b)) b d out₀
    repeat_of out Q (Statement.skip n) = Unit {0}
    repeat_of out Q (Statement.assign n v e) = Unit {0}
    repeat_of out Q (Statement.sequence n a b) = Unit {0}
    repeat_of out Q (Statement.if n e a b) = Unit {0}

    each : (out final : List ℤ) (x : Result Reached Refusal)
        → ((out₀ : List ℤ) → out ≡ count_laid vs out₀ s.at c → WalkAs ((stays >>= λ a. rest a >>= λ w. accepted (joined a w)) >>= λ w. accepted (shut w)) s x old end out₀ final)
        → IteratesTo script node new old end s x out final
    each out final x w n e b here = subst (repeat_of out (λ ws b d out₀. WalkAs (repeated types ws b d s.left s.changes.values) s x old end out₀ final)) (same_tree h.here here) own
      where
        own : repeat_of out (λ ws b d out₀. WalkAs (repeated types ws b d s.left s.changes.values) s x old end out₀ final)
            (Statement.repeat node h.e h.b)
        own d g same out₀ laid =
            let is : c ≡ d = accepted_of (sym h.counts ∙ g) in
            subst (λ (f : Count). WalkAs (repeated types (mentions (Statement.repeat node h.e h.b)) h.b f s.left s.changes.values) s x old end out₀ final) is
            (subst (λ (ws : List ℕ). WalkAs (repeated types ws h.b c s.left s.changes.values) s x old end out₀ final) (vs_are h)
            (subst (λ (m : Paper.Outcome Walked). WalkAs m s x old end out₀ final) (sym repeated_is)
            (w out₀ (laid ∙ ap₂ {C = List ℤ} (λ (ws : List ℕ) (f : Count). count_laid ws out₀ s.at f) (sym (vs_are h)) (sym is)))))

    module _ {i j stay : ℕ} (iw : i ≡ was) (jn : j ≡ next) (few : stay ≡ min i j) {r : Result Reached Refusal} {out one : List ℤ}
        (p : TurnsTo script node body stay old end u r out one) where
      -- where the last snapshot stands behind the iterations that stay, and what these came to
      abbrev lastly_from : Reached → ℕ
      lastly_from to = last_of stay (s.from + 1) to.from (length vs)

      turned : Agrees (λ a to. TurnCame script node (lastly_from to) a u to old end out one) stays r
      turned = subst (λ (n : ℕ). Agrees (λ a to. TurnCame script node (lastly_from to) a u to old end out one) (turns_of types body_of vs n start) r) (few ∙ ap₂ {C = ℕ} min iw jn)
          (p h.b (body_here h is) (s.from + 1) c.head.snap.old c.head.snap.new starts)

      pub iterate_refused : {q : Refusal} → r ≡ Err q → (final : List ℤ) → IteratesTo script node new old end s (Err q) out final
      iterate_refused {q} stops final = each out final (Err q) λ out₀ laid. handed_up (λ w. accepted (shut w))
          (handed_up {Q = λ w to. Came (whole w) u to old end out one} (λ a. rest a >>= λ w. accepted (joined a w)) turned stops) refl

      module _ {x : Reached} (goes : r ≡ Ok x) where
        went : Accepts (λ a to. TurnCame script node (lastly_from to) a u to old end out one) stays x
        went = accepts turned goes

        abbrev a : Turned
        a = went.value

        abbrev came : Came (visited a) u x old end out one
        came = went.holds.came

        abbrev here : Turn
        here = turn_at x old end a.turn.old a.turn.new

        same_turn : here ≡ a.turn
        same_turn = turn_same a.turn x old end went.holds.left came.changes came.rest

        lastly : {last : ℕ} → last ≡ last_of stay (s.from + 1) x.from (length ws) → LastAt script node old last here
        lastly e = subst (λ (n : ℕ). LastAt script node old n here)
            (sym (e ∙ ap (λ (l : List ℕ). last_of stay (s.from + 1) x.from (length l)) wide))
            (subst (LastAt script node old (lastly_from x)) (sym same_turn) went.holds.lastly)

        -- a snapshot stands before the walk
        pub iterate_behind : length ws ≤ x.from
        iterate_behind = omega (arith, came.onward, along.from)

        pub iterate_endable : {last : ℕ} → last ≡ last_of stay (s.from + 1) x.from (length ws) → Endable script node body last old end x
        iterate_endable e = record {
          turnable = record { known = k; bodied = bodied; within = within; sound = came.sound };
          was = a.turn.old;
          new = a.turn.new;
          lastly = lastly e;
        }

        closes : (w : Walked) (y : Reached) (two final out₀ : List ℤ) → two ≡ set one s.at new → out ≡ count_laid vs out₀ s.at c
            → Came (whole w) x y old end two final
            → Came (whole (shut (joined a w))) s y old end out₀ final
        unfolding both steps_of
        closes w y two final out₀ sets laid d =
            let at_turns : u.at ≡ s.at + 1 + length vs + length c.count.words = omega (arith, step.at, h.size) in
            let second : s.at + 1 + length vs ≡ s.at + 1 + length c.head.snap.new = omega (arith, width h) in
            let leaves : y.left + (a.counts.walked + w.counts.walked + (a.counts.reused + w.counts.reused) + (a.counts.fresh + w.counts.fresh)) ≡ s.left
            = omega (arith, d.leaves, came.leaves, step.left) in
            let walks : y.walked ≡ s.walked + (a.counts.walked + w.counts.walked) = omega (arith, d.walks, came.walks, step.walked) in
            let reuses : y.reused ≡ s.reused + (a.counts.reused + w.counts.reused) = omega (arith, d.reuses, came.reuses, step.reused) in
            let onward : s.from ≤ y.from = omega (arith, d.onward, came.onward, step.from) in
            let words = a.words ++ w.words in
            let ends : y.at ≡ s.at + length (repeat_words c.count.change c.head.snap.new c.count.words words)
            = omega (arith, d.ends, came.ends, at_turns, width h, length-append a.words w.words, repeat_long c.count.change c.head.snap.new c.count.words words) in
            let turns : final ≡ lay (set out s.at new) u.at words
            = d.lays
            ∙ ap₂ {C = List ℤ} (λ (l : List ℤ) (i : ℕ). lay l i w.words)
            (sets ∙ ap (λ (l : List ℤ). set l s.at new) came.lays ∙ set_lay out s.at u.at new a.words (omega (arith, step.at))) came.ends
            ∙ sym (lay_append (set out s.at new) u.at a.words w.words) in
            record {
              sound = d.sound;
              changes = d.changes;
              leaves = leaves;
              walks = walks;
              reuses = reuses;
              rest = d.rest;
              onward = onward;
              ends = ends;
              lays = turns
                  ∙ ap₂ {C = List ℤ} (λ (l : List ℤ) (z : ℤ). lay (set l s.at z) u.at words) laid h.is
                  ∙ repeat_laid out₀ c.head.snap.new c.count.words words c.count.change s.at (s.at + 1 + length vs) u.at second at_turns;
            }

        pub iterate_answer : {last : ℕ} → last ≡ last_of stay (s.from + 1) x.from (length ws) → (y : Result Reached Refusal) (two final : List ℤ)
            → two ≡ set one s.at new → EndsTo script node body (i - j) (j - i) last old end x y two final → IteratesTo script node new old end s y out final
        iterate_answer e y two final sets g = each out final y λ out₀ laid.
            agrees_map shut (λ w comes z d. d) (agrees_then (λ b. rest b >>= λ w. accepted (joined b w)) went.comes
            (agrees_map {Q = λ w z. Came (whole (shut w)) s z old end out₀ final} (joined a) (λ w comes z d. closes w z two final out₀ sets laid d)
            (subst (λ (t : Turn). WalkAs (loop types body_of (run h.b) vs (was - next) (next - was) t) x y old end two final) same_turn
            (subst (λ (n : ℕ). WalkAs (loop types body_of (run h.b) vs (was - n) (n - was) here) x y old end two final) jn
            (subst (λ (n : ℕ). WalkAs (loop types body_of (run h.b) vs (n - j) (j - n) here) x y old end two final) iw
            (g h.b (body_here h is) a.turn.old a.turn.new (lastly e)))))))
