-- Laws of the heads of ifs and repeats: where one is read, what stands in the old record before the walk and how far it has come.
-- Assumes nothing.
use Rattle.patch.specs.Statement.{listed}
use Rattle.std.specs.Prelude.{◌≡◌, refl, ℕ, ◌+◌, ◌*◌, ◌≤◌, ◌<◌, Bool, true, false, ltb, ℤ}
use Rattle.std.proofs.Math.Path.{sym, ap, subst}
use Rattle.std.proofs.Common.{◌∙◌, ⊎_elim, ltb-true, ltb-false}
use native.Mathlib.Omega.{arith}
use mathlib.Core.List.{List}
use Rattle.std.proofs.Math.ListN.{length}
use Rattle.numbers.specs.Laws.{decide}
use Rattle.rules.specs.Outcome.{Refusal, accepted, refused, ◌>>=◌, need}
use Rattle.rules.specs.Outcome as Paper
use Rattle.rules.specs.Value.{Ty, at, in_type}
use Rattle.rules.specs.Tree.{Expression}
use Rattle.rules.specs.Table.{types_of}
use Rattle.rules.specs.Patch.{Read, Shifted, Fork, read, read_in, read_snapshot, moved_all, shift}
use Rattle.rules.proofs.Laws.Outcome.{refused_accepted, accepted_of, through, holds_at}
use Rattle.rules.proofs.Laws.Size.{operations}
use Rattle.table.specs.declared.script.Script.{Script}
use Rattle.pieces.specs.Change.{Near, AllNear}
use Rattle.pieces.specs.Old.{part, Inside}
use Rattle.pieces.specs.Snapshot.{Named, Standing, olds, patched}
use Rattle.pieces.specs.Expression.{operand_of}
use Rattle.patch.specs.Head.{Head, head_of}
use Rattle.patch.specs.Branch.{fork_of}
use Rattle.patch.specs.Loop.{Count, count_of}
use Rattle.pieces.specs.Laws.Old.{part_none, part_next, part_long, part_drop}
use Rattle.pieces.specs.Laws.Snapshot.{ReadAt, read_at, PatchedAt, patched_at}
use Rattle.pieces.specs.Laws.Expression.{Sized, shift_sized, shift_near, operand_sized, operand_number}

-- ---- a word read

pub record WordAt (t : Ty) (old : List ℤ) (from end : ℕ) (w : Read) : Type 0 where
  pub below : from < end
  pub word : w.word ≡ at old from
  pub typed : in_type t (at old from) ≡ true
  pub rest : w.rest ≡ part old (from + 1) end

need_true : (b : Bool) (q : Refusal) (w : Read) (r : Read) → (need b q >>= λ u. accepted w) ≡ accepted r → (b ≡ true) × (r ≡ w)
need_true true q w r e = (refl, sym (accepted_of e))
need_true false q w r e = absurd (refused_accepted e)

pub word_at_lem : (t : Ty) (old : List ℤ) (from end : ℕ) → end ≤ length old → (w : Read) → read_in t (part old from end) ≡ accepted w → WordAt t old from end w
unfolding read_in read
word_at_lem t old from end inside w e = ⊎_elim here past (decide (ltb from end))
  where
    here : ltb from end ≡ true → WordAt t old from end w
    here b =
        let below : from < end = ltb-true from end b in
        let f = need_true (in_type t (at old from)) Paper.broken (record { word = at old from; rest = part old (from + 1) end }) w
        (subst (λ (ws : List ℤ). read_in t ws ≡ accepted w) (part_next old from end below inside) e) in
        record { below = below; word = ap (λ (r : Read). r.word) f.1; typed = f.0; rest = ap (λ (r : Read). r.rest) f.1 }

    past : ltb from end ≡ false → WordAt t old from end w
    past b = absurd (refused_accepted (subst (λ (ws : List ℤ). read_in t ws ≡ accepted w) (part_none old from end (ltb-false from end b)) e))

module _ (script : Script) (node : ℕ) (named : Named script.checked.table.now script.lists.now.lists node) (old : List ℤ) (from end : ℕ) (inside : end ≤ length old) (changes : List ℤ) where
  abbrev vs : List ℕ
  vs = listed script node

  abbrev types : List Ty
  types = types_of script.checked.table.now

  -- the first word, and the snapshot behind it
  pub record HeadAt (t : Ty) (h : Head) : Type 0 where
    pub below : Inside old (from + 1) end
    pub word : h.word ≡ at old from
    pub typed : in_type t h.word ≡ true
    pub snap : PatchedAt script.checked.table.now script.lists.now.lists node named old (from + 1) end below changes h.snap

  pub head_at : (t : Ty) (h : Head) → head_of types t vs changes (part old from end) ≡ accepted h → HeadAt t h
  unfolding head_of
  head_at t h e =
      let one = through (read_in t (part old from end)) _ h e in
      let w = word_at_lem t old from end inside one.value one.comes in
      let two = through (patched types vs changes one.value.rest) _ h one.goes in
      let is : h ≡ record { word = one.value.word; snap = two.value } = sym (accepted_of two.goes) in
      let ordered : from + 1 ≤ end = omega (arith, w.below) in
      let below : Inside old (from + 1) end = record { ordered = ordered; ends = inside } in
      let snap : PatchedAt script.checked.table.now script.lists.now.lists node named old (from + 1) end below changes two.value
      = patched_at script.checked.table.now script.lists.now.lists node named old (from + 1) end below changes two.value (ap (patched types vs changes) (sym w.rest) ∙ two.comes) in
      record {
        below = below;
        word = ap (λ (k : Head). k.word) is ∙ w.word;
        typed = ap (in_type t) (ap (λ (k : Head). k.word) is ∙ w.word) ∙ w.typed;
        snap = subst (λ (k : Head). PatchedAt script.checked.table.now script.lists.now.lists node named old (from + 1) end below changes k.snap) (sym is) snap;
      }

  -- an expression's record behind it, so many words long
  pub record RecordAt (place : ℕ) (e : Expression) (x : Shifted) : Type 0 where
    pub size : length x.words ≡ 2 * operations e
    pub within : place + length x.words ≤ end
    pub rest : x.rest ≡ part old (place + length x.words) end

  pub record_at : (place : ℕ) → place ≤ end → (e : Expression) (x : Shifted) → Sized e (part old place end) x → RecordAt place e x
  record_at place low e x z =
      let within : place + length x.words ≤ end = omega (arith, z.inside, part_long old place end inside) in
      record { size = z.size; within = within; rest = z.rest ∙ part_drop old place end (length x.words) within }

  -- ---- an if's

  pub record ForkAt (e : Expression) (left : ℕ) (f : Fork) : Type 0 where
    pub left_is : f.left ≡ left
    pub changes_are : f.changes ≡ changes
    pub vs_are : f.vs ≡ vs
    pub below : Inside old (from + 1) end
    pub condition : f.condition ≡ at old from
    pub truth : in_type Ty.truth f.condition ≡ true
    pub first : Standing script.checked.table.now script.lists.now.lists node old (from + 1)
    pub moved : moved_all types vs (olds old (from + 1) vs) changes ≡ accepted f.before
    pub second : Standing script.checked.table.now script.lists.now.lists node old (from + 1 + length vs)
    pub after : f.after ≡ olds old (from + 1 + length vs) vs
    pub near : AllNear changes → Near f.test.change
    pub test : RecordAt (from + 1 + 2 * length vs) e f.test

  pub fork_at : (e : Expression) (left : ℕ) (f : Fork) → fork_of types vs e left changes (part old from end) ≡ accepted f → ForkAt e left f
  unfolding fork_of
  fork_at e left f q =
      let one = through (head_of types Ty.truth vs changes (part old from end)) _ f q in
      let h = head_at Ty.truth one.value one.comes in
      let w = length vs in
      let two = through (read_snapshot types vs one.value.snap.rest) _ f one.goes in
      let beyond : Inside old (from + 1 + w) end = record { ordered = h.snap.within; ends = inside } in
      let a : ReadAt script.checked.table.now script.lists.now.lists node named old (from + 1 + w) end beyond two.value
      = read_at script.checked.table.now script.lists.now.lists node named old (from + 1 + w) end beyond two.value (ap (read_snapshot types vs) (sym h.snap.rest) ∙ two.comes) in
      let three = through (shift e changes two.value.rest) _ f two.goes in
      let place : from + 1 + w + w ≡ from + 1 + 2 * w = omega arith in
      let rest : two.value.rest ≡ part old (from + 1 + 2 * w) end = a.rest ∙ ap (λ (p : ℕ). part old p end) place in
      let x : shift e changes (part old (from + 1 + 2 * w) end) ≡ accepted three.value = ap (shift e changes) (sym rest) ∙ three.comes in
      let sized : Sized e (part old (from + 1 + 2 * w) end) three.value = holds_at x (shift_sized e changes (part old (from + 1 + 2 * w) end)) in
      let low : from + 1 + 2 * w ≤ end = omega (arith, a.within) in
      subst (ForkAt e left) (accepted_of three.goes) (record {
        left_is = refl;
        changes_are = refl;
        vs_are = refl;
        below = h.below;
        condition = h.word;
        truth = h.typed;
        first = h.snap.standing;
        moved = ap (λ (ws : List ℤ). moved_all types vs ws changes) (sym h.snap.was) ∙ h.snap.moved;
        second = a.standing;
        after = a.values;
        near = λ n. holds_at x (shift_near e changes (part old (from + 1 + 2 * w) end) n);
        test = record_at (from + 1 + 2 * w) low e three.value sized;
      })

  -- ---- a repeat's

  pub record CountAt (e : Expression) (c : Count) : Type 0 where
    pub below : Inside old (from + 1) end
    pub word : c.head.word ≡ at old from
    pub number : in_type Ty.number c.head.word ≡ true
    pub first : Standing script.checked.table.now script.lists.now.lists node old (from + 1)
    pub was : c.head.snap.old ≡ olds old (from + 1) vs
    pub moved : moved_all types vs c.head.snap.old changes ≡ accepted c.head.snap.new
    pub new_number : in_type Ty.number c.count.change ≡ true
    pub count : RecordAt (from + 1 + length vs) e c.count

  pub count_at : (e : Expression) (c : Count) → count_of types vs e changes (part old from end) ≡ accepted c → CountAt e c
  unfolding count_of
  count_at e c q =
      let one = through (head_of types Ty.number vs changes (part old from end)) _ c q in
      let h = head_at Ty.number one.value one.comes in
      let place = from + 1 + length vs in
      let two = through (operand_of e one.value.word changes one.value.snap.rest) _ c one.goes in
      let x : operand_of e one.value.word changes (part old place end) ≡ accepted two.value
      = ap (operand_of e one.value.word changes) (sym h.snap.rest) ∙ two.comes in
      let sized : Sized e (part old place end) two.value = holds_at x (operand_sized e one.value.word changes (part old place end)) in
      subst (CountAt e) (accepted_of two.goes) (record {
        below = h.below;
        word = h.word;
        number = h.typed;
        first = h.snap.standing;
        was = h.snap.was;
        moved = h.snap.moved;
        new_number = holds_at x (operand_number e one.value.word changes (part old place end));
        count = record_at place h.snap.within e two.value sized;
      })
