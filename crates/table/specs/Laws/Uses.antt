-- Counting uses: field by field, node by node, and what the counts say in the end.
-- Assumes nothing.
use Rattle.std.specs.Prelude.{◌≡◌, refl, ℕ, zero, suc, ◌+◌, ◌-◌, ◌*◌, ◌≤◌, ◌<◌, min, Bool, true, false, ◌↔◌, ◌⊎◌, List, [], ◌∷◌, ◌++◌, length, get_or, set, take, drop, replicate, eqb}
use Rattle.std.proofs.Common.{sym, ap, ◌∙◌, add-zero, zero-add, add_assoc, add-one, arith, not-suc-le-zero, ⊎_elim, length-set, length-take-le, get_or-take, get_or-set_same, get_or-set_other}
use Rattle.std.proofs.Math.Option.{none, some}
use borrow.Author.Tests.{eq-eqb, ne_eqb, eqb-true, eqb-false}
use Rattle.numbers.specs.Laws.{decide, and_left, and_right}
use Rattle.rules.specs.Outcome.{choose, use_wrong}
use Rattle.rules.specs.Table as Table
use Rattle.rules.specs.Table.{read_node, nodes_of, Kind, number_constant, truth_constant, variable, operator, skip, assign, sequence, if, repeat, kind_of, children_by, children, uses, check_uses}
use Rattle.table.specs.declared.node.Wanted.{Wanted}
use Rattle.table.specs.declared.node.Field.{Field}
use Rattle.table.specs.declared.node.Form.{Form}
use Rattle.table.specs.Sorts.{form, child_in, children_in}
use Rattle.table.specs.Told.{Tells, passes, Headed}
use Rattle.table.specs.Uses.{Counted, all_once}
use Rattle.table.specs.Laws.Lists.{alike}
use Rattle.table.specs.Laws.Nodes.{node_next, nodes_end}
use Rattle.table.specs.Laws.Tests.{tells_need, same_test}

-- ---- counts up to 2

capped_add : (a b c : ℕ) → min 2 a ≡ min 2 b → min 2 (a + c) ≡ min 2 (b + c)
capped_add a b c e = omega arith

capped_one : (a b : ℕ) → min 2 a ≡ min 2 b → eqb a 1 ≡ eqb b 1
capped_one a b e = ⊎_elim
    (λ (one : eqb a 1 ≡ true). let p = eqb-true a 1 one in one ∙ sym (eq-eqb b 1 (omega arith)))
    (λ (other : eqb a 1 ≡ false). other ∙ sym (ne_eqb b 1 (λ q. eqb-false a 1 other (omega arith))))
    (decide (eqb a 1))

-- ---- one field

uses_self : (x : ℕ) → uses x (x ∷ []) ≡ 1
unfolding uses
uses_self x = rw (eq-eqb x x refl)

uses_other : (k x : ℕ) → (k ≡ x → ⊥) → uses k (x ∷ []) ≡ 0
unfolding uses
uses_other k x h = rw (ne_eqb k x h)

pub counted_none : (l : List ℕ) → Counted l [] l
unfolding uses
counted_none l = record { long = refl; each = λ k h. ap (min 2) (sym (add-zero (get_or l k 0))) }

counted_far : (l : List ℕ) (x : ℕ) → 512 ≤ x → Counted l (x ∷ []) l
counted_far l x far = record { long = refl; each = λ k h. rw (uses_other k x (λ e. omega arith), add-zero (get_or l k 0)) }

counted_one : (l : List ℕ) (x a : ℕ) → x < 512 → length l ≡ 512 → min 2 a ≡ min 2 (get_or l x 0 + 1) → Counted l (x ∷ []) (set l x a)
counted_one l x a low long e = record {
  long = length-set l x a;
  each = λ k h. ⊎_elim
      (λ (same : eqb k x ≡ true). rw (eqb-true k x same, get_or-set_same l x a 0 (omega arith), uses_self x) e)
      (λ (other : eqb k x ≡ false). rw (get_or-set_other l x k a 0 (eqb-false k x other), uses_other k x (eqb-false k x other), add-zero (get_or l k 0)))
      (decide (eqb k x));
}

-- the field's child has one more, and is not counted where there is no node with its number
pub field_counted : (l : List ℕ) (rule : Field) (x a : ℕ) → length l ≡ 512 → (w : Wanted) → rule ≡ Field.Child w → x < 512
    → min 2 a ≡ min 2 (get_or l x 0 + 1) → Counted l (child_in rule x) (set l x a)
field_counted l rule x a long w is low e = rw is (counted_one l x a low long e)

pub field_none : (l : List ℕ) (rule : Field) (x : ℕ) → (rule ≡ Field.Free) ⊎ (rule ≡ Field.Zero) → Counted l (child_in rule x) l
field_none l rule x h = ⊎_elim (λ e. rw e (counted_none l)) (λ e. rw e (counted_none l)) h

pub field_far : (l : List ℕ) (rule : Field) (x : ℕ) → 512 ≤ x → Counted l (child_in rule x) l
field_far l Field.Free x far = counted_none l
field_far l Field.Zero x far = counted_none l
field_far l (Field.Child w) x far = counted_far l x far

-- ---- one node

uses_append : (k : ℕ) (l m : List ℕ) → uses k (l ++ m) ≡ uses k l + uses k m
unfolding uses
uses_append k [] m = sym (zero-add (uses k m))
uses_append k (x ∷ l) m = rw (uses_append k l m, add_assoc (choose (eqb k x) 1 0) (uses k l) (uses k m))

counted_both : (a b c l m : List ℕ) → Counted a l b → Counted b m c → Counted a (l ++ m) c
counted_both a b c l m p q = record {
  long = q.long ∙ p.long;
  each = λ k h. q.each k h ∙ capped_add (get_or b k 0) (get_or a k 0 + uses k l) (uses k m) (p.each k h)
      ∙ ap (min 2) (rw (uses_append k l m, add_assoc (get_or a k 0) (uses k l) (uses k m)));
}

pub counted_node : (f : Form) (n : Table.Node) (a b c d : List ℕ) → Counted a (child_in f.a n.a) b → Counted b (child_in f.b n.b) c
    → Counted c (child_in f.c n.c) d → Counted a (children_in f n) d
unfolding children_in
counted_node f n a b c d p q r = counted_both a b d _ _ p (counted_both b c d _ _ q r)

form_children : (k : Kind) (n : Table.Node) → children_in (form k) n ≡ children_by (some k) n
unfolding children_in children_by
form_children number_constant n = refl
form_children truth_constant n = refl
form_children variable n = refl
form_children (operator o) n = refl
form_children skip n = refl
form_children assign n = refl
form_children sequence n = refl
form_children if n = refl
form_children repeat n = refl

-- ---- all nodes: the counts so far and the uses that are left make up all uses

pub record UsesLeft (bytes : List ℕ) (i : ℕ) (counts : List ℕ) : Type 0 where
  pub long : length counts ≡ 512
  pub each : (k : ℕ) → k < 512 → min 2 (uses k (children (nodes_of bytes))) ≡ min 2 (get_or counts k 0 + uses k (children (drop i (nodes_of bytes))))

pub left_all : (bytes : List ℕ) → UsesLeft bytes 0 (replicate 512 0)
left_all bytes = record { long = refl; each = λ k h. ap (min 2) (rw (alike {A = ℕ} 512 0 k) (sym (zero-add (uses k (children (nodes_of bytes)))))) }

module _ (bytes : List ℕ) (v n : ℕ) (head : Headed bytes v n) (i : ℕ) (low : i < n) (counts : List ℕ) (left : UsesLeft bytes i counts)
    (x : Table.Node) (read : x ≡ read_node (drop (16 + v + 8 * i) bytes)) where
  left_less : (after : List ℕ) → Counted counts (children_by (kind_of x.kind) x) after → UsesLeft bytes (i + 1) after
  unfolding children
  left_less after counted =
      let next : drop i (nodes_of bytes) ≡ x ∷ drop (suc i) (nodes_of bytes) = rw read (node_next bytes v n i head.v_is head.n_is low) in
      let these = children_by (kind_of x.kind) x in
      let split : (k : ℕ) → uses k (children (drop i (nodes_of bytes))) ≡ uses k these + uses k (children (drop (suc i) (nodes_of bytes)))
      = λ k. rw (next, uses_append k these (children (drop (suc i) (nodes_of bytes)))) refl in
      record {
        long = counted.long ∙ left.long;
        each = λ k h. left.each k h ∙ ap (min 2) (ap (◌+◌ (get_or counts k 0)) (split k) ∙ sym (add_assoc (get_or counts k 0) (uses k these) _))
            ∙ sym (capped_add (get_or after k 0) (get_or counts k 0 + uses k these) _ (counted.each k h))
            ∙ ap (λ j. min 2 (get_or after k 0 + uses k (children (drop j (nodes_of bytes))))) (sym (add-one i));
      }

  -- a node of a kind has the children of its form
  pub left_less_node : (k : Kind) → kind_of x.kind ≡ some k → (after : List ℕ) → Counted counts (children_in (form k) x) after → UsesLeft bytes (i + 1) after
  left_less_node k k_is after counted = left_less after (rw (k_is, ← (form_children k x)) counted)

  -- one of no kind has none
  pub left_less_none : kind_of x.kind ≡ none → UsesLeft bytes (i + 1) counts
  unfolding children_by
  left_less_none k_is = left_less counts (rw k_is (counted_none counts))

-- ---- the counts in the end

once_each : (m : ℕ) (counts : List ℕ) → all_once m counts ≡ true → (k : ℕ) → k < m → get_or counts k 0 ≡ 1
unfolding all_once
once_each zero counts e k h = absurd (not-suc-le-zero h)
once_each (suc m) counts e k h = ⊎_elim
    (λ (same : eqb k m ≡ true). rw (eqb-true k m same) (eqb-true (get_or counts m 0) 1 (and_left (eqb (get_or counts m 0) 1) (all_once m counts) e)))
    (λ (other : eqb k m ≡ false). once_each m counts (and_right (eqb (get_or counts m 0) 1) (all_once m counts) e) k (omega (arith, eqb-false k m other)))
    (decide (eqb k m))

each_once : (m : ℕ) (counts : List ℕ) → ((k : ℕ) → k < m → get_or counts k 0 ≡ 1) → all_once m counts ≡ true
unfolding all_once
each_once zero counts h = refl
each_once (suc m) counts h = rw (eq-eqb (get_or counts m 0) 1 (h m (omega arith))) (each_once m counts (λ k below. h k (omega arith)))

once_told : (m : ℕ) (counts places : List ℕ) → m ≤ 512 → ((k : ℕ) → k < 512 → min 2 (uses k places) ≡ min 2 (get_or counts k 0))
    → Tells use_wrong (check_uses m places) (all_once m counts)
unfolding check_uses all_once
once_told zero counts places h same = passes
once_told (suc m) counts places h same =
    rw (capped_one (uses m places) (get_or counts m 0) (same m h))
    (tells_need use_wrong (eqb (get_or counts m 0) 1) _ _ (once_told m counts places (omega arith) same))

-- the test of all counts but the root's is the check of the uses
pub uses_told : (bytes : List ℕ) (v n : ℕ) → Headed bytes v n → (i : ℕ) → n ≤ i → (counts : List ℕ) → UsesLeft bytes i counts → (r : Bool)
    → (r ≡ true) ↔ ((k : ℕ) → k < length (take (n - 1) counts) → get_or (take (n - 1) counts) k 0 ≡ 1) → Tells use_wrong (check_uses (n - 1) (children (nodes_of bytes))) r
unfolding children uses
uses_told bytes v n head i end counts left r once =
    let nothing : drop i (nodes_of bytes) ≡ [] = nodes_end bytes n i head.n_is end in
    let few : n - 1 ≤ 512 = omega (arith, head.n_few) in
    let long : length (take (n - 1) counts) ≡ n - 1 = length-take-le (n - 1) counts (omega (arith, left.long)) in
    let same : (k : ℕ) → k < n - 1 → get_or (take (n - 1) counts) k 0 ≡ get_or counts k 0 = λ k h. get_or-take (n - 1) counts k 0 h in
    rw (same_test r (all_once (n - 1) counts)
    (λ e. each_once (n - 1) counts (λ k h. sym (same k h) ∙ once.0 e k (rw long h)))
    (λ e. once.1 (λ k h. same k (rw long at h) ∙ once_each (n - 1) counts e k (rw long at h))))
    (once_told (n - 1) counts (children (nodes_of bytes)) few λ k h. left.each k h ∙ ap (min 2) (rw nothing (add-zero (get_or counts k 0))))
