-- The variables that a node of an accepted table mentions: those of its children, united, and the one that it names itself.
-- They rise and are variables of the table.
-- Assumes nothing.
use Rattle.std.specs.Prelude.{◌≡◌, ℕ, zero, suc, ◌+◌, ◌*◌, ◌≤◌, ◌<◌, Bool, true, false, ◌||◌, length, get_or, take, drop, eqb}
use Rattle.std.proofs.Math.Path.{refl, sym, ap}
use Rattle.std.proofs.Common.{ap₂, ◌∙◌, subst, arith, get_or-drop}
use Rattle.std.proofs.lemmas.Bool.{false≢true}
use Rattle.std.proofs.Math.Option.{Option, none, some}
use mathlib.Core.List.{List, [], ◌∷◌}
use Rattle.std.proofs.Math.ListN.{get_elem?}
use Rattle.rules.specs.Outcome.{accepted}
use Rattle.rules.specs.Tree.{Operator, insert, union, reads, mentions}
use Rattle.rules.specs.Table.{byte, u16, header_length, variables, nodes, nodes_at, types_of, read_node, Node, Kind, number_constant, truth_constant, variable, operator, skip, assign, sequence, if, repeat, Part, children_by, Program, check}
use Rattle.rules.proofs.Laws.Parts.{number_of_kind, parts_of, part_at, node_at, vars_of, Built, stands, child_at, parts_long}
use Rattle.rules.proofs.Laws.Rising.{together, Below, below_none, below_more, Rises, rises_none, rises_insert, rises_union, rises_alone}

-- the variables that a node mentions
abbrev pub vars_in : Option Part → List ℕ
vars_in none = []
vars_in (some q) = vars_of q

unfoldable pub vars_at : List ℕ → ℕ → List ℕ
vars_at bytes i = vars_in (part_at bytes i)

pub vars_at_lem : (bytes : List ℕ) (i : ℕ) (q : Part) → part_at bytes i ≡ some q → vars_at bytes i ≡ vars_of q
unfolding vars_at
vars_at_lem bytes i q e = ap vars_in e

-- a node of this kind names a variable itself
abbrev pub names_one : Kind → Bool
names_one number_constant = false
names_one truth_constant = false
names_one variable = true
names_one (operator o) = false
names_one skip = false
names_one assign = true
names_one sequence = false
names_one if = false
names_one repeat = false

abbrev pub with_own : Bool → ℕ → List ℕ → List ℕ
with_own true tag vs = insert tag vs
with_own false tag vs = vs

-- ---- by a kind's number

-- the kinds that name a variable
unfoldable pub names : ℕ → Bool
names k = eqb k 3 || eqb k 17

-- how many children a node of each kind uses
abbrev pub places : List ℕ
places = 0 ∷ 0 ∷ 0 ∷ 0 ∷ 2 ∷ 2 ∷ 2 ∷ 2 ∷ 2 ∷ 0 ∷ 0 ∷ 0 ∷ 0 ∷ 0 ∷ 0 ∷ 0 ∷ 0 ∷ 1 ∷ 2 ∷ 3 ∷ 2 ∷ []

-- what a kind's number says: it is one of the document's, so many of the three fields are its children, and whether it names a
-- variable
record Numbered (k : Kind) (number : ℕ) (n : Node) : Type 0 where
  known : number < 21
  few : get_or places number 0 ≤ 3
  named : names number ≡ names_one k
  children : children_by (some k) n ≡ take (get_or places number 0) (n.a ∷ n.b ∷ n.c ∷ [])

numbered : (k : Kind) (n : Node) → Numbered k (number_of_kind k) n
unfolding children_by names
numbered number_constant n = record { known = omega arith; few = omega arith; named = refl; children = refl }
numbered truth_constant n = record { known = omega arith; few = omega arith; named = refl; children = refl }
numbered variable n = record { known = omega arith; few = omega arith; named = refl; children = refl }
numbered (operator Operator.add) n = record { known = omega arith; few = omega arith; named = refl; children = refl }
numbered (operator Operator.subtract) n = record { known = omega arith; few = omega arith; named = refl; children = refl }
numbered (operator Operator.multiply) n = record { known = omega arith; few = omega arith; named = refl; children = refl }
numbered (operator Operator.greater) n = record { known = omega arith; few = omega arith; named = refl; children = refl }
numbered (operator Operator.equal) n = record { known = omega arith; few = omega arith; named = refl; children = refl }
numbered skip n = record { known = omega arith; few = omega arith; named = refl; children = refl }
numbered assign n = record { known = omega arith; few = omega arith; named = refl; children = refl }
numbered sequence n = record { known = omega arith; few = omega arith; named = refl; children = refl }
numbered if n = record { known = omega arith; few = omega arith; named = refl; children = refl }
numbered repeat n = record { known = omega arith; few = omega arith; named = refl; children = refl }

-- ---- where a node's bytes stand

unfoldable pub place_of : List ℕ → ℕ → ℕ
place_of bytes i = 16 + variables bytes + 8 * i

-- the three fields of the node whose bytes stand at a place
abbrev pub fields : List ℕ → ℕ → List ℕ
fields bytes at = u16 bytes (at + 2) ∷ u16 bytes (at + 4) ∷ u16 bytes (at + 6) ∷ []

u16_drop : (n : ℕ) (bytes : List ℕ) (i : ℕ) → u16 (drop n bytes) i ≡ u16 bytes (n + i)
unfolding u16
u16_drop n bytes i =
    ap₂ (λ (x y : ℕ). x + 256 * y) (get_or-drop n bytes i 0) (get_or-drop n bytes (suc i) 0 ∙ ap (λ (k : ℕ). get_or bytes k 0) (omega arith))

pub node_kind : (bytes : List ℕ) (i : ℕ) → (node_at bytes i).kind ≡ byte bytes (place_of bytes i)
unfolding node_at place_of nodes_at header_length read_node
node_kind bytes i = get_or-drop (16 + variables bytes + 8 * i) bytes 0 0 ∙ ap (λ (k : ℕ). get_or bytes k 0) (omega arith)

pub node_tag : (bytes : List ℕ) (i : ℕ) → (node_at bytes i).tag ≡ byte bytes (place_of bytes i + 1)
unfolding node_at place_of nodes_at header_length read_node
node_tag bytes i = get_or-drop (16 + variables bytes + 8 * i) bytes 1 0

pub node_fields : (bytes : List ℕ) (i : ℕ) → (node_at bytes i).a ∷ (node_at bytes i).b ∷ (node_at bytes i).c ∷ [] ≡ fields bytes (place_of bytes i)
unfolding node_at place_of nodes_at header_length read_node
node_fields bytes i =
    let at = 16 + variables bytes + 8 * i in
    rw (u16_drop at bytes 2, u16_drop at bytes 4, u16_drop at bytes 6)

-- ---- a node's part

there : {A : Type 0} (xs : List A) (i : ℕ) → i < length xs → (x : A) × (get_elem? xs i ≡ some x)
there [] i h = absurd (omega arith)
there (x ∷ xs) zero h = (x, refl)
there (x ∷ xs) (suc i) h = there xs i (omega arith)

module _ (bytes : List ℕ) (p : Program) (checked : check bytes ≡ accepted p) where
  -- the part q at i, whose children are known to rise
  module _ (i : ℕ) (q : Part)
      (below : (c : ℕ) (r : Part) → c < i → part_at bytes c ≡ some r → Rises (length (types_of bytes)) (vars_of r)) where
    abbrev Child : ℕ → Part → Type 0
    Child c r = get_elem? (take i (parts_of bytes)) c ≡ some r

    abbrev BuiltAs : Kind → Type 0
    BuiltAs k = Built (types_of bytes) (take i (parts_of bytes)) i (node_at bytes i) k q

    rise : (c : ℕ) (r : Part) → Child c r → Rises (length (types_of bytes)) (vars_of r)
    rise c r e = let h = child_at bytes p checked i c r e in below c r h.0 h.1

    vars : (c : ℕ) (r : Part) → Child c r → vars_at bytes c ≡ vars_of r
    vars c r e = let h = child_at bytes p checked i c r e in vars_at_lem bytes c r h.1

    lower : (c : ℕ) (r : Part) → Child c r → c < i
    lower c r e = (child_at bytes p checked i c r e).0

    -- a last child alone
    last : (c : ℕ) (r : Part) → Child c r → union (vars_at bytes c) [] ≡ vars_of r
    last c r e = rw (vars c r e) (rises_alone (length (types_of bytes)) (vars_of r) (rise c r e))

    built_vars : (k : Kind) → BuiltAs k
        → vars_of q ≡ with_own (names_one k) (node_at bytes i).tag (together (vars_at bytes) (children_by (some k) (node_at bytes i)))
    unfolding together children_by reads mentions insert
    built_vars number_constant e = ap vars_of e
    built_vars truth_constant h = ap vars_of h.0
    built_vars variable h = ap vars_of h.0
    built_vars (operator o) (l, r, e, a, b) = ap vars_of e ∙ sym (ap₂ union (vars _ _ a) (last _ _ b))
    built_vars skip e = ap vars_of e
    built_vars assign (x, e, a, small) = ap vars_of e ∙ sym (ap (insert (node_at bytes i).tag) (last _ _ a))
    built_vars sequence (s, t, e, a, b) = ap vars_of e ∙ sym (ap₂ union (vars _ _ a) (last _ _ b))
    built_vars if (x, s, t, e, a, b, c) = ap vars_of e ∙ sym (ap₂ union (vars _ _ a) (ap₂ union (vars _ _ b) (last _ _ c)))
    built_vars repeat (x, s, e, a, b) = ap vars_of e ∙ sym (ap₂ union (vars _ _ a) (last _ _ b))

    built_own : (k : Kind) → BuiltAs k → names_one k ≡ true → (node_at bytes i).tag < length (types_of bytes)
    built_own number_constant h e = absurd (false≢true e)
    built_own truth_constant h e = absurd (false≢true e)
    built_own variable h e = h.1
    built_own (operator o) h e = absurd (false≢true e)
    built_own skip h e = absurd (false≢true e)
    built_own assign (x, d, a, small) e = small
    built_own sequence h e = absurd (false≢true e)
    built_own if h e = absurd (false≢true e)
    built_own repeat h e = absurd (false≢true e)

    one : {a : ℕ} → a < i → Below i (a ∷ [])
    one {a} h = below_more i a [] h (below_none i)

    two : {a b : ℕ} → a < i → b < i → Below i (a ∷ b ∷ [])
    two {a} {b} h k = below_more i a (b ∷ []) h (one k)

    three : {a b c : ℕ} → a < i → b < i → c < i → Below i (a ∷ b ∷ c ∷ [])
    three {a} {b} {c} h k l = below_more i a (b ∷ c ∷ []) h (two k l)

    built_children : (k : Kind) → BuiltAs k → Below i (children_by (some k) (node_at bytes i))
    unfolding children_by
    built_children number_constant e = below_none i
    built_children truth_constant h = below_none i
    built_children variable h = below_none i
    built_children (operator o) (l, r, e, a, b) = two (lower _ _ a) (lower _ _ b)
    built_children skip e = below_none i
    built_children assign (x, e, a, small) = one (lower _ _ a)
    built_children sequence (s, t, e, a, b) = two (lower _ _ a) (lower _ _ b)
    built_children if (x, s, t, e, a, b, c) = three (lower _ _ a) (lower _ _ b) (lower _ _ c)
    built_children repeat (x, s, e, a, b) = two (lower _ _ a) (lower _ _ b)

    -- they rise
    built_rises : (k : Kind) → BuiltAs k → Rises (length (types_of bytes)) (vars_of q)
    unfolding reads mentions insert
    built_rises number_constant e = rw e (rises_none _)
    built_rises truth_constant h = rw h.0 (rises_none _)
    built_rises variable h = rw h.0 (rises_insert _ _ [] h.1 (rises_none _))
    built_rises (operator o) (l, r, e, a, b) = rw e (rises_union _ _ _ (rise _ _ a) (rise _ _ b))
    built_rises skip e = rw e (rises_none _)
    built_rises assign (x, e, a, small) = rw e (rises_insert _ _ _ small (rise _ _ a))
    built_rises sequence (s, t, e, a, b) = rw e (rises_union _ _ _ (rise _ _ a) (rise _ _ b))
    built_rises if (x, s, t, e, a, b, c) = rw e (rises_union _ _ _ (rise _ _ a) (rises_union _ _ _ (rise _ _ b) (rise _ _ c)))
    built_rises repeat (x, s, e, a, b) = rw e (rises_union _ _ _ (rise _ _ a) (rise _ _ b))

  rises_up : (n i : ℕ) (q : Part) → i < n → part_at bytes i ≡ some q → Rises (length (types_of bytes)) (vars_of q)
  rises_up zero i q h e = absurd (omega arith)
  rises_up (suc n) i q h e =
      let s = stands bytes p checked i q e in
      built_rises i q (λ c r l f. rises_up n c r (omega arith) f) s.kind s.built

  -- the variables of each part rise
  pub rises_at : (i : ℕ) (q : Part) → part_at bytes i ≡ some q → Rises (length (types_of bytes)) (vars_of q)
  rises_at i q e = rises_up (suc i) i q (omega arith) e

  rises_in : (i : ℕ) (o : Option Part) → part_at bytes i ≡ o → Rises (length (types_of bytes)) (vars_in o)
  rises_in i none e = rises_none _
  rises_in i (some q) e = rises_at i q e

  -- and those of each node
  pub rises_node : (i : ℕ) → Rises (length (types_of bytes)) (vars_at bytes i)
  unfolding vars_at
  rises_node i = rises_in i (part_at bytes i) refl

  pub part_there : (i : ℕ) → i < nodes bytes → (q : Part) × (part_at bytes i ≡ some q)
  unfolding part_at
  part_there i h = there (parts_of bytes) i (rw (parts_long bytes p checked) h)

  -- what a node mentions, by its bytes: its kind's number says how many of its fields are children and whether it names a variable
  pub record Mentioning (i : ℕ) : Type 0 where
    pub known : byte bytes (place_of bytes i) < 21
    pub few : get_or places (byte bytes (place_of bytes i)) 0 ≤ 3
    pub lower : Below i (take (get_or places (byte bytes (place_of bytes i)) 0) (fields bytes (place_of bytes i)))
    pub own : names (byte bytes (place_of bytes i)) ≡ true → byte bytes (place_of bytes i + 1) < length (types_of bytes)
    pub all : vars_at bytes i
        ≡ with_own (names (byte bytes (place_of bytes i))) (byte bytes (place_of bytes i + 1))
        (together (vars_at bytes) (take (get_or places (byte bytes (place_of bytes i)) 0) (fields bytes (place_of bytes i))))

  mentioning_of : (i : ℕ) (q : Part) → part_at bytes i ≡ some q → Mentioning i
  mentioning_of i q e =
      let s = stands bytes p checked i q e in
      let n = node_at bytes i in
      let w = numbered s.kind n in
      let number : byte bytes (place_of bytes i) ≡ number_of_kind s.kind = sym (node_kind bytes i) ∙ s.number in
      let named : names (byte bytes (place_of bytes i)) ≡ names_one s.kind = ap names number ∙ w.named in
      let places_are : children_by (some s.kind) n ≡ take (get_or places (byte bytes (place_of bytes i)) 0) (fields bytes (place_of bytes i)) =
      w.children ∙ ap₂ (λ (k : ℕ) (fs : List ℕ). take (get_or places k 0) fs) (sym number) (node_fields bytes i) in
      let below : (c : ℕ) (r : Part) → c < i → part_at bytes c ≡ some r → Rises (length (types_of bytes)) (vars_of r) = λ c r l f. rises_at c r f in
      let all : vars_at bytes i ≡ with_own (names_one s.kind) n.tag (together (vars_at bytes) (children_by (some s.kind) n)) =
      vars_at_lem bytes i q e ∙ built_vars i q below s.kind s.built in
      record {
        known = rw number w.known;
        few = rw number w.few;
        lower = subst (Below i) places_are (built_children i q below s.kind s.built);
        own = λ t. rw (node_tag bytes i) at (built_own i q below s.kind s.built (sym named ∙ t));
        all = rw (named, ← places_are, ← (node_tag bytes i)) all;
      }

  pub mentioning : (i : ℕ) → i < nodes bytes → Mentioning i
  mentioning i h = let w = part_there i h in mentioning_of i w.0 w.1
