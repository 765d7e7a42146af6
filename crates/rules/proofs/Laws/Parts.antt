-- The parts of an accepted table, node by node: what stands at a node number, and what its bytes and children then are.
-- The code goes by node numbers; these laws give it the tree.
-- Assumes nothing.
use Rattle.std.proofs.Math.Path.{◌≡◌, refl, sym, ap, subst}
use Rattle.std.proofs.Common.{◌∙◌, add-zero, mul-suc, length-append, drop-drop}
use Rattle.std.specs.Prelude.{ℕ, zero, suc, ◌+◌, ◌-◌, ◌*◌, ◌≤◌, ◌<◌, Bool, true, false, take, drop, leb, ltb, eqb, pos}
use native.Mathlib.Omega.{arith}
use Rattle.std.proofs.Math.Nat.{zero-add}
use Rattle.std.proofs.Math.Option.{Option, none, some}
use mathlib.Core.List.{List, [], ◌∷◌, ◌++◌, append_assoc, append-nil}
use Rattle.std.proofs.Math.ListN.{length, get_elem?}
use Rattle.std.proofs.Math.Seq.{take-append_seam}
use borrow.Author.Tests.{leb-true, ltb-true, eqb-true}
use Rattle.rules.specs.Outcome.{Outcome, accepted, refused, ◌>>=◌, need, header_wrong, node_wrong, too_deep}
use Rattle.rules.specs.Value.{Ty, most_variables, type_of}
use Rattle.rules.specs.Tree.{Operator, Expression, Statement, gives, depth, reads, mentions}
use Rattle.rules.proofs.Laws.Table.{is_type_lem, PartTyped, AllTyped, FoundTyped, found_typed, all_typed}
use Rattle.rules.specs.Table.{u16, header_length, most_nodes, marked, variables, nodes, nodes_at, total, types_of, Node, read_node, constant_of, nodes_from, is_type, check_header, check_types, type_bytes, children, check_uses, most_depth, nodes_of, Kind, number_constant, truth_constant, variable, operator, skip, assign, sequence, if, repeat, kinds, kind_of, Part, expression, statement, as_expression, as_statement, unused, make, make_kind, make_all, root_of, Program, check}
use Rattle.rules.proofs.Laws.Outcome.{Holds, value, vacant, holds_bind, holds_need, holds_of, holds_if, holds_map}

-- ---- what stands at a node

abbrev pub parts_in : Outcome (List Part) → List Part
parts_in (accepted parts) = parts
parts_in (refused r) = []

-- the parts of all nodes; none where refusal 3 is met
unfoldable pub parts_of : List ℕ → List Part
parts_of bytes = parts_in (make_all (types_of bytes) [] (nodes_of bytes))

-- the part that a node is the top of
unfoldable pub part_at : List ℕ → ℕ → Option Part
part_at bytes i = get_elem? (parts_of bytes) i

-- the node's eight bytes
unfoldable pub node_at : List ℕ → ℕ → Node
node_at bytes i = read_node (drop (nodes_at bytes + 8 * i) bytes)

-- the variables that a part mentions
abbrev pub vars_of : Part → List ℕ
vars_of (expression t e) = reads e
vars_of (statement s) = mentions s

-- ---- all nodes are made in rising order

-- the part at i is made of the node there and the parts before it
pub record MadeAt (types : List Ty) (all : List Part) (i : ℕ) (n : Node) : Type 0 where
  pub part : Part
  pub here : get_elem? all i ≡ some part
  pub made : make_kind types (take i all) i n (kind_of n.kind) ≡ accepted part

-- the parts `before` go on to `all` with the nodes `ns`
record Grows (types : List Ty) (before : List Part) (ns : List Node) (all : List Part) : Type 0 where
  rest : List Part
  split : all ≡ before ++ rest
  long : length all ≡ length before + length ns
  at : (j : ℕ) (n : Node) → get_elem? ns j ≡ some n → MadeAt types all (length before + j) n

there : {A : Type 0} (xs : List A) (y : A) (ys : List A) → get_elem? (xs ++ y ∷ ys) (length xs) ≡ some y
there [] y ys = refl
there (x ∷ xs) y ys = there xs y ys

some_injective : {A : Type 0} {x y : A} → ◌≡◌ {A = Option A} (some x) (some y) → x ≡ y
some_injective e = cc

none_some : {A : Type 0} {x : A} → ◌≡◌ {A = Option A} none (some x) → ⊥
none_some e = let z : ◌≡◌ {A = ℕ} 0 1 = cc in omega arith

first_made : (types : List Ty) (before : List Part) (n : Node) (p : Part) (rest all : List Part)
    → make_kind types before (length before) n (kind_of n.kind) ≡ accepted p → all ≡ before ++ p ∷ rest
    → MadeAt types all (length before + 0) n
first_made types before n p rest all m e = record {
  part = p;
  here = rw (e, add-zero (length before)) (there before p rest);
  made = rw (e, add-zero (length before), take-append_seam before (p ∷ rest)) m;
}

step_made : (types : List Ty) (before : List Part) (n : Node) (ns : List Node) (p : Part) (all : List Part)
    → make_kind types before (length before) n (kind_of n.kind) ≡ accepted p
    → Grows types (before ++ p ∷ []) ns all → Grows types before (n ∷ ns) all
step_made types before n ns p all m g = record { rest = p ∷ g.rest; split = whole; long = g.long ∙ further (length ns); at = each }
  where
    whole : all ≡ before ++ p ∷ g.rest
    whole = g.split ∙ append_assoc before (p ∷ []) g.rest

    further : (j : ℕ) → length (before ++ p ∷ []) + j ≡ length before + suc j
    further j = ap (λ (k : ℕ). k + j) (length-append before (p ∷ [])) ∙ omega arith

    each : (j : ℕ) (k : Node) → get_elem? (n ∷ ns) j ≡ some k → MadeAt types all (length before + j) k
    each zero k e = subst (λ (x : Node). MadeAt types all (length before + 0) x) (some_injective e) (first_made types before n p g.rest all m whole)
    each (suc j) k e = subst (λ (i : ℕ). MadeAt types all i k) (further j) (g.at j k e)

all_made : (types : List Ty) (before : List Part) (ns : List Node) → Holds (Grows types before ns) (make_all types before ns)
unfolding make_all
all_made types before [] = value (record { rest = []; split = sym (append-nil before); long = sym (add-zero (length before)); at = λ j n e. absurd (none_some e) })
all_made types before (n ∷ ns) =
    holds_bind (make_kind types before (length before) n (kind_of n.kind)) _
    (holds_if (make_kind types before (length before) n (kind_of n.kind)) (λ p e. e)) λ p m.
    holds_map (λ all g. step_made types before n ns p all m g) (all_made types (before ++ p ∷ []) ns)

-- ---- the number of a kind

abbrev pub number_of_kind : Kind → ℕ
number_of_kind number_constant = 1
number_of_kind truth_constant = 2
number_of_kind variable = 3
number_of_kind (operator Operator.add) = 4
number_of_kind (operator Operator.subtract) = 5
number_of_kind (operator Operator.multiply) = 6
number_of_kind (operator Operator.greater) = 7
number_of_kind (operator Operator.equal) = 8
number_of_kind skip = 16
number_of_kind assign = 17
number_of_kind sequence = 18
number_of_kind if = 19
number_of_kind repeat = 20

pub kind_number : (n : ℕ) (k : Kind) → kind_of n ≡ some k → number_of_kind k ≡ n
unfolding kind_of kinds
kind_number zero k e = absurd (none_some e)
kind_number (suc zero) k e = rw (← (some_injective e))
kind_number (suc (suc zero)) k e = rw (← (some_injective e))
kind_number (suc (suc (suc zero))) k e = rw (← (some_injective e))
kind_number (suc (suc (suc (suc zero)))) k e = rw (← (some_injective e))
kind_number (suc (suc (suc (suc (suc zero))))) k e = rw (← (some_injective e))
kind_number (suc (suc (suc (suc (suc (suc zero)))))) k e = rw (← (some_injective e))
kind_number (suc (suc (suc (suc (suc (suc (suc zero))))))) k e = rw (← (some_injective e))
kind_number (suc (suc (suc (suc (suc (suc (suc (suc zero)))))))) k e = rw (← (some_injective e))
kind_number (suc (suc (suc (suc (suc (suc (suc (suc (suc zero))))))))) k e = absurd (none_some e)
kind_number (suc (suc (suc (suc (suc (suc (suc (suc (suc (suc zero)))))))))) k e = absurd (none_some e)
kind_number (suc (suc (suc (suc (suc (suc (suc (suc (suc (suc (suc zero))))))))))) k e = absurd (none_some e)
kind_number (suc (suc (suc (suc (suc (suc (suc (suc (suc (suc (suc (suc zero)))))))))))) k e = absurd (none_some e)
kind_number (suc (suc (suc (suc (suc (suc (suc (suc (suc (suc (suc (suc (suc zero))))))))))))) k e = absurd (none_some e)
kind_number (suc (suc (suc (suc (suc (suc (suc (suc (suc (suc (suc (suc (suc (suc zero)))))))))))))) k e = absurd (none_some e)
kind_number (suc (suc (suc (suc (suc (suc (suc (suc (suc (suc (suc (suc (suc (suc (suc zero))))))))))))))) k e = absurd (none_some e)
kind_number (suc (suc (suc (suc (suc (suc (suc (suc (suc (suc (suc (suc (suc (suc (suc (suc zero)))))))))))))))) k e = rw (← (some_injective e))
kind_number (suc (suc (suc (suc (suc (suc (suc (suc (suc (suc (suc (suc (suc (suc (suc (suc (suc zero))))))))))))))))) k e = rw (← (some_injective e))
kind_number (suc (suc (suc (suc (suc (suc (suc (suc (suc (suc (suc (suc (suc (suc (suc (suc (suc (suc zero)))))))))))))))))) k e = rw (← (some_injective e))
kind_number (suc (suc (suc (suc (suc (suc (suc (suc (suc (suc (suc (suc (suc (suc (suc (suc (suc (suc (suc zero))))))))))))))))))) k e = rw
    (← (some_injective e))
kind_number (suc (suc (suc (suc (suc (suc (suc (suc (suc (suc (suc (suc (suc (suc (suc (suc (suc (suc (suc (suc zero)))))))))))))))))))) k e = rw
    (← (some_injective e))
kind_number (suc (suc (suc (suc (suc (suc (suc (suc (suc (suc (suc (suc (suc (suc (suc (suc (suc (suc (suc (suc (suc n))))))))))))))))))))) k e = absurd
    (none_some e)

-- ---- what a node of each kind is made of

pub no_expression : {t : Ty} {e : Expression} {s : Statement} → statement s ≡ expression t e → ⊥
no_expression p = let q : ◌≡◌ {A = ℕ} 0 1 = cc in omega arith

pub statement_of : {s t : Statement} → statement s ≡ statement t → s ≡ t
statement_of e = cc

found_statement : (o : Option Part) → Holds (λ s. o ≡ some (statement s)) (as_statement o)
unfolding as_statement
found_statement none = vacant
found_statement (some (expression t e)) = vacant
found_statement (some (statement s)) = value refl

found_expression : (t : Ty) (o : Option Part) → Holds (λ e. o ≡ some (expression t e)) (as_expression t o)
unfolding as_expression
found_expression t none = vacant
found_expression t (some (expression u e)) = holds_need (is_type t u) node_wrong _ λ q. value (ap {B = Option Part} (λ v. some (expression v e)) (is_type_lem t u q))
found_expression t (some (statement s)) = vacant

-- the parts before a node, and what each kind finds among them
module _ (types : List Ty) (before : List Part) (self : ℕ) (n : Node) where
  -- the child of a field
  abbrev Child : ℕ → Part → Type 0
  Child i p = get_elem? before i ≡ some p

  -- what the part p is, and its children
  abbrev pub Built : Kind → Part → Type 0
  Built number_constant p = p ≡ expression Ty.number (Expression.constant self (constant_of n))
  Built truth_constant p = (p ≡ expression Ty.truth (Expression.constant self (pos n.tag))) × (n.tag ≤ 1)
  Built variable p = (p ≡ expression (type_of types n.tag) (Expression.variable self n.tag)) × (n.tag < length types)
  Built (operator o) p = (l : Expression) × (r : Expression) × (p ≡ expression (gives o) (Expression.operation self o l r))
      × Child n.a (expression Ty.number l) × Child n.b (expression Ty.number r)
  Built skip p = p ≡ statement (Statement.skip self)
  Built assign p = (e : Expression) × (p ≡ statement (Statement.assign self n.tag e)) × Child n.a (expression (type_of types n.tag) e) ×
      (n.tag < length types)
  Built sequence p = (s : Statement) × (t : Statement) × (p ≡ statement (Statement.sequence self s t)) × Child n.a (statement s) × Child n.b (statement t)
  Built if p = (e : Expression) × (s : Statement) × (t : Statement) × (p ≡ statement (Statement.if self e s t))
      × Child n.a (expression Ty.truth e) × Child n.b (statement s) × Child n.c (statement t)
  Built repeat p = (e : Expression) × (s : Statement) × (p ≡ statement (Statement.repeat self e s)) × Child n.a (expression Ty.number e) × Child n.b
      (statement s)

  free : {Q : Part → Type 0} (m : Outcome (Unit {0})) (next : Unit {0} → Outcome Part) → Holds Q (next tt) → Holds Q (m >>= next)
  free (accepted u) next h = h
  free (refused r) next h = vacant

  pub make_built : (k : Kind) → Holds (Built k) (make types before self n k)
  unfolding make
  make_built number_constant = free (unused n.tag) _ (free (unused n.a) _ (value refl))
  make_built truth_constant = holds_need (leb n.tag 1) node_wrong _ λ e.
      free (unused n.a) _ (free (unused n.b) _ (free (unused n.c) _ (value (refl, leb-true n.tag 1 e))))
  make_built variable = holds_need (ltb n.tag (length types)) node_wrong _ λ e.
      free (unused n.a) _ (free (unused n.b) _ (free (unused n.c) _ (value (refl, ltb-true n.tag (length types) e))))
  make_built (operator o) = free (unused n.tag) _
      (holds_bind (as_expression Ty.number (get_elem? before n.a)) _ (found_expression Ty.number (get_elem? before n.a)) λ l hl.
      holds_bind (as_expression Ty.number (get_elem? before n.b)) _ (found_expression Ty.number (get_elem? before n.b)) λ r hr.
      free (unused n.c) _ (value (l, r, refl, hl, hr)))
  make_built skip = free (unused n.tag) _ (free (unused n.a) _ (free (unused n.b) _ (free (unused n.c) _ (value refl))))
  make_built assign = holds_need (ltb n.tag (length types)) node_wrong _ λ q.
      holds_bind (as_expression (type_of types n.tag) (get_elem? before n.a)) _ (found_expression (type_of types n.tag) (get_elem? before n.a)) λ e he.
      free (unused n.b) _ (free (unused n.c) _ (value (e, refl, he, ltb-true n.tag (length types) q)))
  make_built sequence = free (unused n.tag) _
      (holds_bind (as_statement (get_elem? before n.a)) _ (found_statement (get_elem? before n.a)) λ s hs.
      holds_bind (as_statement (get_elem? before n.b)) _ (found_statement (get_elem? before n.b)) λ t ht.
      free (unused n.c) _ (value (s, t, refl, hs, ht)))
  make_built if = free (unused n.tag) _
      (holds_bind (as_expression Ty.truth (get_elem? before n.a)) _ (found_expression Ty.truth (get_elem? before n.a)) λ e he.
      holds_bind (as_statement (get_elem? before n.b)) _ (found_statement (get_elem? before n.b)) λ s hs.
      holds_bind (as_statement (get_elem? before n.c)) _ (found_statement (get_elem? before n.c)) λ t ht.
      value (e, s, t, refl, he, hs, ht))
  make_built repeat = free (unused n.tag) _
      (holds_bind (as_expression Ty.number (get_elem? before n.a)) _ (found_expression Ty.number (get_elem? before n.a)) λ e he.
      holds_bind (as_statement (get_elem? before n.b)) _ (found_statement (get_elem? before n.b)) λ s hs.
      free (unused n.c) _ (value (e, s, refl, he, hs)))

-- ---- an accepted table, node by node

-- among the first i of some parts is among them all, below i
take_found : (all : List Part) (i c : ℕ) (p : Part) → get_elem? (take i all) c ≡ some p → (c < i) × (get_elem? all c ≡ some p)
take_found all zero c p e = absurd (none_some e)
take_found [] (suc i) c p e = absurd (none_some e)
take_found (q ∷ qs) (suc i) zero p e = (omega arith, e)
take_found (q ∷ qs) (suc i) (suc c) p e = let h = take_found qs i c p e in (omega (arith, h.0), h.1)

nodes_found : (n i : ℕ) (bytes : List ℕ) → i < n → get_elem? (nodes_from n bytes) i ≡ some (read_node (drop (8 * i) bytes))
unfolding nodes_from
nodes_found zero i bytes h = absurd (omega arith)
nodes_found (suc n) zero bytes h = refl
nodes_found (suc n) (suc i) bytes h = nodes_found n i (drop 8 bytes) (omega arith)
    ∙ ap (λ (bs : List ℕ). some (read_node bs)) (drop-drop (8 * i) 8 bytes ∙ ap (λ (k : ℕ). drop k bytes) eight)
  where
    eight : 8 + 8 * i ≡ 8 * suc i
    eight = omega (arith, mul-suc 8 i)

length_nodes : (n : ℕ) (bytes : List ℕ) → length (nodes_from n bytes) ≡ n
unfolding nodes_from
length_nodes zero bytes = refl
length_nodes (suc n) bytes = ap suc (length_nodes n (drop 8 bytes))

below_length : {A : Type 0} (xs : List A) (i : ℕ) (x : A) → get_elem? xs i ≡ some x → i < length xs
below_length [] i x e = absurd (none_some e)
below_length (y ∷ ys) zero x e = omega arith
below_length (y ∷ ys) (suc i) x e = omega (arith, below_length ys i x e)

-- what the check has gone through where it accepts
pub record Through (bytes : List ℕ) (p : Program) : Type 0 where
  pub header : check_header bytes ≡ accepted tt
  pub parts : make_all (types_of bytes) [] (nodes_of bytes) ≡ accepted (parts_of bytes)
  pub types : p.types ≡ types_of bytes
  pub root : get_elem? (parts_of bytes) (length (parts_of bytes) - 1) ≡ some (statement p.root)

through_of : (bytes : List ℕ) (ps : List Part) (root : Statement) → check_header bytes ≡ accepted tt
    → make_all (types_of bytes) [] (nodes_of bytes) ≡ accepted ps → get_elem? ps (length ps - 1) ≡ some (statement root)
    → Through bytes (record { types = types_of bytes; root = root })
unfolding parts_of
through_of bytes ps root head made found =
    let same : parts_in (make_all (types_of bytes) [] (nodes_of bytes)) ≡ ps = ap parts_in made in
    record {
      header = head;
      parts = made ∙ ap accepted (sym same);
      types = refl;
      root = ap (λ (qs : List Part). get_elem? qs (length qs - 1)) same ∙ found;
    }

check_through : (bytes : List ℕ) → Holds (Through bytes) (check bytes)
unfolding check root_of
check_through bytes =
    holds_bind (check_header bytes) _ (holds_if (check_header bytes) (λ u e. e)) λ u head.
    free' (check_types (type_bytes bytes)) _
    (holds_bind (make_all (types_of bytes) [] (nodes_of bytes)) _ (holds_if (make_all (types_of bytes) [] (nodes_of bytes)) (λ ps e. e)) λ ps made.
    holds_bind (as_statement (get_elem? ps (length ps - 1))) _ (found_statement (get_elem? ps (length ps - 1))) λ root found.
    free' (check_uses (length ps - 1) (children (nodes_of bytes))) _
    (holds_need (leb (depth root) most_depth) too_deep _ λ shallow.
    value (through_of bytes ps root head made found)))
  where
    free' : {Q : Program → Type 0} (m : Outcome (Unit {0})) (next : Unit {0} → Outcome Program) → Holds Q (next tt) → Holds Q (m >>= next)
    free' (accepted u) next h = h
    free' (refused r) next h = vacant

-- the kind's number tells the kind
kind_back : (k : Kind) → kind_of (number_of_kind k) ≡ some k
unfolding kind_of kinds
kind_back number_constant = refl
kind_back truth_constant = refl
kind_back variable = refl
kind_back (operator Operator.add) = refl
kind_back (operator Operator.subtract) = refl
kind_back (operator Operator.multiply) = refl
kind_back (operator Operator.greater) = refl
kind_back (operator Operator.equal) = refl
kind_back skip = refl
kind_back assign = refl
kind_back sequence = refl
kind_back if = refl
kind_back repeat = refl

pub kind_injective : (j k : Kind) → number_of_kind j ≡ number_of_kind k → j ≡ k
kind_injective j k e = some_injective (sym (kind_back j) ∙ ap kind_of e ∙ kind_back k)

-- an accepted header says how long the table is
header_long : (bytes : List ℕ) → Holds (λ u. length bytes ≡ total bytes) (check_header bytes)
unfolding check_header
header_long bytes =
    holds_need (leb header_length (length bytes)) header_wrong _ λ e0.
    holds_need (marked bytes) header_wrong _ λ e1.
    holds_need (leb 1 (variables bytes)) header_wrong _ λ e2.
    holds_need (leb (variables bytes) most_variables) header_wrong _ λ e3.
    holds_need (leb 1 (nodes bytes)) header_wrong _ λ e4.
    holds_need (leb (nodes bytes) most_nodes) header_wrong _ λ e5.
    holds_need (eqb (u16 bytes 8) header_length) header_wrong _ λ e6.
    holds_need (eqb (u16 bytes 10) (nodes_at bytes)) header_wrong _ λ e7.
    holds_need (eqb (u16 bytes 12) (total bytes)) header_wrong _ λ e8.
    holds_need (eqb (u16 bytes 14) 0) header_wrong _ λ e9.
    last (eqb (length bytes) (total bytes)) refl
  where
    last : (b : Bool) → eqb (length bytes) (total bytes) ≡ b → Holds (λ u. length bytes ≡ total bytes) (need b header_wrong)
    last true e = value (eqb-true (length bytes) (total bytes) e)
    last false e = vacant

header_total : (bytes : List ℕ) → check_header bytes ≡ accepted tt → length bytes ≡ total bytes
header_total bytes e = holds_of (subst (Holds (λ u. length bytes ≡ total bytes)) e (header_long bytes))

module _ (bytes : List ℕ) (p : Program) (checked : check bytes ≡ accepted p) where
  pub through : Through bytes p
  through = holds_of (subst (Holds (Through bytes)) checked (check_through bytes))

  grows : Grows (types_of bytes) [] (nodes_of bytes) (parts_of bytes)
  grows = holds_of (subst (Holds (Grows (types_of bytes) [] (nodes_of bytes))) through.parts (all_made (types_of bytes) [] (nodes_of bytes)))

  pub parts_long : length (parts_of bytes) ≡ nodes bytes
  unfolding nodes_of
  parts_long = grows.long ∙ zero-add (length (nodes_of bytes)) ∙ length_nodes (nodes bytes) (drop (nodes_at bytes) bytes)

  pub root_at : part_at bytes (nodes bytes - 1) ≡ some (statement p.root)
  unfolding part_at
  root_at = ap (λ (n : ℕ). get_elem? (parts_of bytes) (n - 1)) (sym parts_long) ∙ through.root

  -- a node that has a part is one of the table
  pub part_below : (i : ℕ) (q : Part) → part_at bytes i ≡ some q → i < nodes bytes
  unfolding part_at
  part_below i q e = subst (λ n. i < n) parts_long (below_length (parts_of bytes) i q e)

  made_at : (i : ℕ) → i < nodes bytes → MadeAt (types_of bytes) (parts_of bytes) i (node_at bytes i)
  unfolding nodes_of node_at
  made_at i below = subst (λ k. MadeAt (types_of bytes) (parts_of bytes) k (read_node (drop (nodes_at bytes + 8 * i) bytes))) (zero-add i)
      (grows.at i (read_node (drop (nodes_at bytes + 8 * i) bytes))
      (nodes_found (nodes bytes) i (drop (nodes_at bytes) bytes) below
      ∙ ap (λ (bs : List ℕ). some (read_node bs)) (drop-drop (8 * i) (nodes_at bytes) bytes)))

  -- what stands at a node: its kind, and what it is built of
  pub record Stands (i : ℕ) (q : Part) : Type 0 where
    pub kind : Kind
    pub number : (node_at bytes i).kind ≡ number_of_kind kind
    pub built : Built (types_of bytes) (take i (parts_of bytes)) i (node_at bytes i) kind q

  by_kind : (i : ℕ) (q : Part) (o : Option Kind) → kind_of (node_at bytes i).kind ≡ o
      → make_kind (types_of bytes) (take i (parts_of bytes)) i (node_at bytes i) o ≡ accepted q → Stands i q
  unfolding make_kind
  by_kind i q none e m = absurd (refused_accepted m)
    where
      refused_accepted : ◌≡◌ {A = Outcome Part} (refused node_wrong) (accepted q) → ⊥
      refused_accepted r = let z : ◌≡◌ {A = ℕ} 0 1 = cc in omega arith
  by_kind i q (some k) e m = record {
    kind = k;
    number = sym (kind_number (node_at bytes i).kind k e);
    built = holds_of (subst (Holds (Built (types_of bytes) (take i (parts_of bytes)) i (node_at bytes i) k)) m
        (make_built (types_of bytes) (take i (parts_of bytes)) i (node_at bytes i) k));
  }

  pub stands : (i : ℕ) (q : Part) → part_at bytes i ≡ some q → Stands i q
  unfolding part_at
  stands i q e =
      let m = made_at i (part_below i q (unfold part_at in e)) in
      subst (Stands i) (some_injective (sym m.here ∙ e)) (by_kind i m.part (kind_of (node_at bytes i).kind) refl m.made)

  -- a child of a node is below it, and has its part
  pub child_at : (i c : ℕ) (q : Part) → get_elem? (take i (parts_of bytes)) c ≡ some q → (c < i) × (part_at bytes c ≡ some q)
  unfolding part_at
  child_at i c q e = take_found (parts_of bytes) i c q e

  -- a node with this kind's number is built as that kind
  pub stands_as : (i : ℕ) (q : Part) (k : Kind) → part_at bytes i ≡ some q → (node_at bytes i).kind ≡ number_of_kind k
      → Built (types_of bytes) (take i (parts_of bytes)) i (node_at bytes i) k q
  stands_as i q k e n =
      let s = stands i q e in
      subst (λ (j : Kind). Built (types_of bytes) (take i (parts_of bytes)) i (node_at bytes i) j q)
      (kind_injective s.kind k (sym s.number ∙ n)) s.built

  -- the bytes of a node that has a part are inside the table
  pub node_inside : (i : ℕ) (q : Part) → part_at bytes i ≡ some q → nodes_at bytes + 8 * i + 8 ≤ length bytes
  unfolding total
  node_inside i q e =
      let below : i < nodes bytes = part_below i q e in
      let whole : length bytes ≡ nodes_at bytes + 8 * nodes bytes = header_total bytes through.header in
      omega arith

  -- every part is typed
  pub part_typed : (i : ℕ) (q : Part) → part_at bytes i ≡ some q → PartTyped (types_of bytes) q
  unfolding part_at
  part_typed i q e =
      let all : AllTyped (types_of bytes) (parts_of bytes)
      = holds_of (subst (Holds (AllTyped (types_of bytes))) through.parts (all_typed (types_of bytes) [] tt (nodes_of bytes))) in
      subst (FoundTyped (types_of bytes)) e (found_typed (types_of bytes) (parts_of bytes) all i)
