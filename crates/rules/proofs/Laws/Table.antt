-- What an accepted table gives: at most 32 variables, and a typed tree. Each part that is made is typed, since its children were.
-- Assumes nothing.
use Rattle.std.specs.Prelude.{◌≡◌, refl, ℕ, zero, suc, ◌+◌, ◌-◌, ◌*◌, ◌%◌, ◌≤◌, ◌<◌, Bool, true, false, cond, List, [], ◌∷◌, ◌++◌, length, take, drop, leb, ltb, pos, negsuc}
use Rattle.std.proofs.Common.{arith, length-take, leb-true, le-leb, ltb-true, ltb-false}
use Rattle.std.proofs.lemmas.Bool.{false≢true}
use Rattle.std.proofs.Math.Option.{Option, none, some}
use Rattle.std.proofs.Math.ListN.{get_elem?}
use Rattle.std.proofs.lemmas.List.{length-map}
use Rattle.numbers.specs.Signed.{between}
use Rattle.numbers.specs.Laws.{and_both}
use Rattle.rules.specs.Outcome.{Outcome, accepted, refused, ◌>>=◌, need, header_wrong, node_wrong, too_deep}
use Rattle.rules.specs.Value.{Ty, most_variables, lowest, highest, in_type, type_of}
use Rattle.rules.specs.Tree.{Expression, Statement, depth}
use Rattle.rules.specs.Table.{signed, header_length, marked, variables, check_header, check_types, nodes_of, children, check_uses, most_depth, type_bytes, ty_of, types_of, Node, constant_of, Kind, kind_of, number_constant, truth_constant, variable, operator, skip, assign, sequence, if, repeat, Part, expression, statement, is_type, as_expression, as_statement, unused, make, make_kind, make_all, root_of, Program, check}
use Rattle.rules.proofs.Laws.Outcome.{Holds, value, vacant, holds_bind, holds_need, holds_any, holds_const}
use Rattle.rules.proofs.Laws.Typed.{TypedAs, Typed}

-- ---- a number constant is in range

low_end : (m : ℕ) → m < 2_147_483_648 → in_type Ty.number (negsuc (2_147_483_648 - suc m)) ≡ true
unfolding in_type between lowest highest
low_end m h = and_both (le-leb (2_147_483_648 - suc m) 2_147_483_647 (omega arith)) refl

high_end : (m : ℕ) → m < 4_294_967_296 → 2_147_483_648 ≤ m → in_type Ty.number (pos (m - 2_147_483_648)) ≡ true
unfolding in_type between lowest highest
high_end m h k = and_both refl (le-leb (m - 2_147_483_648) 2_147_483_647 (omega arith))

half_down : (m : ℕ) → m < 4_294_967_296 → (b : Bool) → ltb m 2_147_483_648 ≡ b
    → in_type Ty.number (cond b (negsuc (2_147_483_648 - suc m)) (pos (m - 2_147_483_648))) ≡ true
half_down m h true e = low_end m (ltb-true m 2_147_483_648 e)
half_down m h false e = high_end m h (ltb-false m 2_147_483_648 e)

pub signed_in : (n : ℕ) → in_type Ty.number (signed n) ≡ true
unfolding signed
signed_in n = half_down ((n + 2_147_483_648) % 4_294_967_296) (omega arith) (ltb ((n + 2_147_483_648) % 4_294_967_296) 2_147_483_648) refl

-- and a truth constant
bit_in : (n : ℕ) → n ≤ 1 → in_type Ty.truth (pos n) ≡ true
unfolding in_type between
bit_in n h = and_both (le-leb 0 n (omega arith)) (le-leb n 1 h)

-- ---- parts

abbrev pub PartTyped : List Ty → Part → Type 0
PartTyped types (expression t e) = TypedAs types t e
PartTyped types (statement s) = Typed types s

-- all of them are typed
abbrev pub AllTyped : List Ty → List Part → Type 0
AllTyped types [] = Unit {0}
AllTyped types (p ∷ ps) = PartTyped types p × AllTyped types ps

abbrev pub FoundTyped : List Ty → Option Part → Type 0
FoundTyped types none = Unit {0}
FoundTyped types (some p) = PartTyped types p

pub found_typed : (types : List Ty) (parts : List Part) → AllTyped types parts → (i : ℕ) → FoundTyped types (get_elem? parts i)
found_typed types [] h i = tt
found_typed types (p ∷ ps) h zero = h.0
found_typed types (p ∷ ps) h (suc i) = found_typed types ps h.1 i

more_typed : (types : List Ty) (parts : List Part) (p : Part) → AllTyped types parts → PartTyped types p → AllTyped types (parts ++ p ∷ [])
more_typed types [] p h k = (k, tt)
more_typed types (q ∷ qs) p h k = (h.0, more_typed types qs p h.1 k)

pub is_type_lem : (t u : Ty) → is_type t u ≡ true → u ≡ t
unfolding is_type
is_type_lem Ty.number Ty.number e = refl
is_type_lem Ty.number Ty.truth e = absurd (false≢true e)
is_type_lem Ty.truth Ty.number e = absurd (false≢true e)
is_type_lem Ty.truth Ty.truth e = refl

expression_typed : (types : List Ty) (t : Ty) (o : Option Part) → FoundTyped types o → Holds (TypedAs types t) (as_expression t o)
unfolding as_expression
expression_typed types t none h = vacant
expression_typed types t (some (expression u e)) h = holds_need (is_type t u) node_wrong _ λ q. value (rw (is_type_lem t u q) at h)
expression_typed types t (some (statement s)) h = vacant

statement_typed : (types : List Ty) (o : Option Part) → FoundTyped types o → Holds (Typed types) (as_statement o)
unfolding as_statement
statement_typed types none h = vacant
statement_typed types (some (expression t e)) h = vacant
statement_typed types (some (statement s)) h = value h

module _ (types : List Ty) (parts : List Part) (typed : AllTyped types parts) (self : ℕ) (n : Node) where
  -- a test that leaves nothing for the types
  tested : (m : Outcome (Unit {0})) (next : Unit {0} → Outcome Part) → Holds (PartTyped types) (next tt) → Holds (PartTyped types) (m >>= next)
  tested (accepted tt) next h = h
  tested (refused r) next h = vacant

  -- the child of a field, as an expression or a statement
  child : (t : Ty) (i : ℕ) (next : Expression → Outcome Part) → ((e : Expression) → TypedAs types t e → Holds (PartTyped types) (next e))
      → Holds (PartTyped types) (as_expression t (get_elem? parts i) >>= next)
  child t i next step = holds_bind (as_expression t (get_elem? parts i)) next (expression_typed types t (get_elem? parts i) (found_typed types parts typed i)) step

  below : (i : ℕ) (next : Statement → Outcome Part) → ((s : Statement) → Typed types s → Holds (PartTyped types) (next s))
      → Holds (PartTyped types) (as_statement (get_elem? parts i) >>= next)
  below i next step = holds_bind (as_statement (get_elem? parts i)) next (statement_typed types (get_elem? parts i) (found_typed types parts typed i)) step

  make_typed : (k : Kind) → Holds (PartTyped types) (make types parts self n k)
  unfolding make constant_of
  make_typed number_constant = tested (unused n.tag) _ (tested (unused n.a) _ (value (signed_in (n.b + 65536 * n.c))))
  make_typed truth_constant = holds_need (leb n.tag 1) node_wrong _ λ e.
      tested (unused n.a) _ (tested (unused n.b) _ (tested (unused n.c) _ (value (bit_in n.tag (leb-true n.tag 1 e)))))
  make_typed variable = tested (need (ltb n.tag (length types)) node_wrong) _
      (tested (unused n.a) _ (tested (unused n.b) _ (tested (unused n.c) _ (value refl))))
  make_typed (operator o) = tested (unused n.tag) _
      (child Ty.number n.a _ λ l hl. child Ty.number n.b _ λ r hr. tested (unused n.c) _ (value (hl, hr, refl)))
  make_typed skip = tested (unused n.tag) _ (tested (unused n.a) _ (tested (unused n.b) _ (tested (unused n.c) _ (value tt))))
  make_typed assign = tested (need (ltb n.tag (length types)) node_wrong) _
      (child (type_of types n.tag) n.a _ λ e he. tested (unused n.b) _ (tested (unused n.c) _ (value he)))
  make_typed sequence = tested (unused n.tag) _
      (below n.a _ λ s hs. below n.b _ λ t ht. tested (unused n.c) _ (value (hs, ht)))
  make_typed if = tested (unused n.tag) _
      (child Ty.truth n.a _ λ e he. below n.b _ λ s hs. below n.c _ λ t ht. value (he, hs, ht))
  make_typed repeat = tested (unused n.tag) _
      (child Ty.number n.a _ λ e he. below n.b _ λ s hs. tested (unused n.c) _ (value (he, hs)))

  made_typed : (o : Option Kind) → Holds (PartTyped types) (make_kind types parts self n o)
  unfolding make_kind
  made_typed none = vacant
  made_typed (some k) = make_typed k

pub all_typed : (types : List Ty) (parts : List Part) → AllTyped types parts → (ns : List Node) → Holds (AllTyped types) (make_all types parts ns)
unfolding make_all
all_typed types parts typed [] = value typed
all_typed types parts typed (n ∷ ns) =
    holds_bind (make_kind types parts (length parts) n (kind_of n.kind)) _ (made_typed types parts typed (length parts) n (kind_of n.kind)) λ p h.
    all_typed types (parts ++ p ∷ []) (more_typed types parts p typed h) ns

-- ---- the whole check

header_few : (bytes : List ℕ) → Holds (λ u. variables bytes ≤ most_variables) (check_header bytes)
unfolding check_header
header_few bytes = holds_need (leb header_length (length bytes)) header_wrong _ λ long. holds_need (marked bytes) header_wrong _ λ mark.
    holds_need (leb 1 (variables bytes)) header_wrong _ λ some. holds_need (leb (variables bytes) most_variables) header_wrong _ λ few.
    holds_const _ (leb-true (variables bytes) most_variables few)

types_few : (bytes : List ℕ) → variables bytes ≤ most_variables → length (types_of bytes) ≤ most_variables
unfolding types_of type_bytes
types_few bytes h =
    rw (length-map (take (variables bytes) (drop header_length bytes)) ty_of, length-take (variables bytes) (drop header_length bytes)) (omega arith)

-- what an accepted table gives
pub record Sound (p : Program) : Type 0 where
  pub few : length p.types ≤ most_variables
  pub typed : Typed p.types p.root

pub check_sound : (bytes : List ℕ) → Holds Sound (check bytes)
unfolding check root_of
check_sound bytes =
    holds_bind (check_header bytes) _ (header_few bytes) λ u few.
    holds_bind (check_types (type_bytes bytes)) _ (holds_any (check_types (type_bytes bytes))) λ u₂ any.
    holds_bind (make_all (types_of bytes) [] (nodes_of bytes)) _ (all_typed (types_of bytes) [] tt (nodes_of bytes)) λ parts typed.
    holds_bind (as_statement (get_elem? parts (length parts - 1))) _
    (statement_typed (types_of bytes) (get_elem? parts (length parts - 1)) (found_typed (types_of bytes) parts typed (length parts - 1))) λ root h.
    holds_bind (check_uses (length parts - 1) (children (nodes_of bytes))) _ (holds_any (check_uses (length parts - 1) (children (nodes_of bytes)))) λ u₃ once.
    holds_need (leb (depth root) most_depth) too_deep _ λ shallow.
    value (record { few = types_few bytes few; typed = h })
