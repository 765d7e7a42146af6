-- The part that a node makes: the rules make it of trees, the code keeps the sort and the height of each.
-- Assumes nothing.
use Rattle.std.specs.Prelude.{◌≡◌, ℕ, ◌+◌, ◌<◌, min, Bool, true, false, List, length, get_or, leb, ltb, eqb, None, Result, Ok, Err}
use Rattle.std.specs.Prelude.{Option as Optional}
use Rattle.std.proofs.Math.Path.{refl, ap}
use Rattle.std.proofs.Common.{sym, arith, ltb-true}
use Rattle.std.proofs.Math.Option.{Option, none, some}
use Rattle.std.proofs.Math.ListN.{get_elem?}
use Rattle.std.proofs.Math.Dec.{leb-suc-suc}
use Rattle.rules.specs.Outcome.{Outcome, accepted, refused, ◌>>=◌, need, choose, node_wrong}
use Rattle.rules.specs.Value.{Ty, type_of}
use Rattle.rules.specs.Tree.{Expression, Statement, depth_of, depth}
use Rattle.rules.specs.Table as Table
use Rattle.rules.specs.Table.{byte, ty_of, types_of, Kind, number_constant, truth_constant, variable, operator, skip, assign, sequence, if, repeat, expression, statement, is_type, as_expression, as_statement, unused, make, make_kind}
use Rattle.table.specs.declared.answer.Refusal.{Refusal}
use Rattle.table.specs.declared.node.Sort.{Sort}
use Rattle.table.specs.declared.node.Part.{Part}
use Rattle.table.specs.Agrees.{Agrees, both, neither}
use Rattle.table.specs.Sorts.{sort_of_type, sort_of, height_of, kept, kept_in, ◌then◌, height_as, form, part_by}

-- the answer is what the code keeps of the part that is made
abbrev pub Made : Outcome Table.Part → Result Part Refusal → Type 0
Made = Agrees (λ p q. q ≡ kept p)

-- ---- a test, a field, a child

wrong : Made (refused node_wrong) (Err Refusal.Node)
wrong = neither refl

made : (p : Table.Part) (s : Sort) (h : ℕ) → s ≡ sort_of p → h ≡ min 25 (height_of p) → Made (accepted p) (Ok (record { sort = s; height = h }))
made p s h e f = both (λ i. record { sort = e i; height = f i })

need_made : (b : Bool) (next : Unit {0} → Outcome Table.Part) (r : Result Part Refusal) → (b ≡ true → Made (next tt) r)
    → Made (need b node_wrong >>= next) (choose b r (Err Refusal.Node))
need_made true next r step = step refl
need_made false next r step = wrong

zero_made : (b : Bool) (next : Unit {0} → Outcome Table.Part) (after : ℕ → Result Part Refusal) → Made (next tt) (after 0)
    → Made (need b node_wrong >>= next) (choose b (Ok 0) (Err Refusal.Node) then after)
zero_made true next after step = step
zero_made false next after step = wrong

expression_made : (t : Ty) (o : Option Table.Part) (next : Expression → Outcome Table.Part) (after : ℕ → Result Part Refusal)
    → ((e : Expression) → Made (next e) (after (min 25 (depth_of e))))
    → Made (as_expression t o >>= next) (height_as (sort_of_type t) (kept_in o) then after)
unfolding as_expression is_type
expression_made Ty.number none next after step = wrong
expression_made Ty.number (some (expression Ty.number e)) next after step = step e
expression_made Ty.number (some (expression Ty.truth e)) next after step = wrong
expression_made Ty.number (some (statement t)) next after step = wrong
expression_made Ty.truth none next after step = wrong
expression_made Ty.truth (some (expression Ty.number e)) next after step = wrong
expression_made Ty.truth (some (expression Ty.truth e)) next after step = step e
expression_made Ty.truth (some (statement t)) next after step = wrong

statement_made : (o : Option Table.Part) (next : Statement → Outcome Table.Part) (after : ℕ → Result Part Refusal)
    → ((t : Statement) → Made (next t) (after (min 25 (depth t))))
    → Made (as_statement o >>= next) (height_as Sort.Statement (kept_in o) then after)
unfolding as_statement
statement_made none next after step = wrong
statement_made (some (expression Ty.number e)) next after step = wrong
statement_made (some (expression Ty.truth e)) next after step = wrong
statement_made (some (statement t)) next after step = step t

below_two : (x : ℕ) → leb x 1 ≡ ltb x 2
below_two x = sym (leb-suc-suc x 1)

-- ---- each kind

module _ (bytes : List ℕ) (v : ℕ) (count : v ≡ length (types_of bytes))
    (types : (i : ℕ) → i < v → ty_of (byte bytes (16 + i)) ≡ type_of (types_of bytes) i)
    (parts : List Table.Part) (keeps : List (Optional Part)) (seen : (i : ℕ) → get_or keeps i None ≡ kept_in (get_elem? parts i))
    (self : ℕ) (n : Table.Node) where
  child : (t : Ty) (x : ℕ) (next : Expression → Outcome Table.Part) (after : ℕ → Result Part Refusal)
      → ((e : Expression) → Made (next e) (after (min 25 (depth_of e))))
      → Made (as_expression t (get_elem? parts x) >>= next) (height_as (sort_of_type t) (get_or keeps x None) then after)
  child t x next after step = rw (seen x) (expression_made t (get_elem? parts x) next after step)

  body : (x : ℕ) (next : Statement → Outcome Table.Part) (after : ℕ → Result Part Refusal)
      → ((t : Statement) → Made (next t) (after (min 25 (depth t))))
      → Made (as_statement (get_elem? parts x) >>= next) (height_as Sort.Statement (get_or keeps x None) then after)
  body x next after step = rw (seen x) (statement_made (get_elem? parts x) next after step)

  named : (next : Unit {0} → Outcome Table.Part) (r : Result Part Refusal) → (n.tag < v → Made (next tt) r)
      → Made (need (ltb n.tag (length (types_of bytes))) node_wrong >>= next) (choose (ltb n.tag v) r (Err Refusal.Node))
  named next r step = rw (← count) (need_made (ltb n.tag v) next r λ e. step (ltb-true n.tag v e))

  -- the child has the type of the variable that the tag names
  typed_child : n.tag < v → (x : ℕ) (next : Expression → Outcome Table.Part) (after : ℕ → Result Part Refusal)
      → ((e : Expression) → Made (next e) (after (min 25 (depth_of e))))
      → Made (as_expression (type_of (types_of bytes) n.tag) (get_elem? parts x) >>= next)
      (height_as (sort_of_type (ty_of (byte bytes (16 + n.tag)))) (get_or keeps x None) then after)
  typed_child low x next after step = rw (types n.tag low) (child (type_of (types_of bytes) n.tag) x next after step)

  pub part_made : (k : Kind) → Made (make (types_of bytes) parts self n k) (part_by bytes v (form k) n keeps)
  unfolding make unused part_by depth_of depth
  part_made number_constant = need_made (eqb n.tag 0) _ _ λ e. zero_made (eqb n.a 0) _ _ (made _ _ _ refl refl)
  part_made truth_constant = rw (below_two n.tag) (need_made (ltb n.tag 2) _ _ λ e.
      zero_made (eqb n.a 0) _ _ (zero_made (eqb n.b 0) _ _ (zero_made (eqb n.c 0) _ _ (made _ _ _ refl refl))))
  part_made variable = named _ _ λ low.
      zero_made (eqb n.a 0) _ _ (zero_made (eqb n.b 0) _ _ (zero_made (eqb n.c 0) _ _ (made _ _ _ (ap sort_of_type (types n.tag low)) refl)))
  part_made (operator o) = need_made (eqb n.tag 0) _ _ λ e. child Ty.number n.a _ _ λ l. child Ty.number n.b _ _ λ r.
      zero_made (eqb n.c 0) _ _ (made _ _ _ refl (omega arith))
  part_made skip = need_made (eqb n.tag 0) _ _ λ e.
      zero_made (eqb n.a 0) _ _ (zero_made (eqb n.b 0) _ _ (zero_made (eqb n.c 0) _ _ (made _ _ _ refl refl)))
  part_made assign = named _ _ λ low. typed_child low n.a _ _ λ e.
      zero_made (eqb n.b 0) _ _ (zero_made (eqb n.c 0) _ _ (made _ _ _ refl (omega arith)))
  part_made sequence = need_made (eqb n.tag 0) _ _ λ e. body n.a _ _ λ s. body n.b _ _ λ t.
      zero_made (eqb n.c 0) _ _ (made _ _ _ refl (omega arith))
  part_made if = need_made (eqb n.tag 0) _ _ λ e. child Ty.truth n.a _ _ λ e. body n.b _ _ λ s. body n.c _ _ λ t.
      made _ _ _ refl (omega arith)
  part_made repeat = need_made (eqb n.tag 0) _ _ λ e. child Ty.number n.a _ _ λ e. body n.b _ _ λ s.
      zero_made (eqb n.c 0) _ _ (made _ _ _ refl (omega arith))
