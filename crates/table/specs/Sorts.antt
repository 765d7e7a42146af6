-- What the check of a node looks at: the sort and the height of each part made before, and what the node's kind asks of its fields.
-- Assumes nothing.
use Rattle.std.specs.Prelude.{◌≡◌, ℕ, suc, ◌+◌, max, min, Bool, true, false, List, [], ◌∷◌, ◌++◌, get_or, ltb, eqb, Option, None, Some, Result, Ok, Err, MatchResult}
use Rattle.std.proofs.Math.Option as Maybe
use Rattle.rules.specs.Outcome.{choose}
use Rattle.rules.specs.Value.{Ty}
use Rattle.rules.specs.Tree.{gives, depth_of, depth}
use Rattle.rules.specs.Table as Table
use Rattle.rules.specs.Table.{byte, ty_of, Kind, number_constant, truth_constant, variable, operator, skip, assign, sequence, if, repeat, expression, statement}
use Rattle.table.specs.declared.answer.Refusal.{Refusal}
use Rattle.table.specs.declared.node.Fields.{Fields}
use Rattle.table.specs.declared.node.Node.{Node}
use Rattle.table.specs.declared.node.Sort.{Sort}
use Rattle.table.specs.declared.node.Part.{Part}
use Rattle.table.specs.declared.node.Tag.{Tag}
use Rattle.table.specs.declared.node.Wanted.{Wanted}
use Rattle.table.specs.declared.node.Field.{Field}
use Rattle.table.specs.declared.node.Form.{Form}
use Rattle.table.specs.Kinds.{paper_kind, kind_number_of}

-- the paper's node, of the fields that the code reads
abbrev pub fields_of : Fields → Table.Node
fields_of x = record { kind = x.kind; tag = x.tag; a = x.a; b = x.b; c = x.c }

-- and of a node whose kind is known
abbrev pub node_of : Node → Table.Node
node_of x = record { kind = kind_number_of x.kind; tag = x.tag; a = x.a; b = x.b; c = x.c }

-- the node is read, or its kind is none and it is refused
abbrev pub IsRead : Table.Node → Result Node Refusal → Type 0
IsRead n r = MatchResult r
    (λ x. (Table.kind_of n.kind ≡ Maybe.some (paper_kind x.kind)) × (node_of x ≡ n))
    (λ reason. (reason ≡ Refusal.Node) × (Table.kind_of n.kind ≡ Maybe.none))

-- a type's byte
abbrev pub ty_byte : Ty → ℕ
ty_byte Ty.number = 0
ty_byte Ty.truth = 1

-- ---- sorts and heights of parts; 25 stands for any height above 24

abbrev pub sort_of_type : Ty → Sort
sort_of_type Ty.number = Sort.Number
sort_of_type Ty.truth = Sort.Truth

abbrev pub sort_of : Table.Part → Sort
sort_of (expression t e) = sort_of_type t
sort_of (statement s) = Sort.Statement

abbrev pub height_of : Table.Part → ℕ
height_of (expression t e) = depth_of e
height_of (statement s) = depth s

-- what the code keeps of a part, and of one that may be missing
abbrev pub kept : Table.Part → Part
kept p = record { sort = sort_of p; height = min 25 (height_of p) }

abbrev pub kept_in : Maybe.Option Table.Part → Option Part
kept_in Maybe.none = None
kept_in (Maybe.some p) = Some (kept p)

-- ---- what a kind asks

abbrev pub asked : Tag → Field → Field → Field → Wanted → Form
asked tag a b c gives = record { tag = tag; a = a; b = b; c = c; gives = gives }

abbrev pub child_of : Sort → Field
child_of s = Field.Child (Wanted.Sort s)

abbrev pub form : Kind → Form
form number_constant = asked Tag.Zero Field.Zero Field.Free Field.Free (Wanted.Sort Sort.Number)
form truth_constant = asked Tag.Bit Field.Zero Field.Zero Field.Zero (Wanted.Sort Sort.Truth)
form variable = asked Tag.Variable Field.Zero Field.Zero Field.Zero Wanted.Tagged
form (operator o) = asked Tag.Zero (child_of Sort.Number) (child_of Sort.Number) Field.Zero (Wanted.Sort (sort_of_type (gives o)))
form skip = asked Tag.Zero Field.Zero Field.Zero Field.Zero (Wanted.Sort Sort.Statement)
form assign = asked Tag.Variable (Field.Child Wanted.Tagged) Field.Zero Field.Zero (Wanted.Sort Sort.Statement)
form sequence = asked Tag.Zero (child_of Sort.Statement) (child_of Sort.Statement) Field.Zero (Wanted.Sort Sort.Statement)
form if = asked Tag.Zero (child_of Sort.Truth) (child_of Sort.Statement) (child_of Sort.Statement) (Wanted.Sort Sort.Statement)
form repeat = asked Tag.Zero (child_of Sort.Number) (child_of Sort.Statement) Field.Zero (Wanted.Sort Sort.Statement)

-- of no kind, what no node fits
abbrev pub form_by : Maybe.Option Kind → Form
form_by Maybe.none = asked Tag.Never Field.Free Field.Free Field.Free (Wanted.Sort Sort.Statement)
form_by (Maybe.some k) = form k

abbrev pub tag_fits : Tag → ℕ → ℕ → Bool
tag_fits Tag.Zero tag v = eqb tag 0
tag_fits Tag.Bit tag v = ltb tag 2
tag_fits Tag.Variable tag v = ltb tag v
tag_fits Tag.Never tag v = false

-- the sort that is asked for or given, where it may be the type of the variable that the tag names
abbrev pub wanted_by : List ℕ → Wanted → ℕ → Sort
wanted_by bytes (Wanted.Sort s) tag = s
wanted_by bytes Wanted.Tagged tag = sort_of_type (ty_of (byte bytes (16 + tag)))

abbrev pub is_sort : Sort → Sort → Bool
is_sort Sort.Number Sort.Number = true
is_sort Sort.Number Sort.Truth = false
is_sort Sort.Number Sort.Statement = false
is_sort Sort.Truth Sort.Number = false
is_sort Sort.Truth Sort.Truth = true
is_sort Sort.Truth Sort.Statement = false
is_sort Sort.Statement Sort.Number = false
is_sort Sort.Statement Sort.Truth = false
is_sort Sort.Statement Sort.Statement = true

-- ---- the part that a node makes

-- go on with the value; a refusal is handed up unchanged
infixl 10 ◌then◌
abbrev pub ◌then◌ : {A B : Type 0} → Result A Refusal → (A → Result B Refusal) → Result B Refusal
Ok a then next = next a
Err r then next = Err r

-- the height of a part, which is to be there and of this sort
abbrev pub height_as : Sort → Option Part → Result ℕ Refusal
height_as s None = Err Refusal.Node
height_as s (Some p) = choose (is_sort p.sort s) (Ok p.height) (Err Refusal.Node)

-- the height of a field's child, 0 where it has none; refused where the field is not as asked
abbrev pub field_by : List ℕ → Field → ℕ → ℕ → List (Option Part) → Result ℕ Refusal
field_by bytes Field.Free x tag parts = Ok 0
field_by bytes Field.Zero x tag parts = choose (eqb x 0) (Ok 0) (Err Refusal.Node)
field_by bytes (Field.Child w) x tag parts = height_as (wanted_by bytes w tag) (get_or parts x None)

-- one more than the highest child
abbrev pub height_by : ℕ → ℕ → ℕ → ℕ
height_by a b c = min 25 (suc (max (max a b) c))

-- the height of a field's child as it is kept, 0 where it has none or none is kept
abbrev pub height_kept : Option Part → ℕ
height_kept None = 0
height_kept (Some p) = p.height

abbrev pub child_height : Field → ℕ → List (Option Part) → ℕ
child_height Field.Free x parts = 0
child_height Field.Zero x parts = 0
child_height (Field.Child w) x parts = height_kept (get_or parts x None)

-- the height that a form gives a node, whether or not the node fits it
abbrev pub height_for : Form → Table.Node → List (Option Part) → ℕ
height_for f n parts = height_by (child_height f.a n.a parts) (child_height f.b n.b parts) (child_height f.c n.c parts)

unfoldable pub part_by : List ℕ → ℕ → Form → Table.Node → List (Option Part) → Result Part Refusal
part_by bytes v f n parts =
    choose (tag_fits f.tag n.tag v)
    (field_by bytes f.a n.a n.tag parts then λ a.
    field_by bytes f.b n.b n.tag parts then λ b.
    field_by bytes f.c n.c n.tag parts then λ c.
    Ok (record { sort = wanted_by bytes f.gives n.tag; height = height_by a b c }))
    (Err Refusal.Node)

-- ---- children

-- the children of a field: one, or none where the field is no child
abbrev pub child_in : Field → ℕ → List ℕ
child_in Field.Free x = []
child_in Field.Zero x = []
child_in (Field.Child w) x = x ∷ []

unfoldable pub children_in : Form → Table.Node → List ℕ
children_in f n = child_in f.a n.a ++ (child_in f.b n.b ++ child_in f.c n.c)
