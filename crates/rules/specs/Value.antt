-- "Values and changes": a number is a 32-bit signed value, a truth is 0 or 1; a number's change is a signed difference,
-- a truth's change is 0 (keep) or 1 (flip). Zero is the only "no change".
-- A store or change list is 32 words, zero from the table's variable count on (`padded`); as it is handed in, and in a record's
-- header, it is a list of one word for each variable of the table.
-- Assumes nothing.
use Rattle.std.specs.Prelude.{ℕ, ◌-◌, Bool, true, false, not, ◌&&◌, List, [], ◌∷◌, ◌++◌, map, length, get_or, set, replicate, ℤ, pos, negsuc, ◌+ℤ◌, ◌-ℤ◌}
use Rattle.numbers.specs.Signed.{eq_z, between}

pub data Ty : Type 0 where
  number : Ty
  truth : Ty

unfoldable pub lowest : ℤ
lowest = negsuc 2_147_483_647

unfoldable pub highest : ℤ
highest = pos 2_147_483_647

-- the value is one of its type
unfoldable pub in_type : Ty → ℤ → Bool
in_type number z = between lowest highest z
in_type truth z = between (pos 0) (pos 1) z

-- a test's answer as a truth
abbrev pub bit : Bool → ℤ
bit true = pos 1
bit false = pos 0

-- "Between two truths, minus means 1 when they differ, else 0."
unfoldable pub differ : ℤ → ℤ → ℤ
differ a b = bit (not (eq_z a b))

-- new = old + change; a flip turns a truth round
unfoldable pub plus : Ty → ℤ → ℤ → ℤ
plus number old change = old +ℤ change
plus truth old change = differ old change

-- change = new - old
unfoldable pub minus : Ty → ℤ → ℤ → ℤ
minus number new old = new -ℤ old
minus truth new old = differ new old

-- ---- stores and change lists

-- "variables V (1..32)"
unfoldable pub most_variables : ℕ
most_variables = 32

-- a list's word for one variable
abbrev pub at : List ℤ → ℕ → ℤ
at words v = get_or words v (pos 0)

abbrev pub type_of : List Ty → ℕ → Ty
type_of types v = get_or types v number

unfoldable pub zeros : ℕ → List ℤ
zeros n = replicate n (pos 0)

-- the words of the table's variables, then zeros for the rest of the 32
unfoldable pub padded : List ℤ → List ℤ
padded words = words ++ zeros (most_variables - length words)

-- one word for each variable, each in its type
unfoldable pub fit : List Ty → List ℤ → Bool
fit [] [] = true
fit [] (z ∷ zs) = false
fit (t ∷ ts) [] = false
fit (t ∷ ts) (z ∷ zs) = in_type t z && fit ts zs

-- every word moved by its change; the three lists are equally long
unfoldable pub plus_all : List Ty → List ℤ → List ℤ → List ℤ
plus_all [] olds changes = []
plus_all (t ∷ ts) [] changes = []
plus_all (t ∷ ts) (z ∷ zs) [] = []
plus_all (t ∷ ts) (z ∷ zs) (c ∷ cs) = plus t z c ∷ plus_all ts zs cs

-- ---- the variables of a statement, and their values

-- "A snapshot of a statement is the values of the variables it mentions, by rising number, and no others."
unfoldable pub snapshot : List ℕ → List ℤ → List ℤ
snapshot vs store = map (at store) vs

-- the words with each listed variable's word set anew; the two lists are equally long
unfoldable pub put : List ℕ → List ℤ → List ℤ → List ℤ
put [] news words = words
put (v ∷ vs) [] words = words
put (v ∷ vs) (z ∷ zs) words = put vs zs (set words v z)

-- each listed variable's new value minus its old one; the three lists are equally long
unfoldable pub minus_all : List Ty → List ℕ → List ℤ → List ℤ → List ℤ
minus_all types [] news olds = []
minus_all types (v ∷ vs) [] olds = []
minus_all types (v ∷ vs) (n ∷ ns) [] = []
minus_all types (v ∷ vs) (n ∷ ns) (o ∷ os) = minus (type_of types v) n o ∷ minus_all types vs ns os

-- all the listed variables have change 0
unfoldable pub unchanged : List ℕ → List ℤ → Bool
unchanged [] changes = true
unchanged (v ∷ vs) changes = eq_z (at changes v) (pos 0) && unchanged vs changes
