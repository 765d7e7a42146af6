-- The nodes as the code meets them: by the place of their bytes, and by their fields.
-- Assumes nothing.
use Rattle.std.specs.Prelude.{◌≡◌, refl, ℕ, zero, suc, ◌+◌, ◌*◌, ◌%◌, ◌≤◌, ◌<◌, pos, ◌-ℤ◌, true, false, ltb, List, [], ◌∷◌, length, get_or, drop}
use Rattle.std.proofs.Common.{ap, sym, ◌∙◌, add-zero, add-suc, not-suc-le-zero, le_of_suc-le-suc, arith, ⊎_elim, drop_of_length-le, get_or-drop, drop-cons, drop-drop}
use Rattle.std.proofs.lemmas.Int.{ints}
use Rattle.std.proofs.lemmas.Bool.{ltb-true, ltb-false}
use Rattle.numbers.specs.Laws.{decide}
use mir.Syntax.{w32}
use mir.Val.{to_z}
use Rattle.std.proofs.Math.Option.{none, some}
use Rattle.rules.specs.Table as Table
use Rattle.rules.specs.Table.{byte, u16, signed, header_length, variables, nodes, nodes_at, read_node, nodes_from, nodes_of, kind_of}
use Rattle.rules.proofs.Laws.Parts.{kind_number}
use Rattle.table.specs.declared.node.Fields.{Fields}
use Rattle.table.specs.declared.node.Node.{Node}
use Rattle.table.specs.Kinds.{paper_kind, kind_number_of}
use Rattle.table.specs.Sorts.{fields_of, node_of}

-- ---- the fields of a node

-- 16 bits of what is left of the table
pub u16_drop : (bytes : List ℕ) (at i : ℕ) → u16 (drop at bytes) i ≡ u16 bytes (at + i)
unfolding u16
u16_drop bytes at i = simp (get_or-drop, add-suc)

pub byte_drop : (bytes : List ℕ) (at : ℕ) → byte (drop at bytes) 0 ≡ byte bytes at
byte_drop bytes at = simp (get_or-drop, add-zero)

-- four bytes as a signed number
pub signed_is : (n : ℕ) → n < 4294967296 → to_z w32 n ≡ signed n
unfolding signed
signed_is n h =
    let e : to_z w32 n ≡ pos ((n + 2_147_483_648) % 4_294_967_296) -ℤ pos 2_147_483_648
    = ⊎_elim
    (λ (low : ltb n 2_147_483_648 ≡ true). let l = ltb-true n 2_147_483_648 low in omega (arith, ints))
    (λ (high : ltb n 2_147_483_648 ≡ false). let l = ltb-false n 2_147_483_648 high in rw high (omega (arith, ints)))
    (decide (ltb n 2_147_483_648)) in
    e

pub four_bytes : (bytes : List ℕ) (at : ℕ)
    → byte bytes (at + 4) + byte bytes (at + 5) * 256 + byte bytes (at + 6) * 65536 + byte bytes (at + 7) * 16777216 ≡ u16 bytes (at + 4) + 65536 * u16 bytes (at + 6)
unfolding u16
four_bytes bytes at =
    let e : suc (at + 4) ≡ at + 5 = omega arith in
    let f : suc (at + 6) ≡ at + 7 = omega arith in
    rw (e, f) (omega arith)

-- the fields are read where the definition reads them
pub fields_read : (bytes : List ℕ) (at : ℕ) (x : Fields)
    → x.kind ≡ byte bytes at → x.tag ≡ byte bytes (at + 1) → x.a ≡ u16 bytes (at + 2) → x.b ≡ u16 bytes (at + 4) → x.c ≡ u16 bytes (at + 6)
    → fields_of x ≡ read_node (drop at bytes)
unfolding read_node
fields_read bytes at x k t a b c =
    let k' : x.kind ≡ byte (drop at bytes) 0 = rw (byte_drop bytes at) k in
    let t' : x.tag ≡ byte (drop at bytes) 1 = rw (get_or-drop at bytes 1 0) t in
    let a' : x.a ≡ u16 (drop at bytes) 2 = rw (u16_drop bytes at 2) a in
    let b' : x.b ≡ u16 (drop at bytes) 4 = rw (u16_drop bytes at 4) b in
    let c' : x.c ≡ u16 (drop at bytes) 6 = rw (u16_drop bytes at 6) c in
    λ i. record { kind = k' i; tag = t' i; a = a' i; b = b' i; c = c' i }

-- a node of these fields is read, where its kind is one
pub node_by_fields : (n : Table.Node) (x : Fields) (y : Node) → fields_of x ≡ n → kind_of x.kind ≡ some (paper_kind y.kind)
    → y.tag ≡ x.tag → y.a ≡ x.a → y.b ≡ x.b → y.c ≡ x.c → (kind_of n.kind ≡ some (paper_kind y.kind)) × (node_of y ≡ n)
node_by_fields n x y e k t a b c =
    let same : kind_number_of y.kind ≡ x.kind = kind_number _ _ k in
    let fields : node_of y ≡ fields_of x = λ i. record { kind = same i; tag = t i; a = a i; b = b i; c = c i } in
    (ap kind_of (sym (ap (λ m. m.kind) e)) ∙ k, fields ∙ e)

-- and is none where its kind is none
pub unknown_by_fields : (n : Table.Node) (x : Fields) → fields_of x ≡ n → kind_of x.kind ≡ none → kind_of n.kind ≡ none
unknown_by_fields n x e k = ap kind_of (sym (ap (λ m. m.kind) e)) ∙ k

-- a node is read where its bytes are
pub node_read : (bytes : List ℕ) (at : ℕ) (x : Node)
    → kind_of (byte bytes at) ≡ some (paper_kind x.kind) → x.tag ≡ byte bytes (at + 1)
    → x.a ≡ u16 bytes (at + 2) → x.b ≡ u16 bytes (at + 4) → x.c ≡ u16 bytes (at + 6)
    → (kind_of (read_node (drop at bytes)).kind ≡ some (paper_kind x.kind)) × (node_of x ≡ read_node (drop at bytes))
node_read bytes at x k t a b c =
    let own : Fields = record { kind = byte bytes at; tag = x.tag; a = x.a; b = x.b; c = x.c } in
    node_by_fields (read_node (drop at bytes)) own x (fields_read bytes at own refl t a b c) k refl refl refl refl

-- and is none where its kind is none
pub node_unknown : (bytes : List ℕ) (at : ℕ) → kind_of (byte bytes at) ≡ none → kind_of (read_node (drop at bytes)).kind ≡ none
unfolding read_node
node_unknown bytes at e = rw (byte_drop bytes at) e

-- ---- the nodes in their order

nodes_length : (n : ℕ) (bytes : List ℕ) → length (nodes_from n bytes) ≡ n
unfolding nodes_from
nodes_length zero bytes = refl
nodes_length (suc n) bytes = ap suc (nodes_length n (drop 8 bytes))

node_get : (n : ℕ) (bytes : List ℕ) (i : ℕ) (d : Table.Node) → i < n → get_or (nodes_from n bytes) i d ≡ read_node (drop (8 * i) bytes)
unfolding nodes_from
node_get zero bytes i d h = absurd (not-suc-le-zero h)
node_get (suc n) bytes zero d h = refl
node_get (suc n) bytes (suc i) d h =
    let e : 8 + 8 * i ≡ 8 * suc i = omega arith in
    node_get n (drop 8 bytes) i d (le_of_suc-le-suc h) ∙ ap read_node (drop-drop (8 * i) 8 bytes ∙ ap (λ k. drop k bytes) e)

-- what is left from the node i on is that node, where its bytes are, and what is behind it
pub node_next : (bytes : List ℕ) (v n i : ℕ) → v ≡ variables bytes → n ≡ nodes bytes → i < n
    → drop i (nodes_of bytes) ≡ read_node (drop (16 + v + 8 * i) bytes) ∷ drop (suc i) (nodes_of bytes)
unfolding nodes_of nodes_at header_length
node_next bytes v n i e f h =
    let d : Table.Node = record { kind = 0; tag = 0; a = 0; b = 0; c = 0 } in
    let all = nodes_from n (drop (16 + v) bytes) in
    rw (← e, ← f, drop-cons all i d (rw (nodes_length n (drop (16 + v) bytes)) h), node_get n (drop (16 + v) bytes) i d h, drop-drop (8 * i) (16 + v) bytes) refl

-- past the last node nothing is left
pub nodes_end : (bytes : List ℕ) (n i : ℕ) → n ≡ nodes bytes → n ≤ i → drop i (nodes_of bytes) ≡ []
unfolding nodes_of
nodes_end bytes n i e h = rw (← e) (drop_of_length-le (nodes_from n (drop (nodes_at bytes) bytes)) {i = i} (rw (nodes_length n (drop (nodes_at bytes) bytes)) h))

-- there are as many as the header says
pub nodes_count : (bytes : List ℕ) → length (nodes_of bytes) ≡ nodes bytes
unfolding nodes_of
nodes_count bytes = nodes_length (nodes bytes) (drop (nodes_at bytes) bytes)
