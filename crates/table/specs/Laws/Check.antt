-- The whole check from what its parts tell.
-- Assumes nothing.
use Rattle.std.specs.Prelude.{◌≡◌, refl, ℕ, ◌+◌, ◌-◌, ◌≤◌, ◌<◌, min, leb, Ok, Err}
use Rattle.std.proofs.Math.Path.{sym}
use Rattle.std.proofs.Common.{◌∙◌, subst, add-zero, arith, length-append}
use Rattle.std.proofs.Math.Nat.{zero-add}
use mathlib.Core.List.{List, [], ◌∷◌, ◌++◌}
use Rattle.std.proofs.Math.ListN.{length}
use borrow.Author.Tests.{le-leb, lt-leb}
use Rattle.rules.specs.Outcome.{Refusal, Outcome, accepted, refused, ◌>>=◌, need, paper_number, number_of, type_wrong, use_wrong, too_deep}
use Rattle.rules.specs.Value.{Ty}
use Rattle.rules.specs.Tree.{Statement, depth}
use Rattle.rules.specs.Table.{check_header, type_bytes, check_types, types_of, Node, nodes_of, kind_of, Part, make_kind, make_all, root_of, children, check_uses, most_depth, Program, check}
use Rattle.rules.specs.Call.{call_check, IsCheck}
use Rattle.rules.proofs.Laws.Outcome.{Holds, value, vacant, holds_bind, holds_any, holds_map}
use Rattle.table.specs.declared.answer.Refusal.{Refusal as Reason}
use Rattle.table.specs.declared.header.Extent.{Extent}
use Rattle.table.specs.Paper.{reason_of, reason_back}
use Rattle.table.specs.Agrees.{Agrees, Accepts, accepts, refuses}
use Rattle.table.specs.Told.{tree_of, IsDepth}
use Rattle.table.specs.Laws.Nodes.{nodes_count}

-- ---- the number of the check

refused_number : (bytes : List ℕ) (r : Refusal) → check bytes ≡ refused r → IsCheck bytes (paper_number r)
unfolding IsCheck call_check number_of
refused_number bytes r e = rw e

accepted_number : (bytes : List ℕ) (p : Program) → check bytes ≡ accepted p → IsCheck bytes 0
unfolding IsCheck call_check number_of
accepted_number bytes p e = rw e

-- ---- a tree has as many parts as the table has nodes

made_count : (types : List Ty) (parts : List Part) (ns : List Node) → Holds (λ all. length all ≡ length parts + length ns) (make_all types parts ns)
unfolding make_all
made_count types parts [] = value (sym (add-zero (length parts)))
made_count types parts (n ∷ ns) =
    holds_bind (make_kind types parts (length parts) n (kind_of n.kind)) _ (holds_any (make_kind types parts (length parts) n (kind_of n.kind))) λ p any.
    holds_map (λ all e. e ∙ rw (length-append parts (p ∷ [])) (omega arith)) (made_count types (parts ++ p ∷ []) ns)

-- what comes behind the parts asks for their number alone
by_number : {A : Type 0} (n : ℕ) (m : Outcome (List Part)) → Holds (λ all. length all ≡ n) m → (next : ℕ → Statement → Outcome A)
    → (m >>= λ parts. root_of parts >>= λ root. next (length parts) root) ≡ ((m >>= root_of) >>= λ root. next n root)
by_number n m (value {a} e) next = rw e
by_number n m vacant next = refl

-- ---- the whole check

-- the extent is that of these bytes
abbrev pub OfBytes : List ℕ → Unit {0} → Extent → Type 0
OfBytes t u table = table.bytes.now ≡ t

-- the header is wrong
pub header_refused : (t : List ℕ) {e : Reason} → Agrees (OfBytes t) (check_header t) (Err e) → IsCheck t (paper_number (reason_of e))
unfolding check
header_refused t h =
    let w = refuses h refl in
    rw (w.is, reason_back w.reason) (refused_number t w.reason (refused_check w.reason w.comes))
  where
    refused_check : (r : Refusal) → check_header t ≡ refused r → check t ≡ refused r
    refused_check r e = rw e

-- and behind it, for a table of these bytes
module _ (t : List ℕ) (table : Extent) (of : Agrees (OfBytes t) (check_header t) (Ok table)) where
  abbrev bytes : List ℕ
  bytes = table.bytes.now

  header : check_header bytes ≡ accepted tt
  header = let a = accepts of refl in rw a.holds a.comes

  told : (k : ℕ) → IsCheck bytes k → IsCheck t k
  told k h = subst (λ (b : List ℕ). IsCheck b k) (accepts of refl).holds h

  pub types_refused : check_types (type_bytes bytes) ≡ refused type_wrong → IsCheck t (paper_number type_wrong)
  unfolding check
  types_refused e = told _ (refused_number bytes type_wrong (rw (header, e)))

  module _ (types : check_types (type_bytes bytes) ≡ accepted tt) where
    abbrev behind : ℕ → Statement → Outcome Program
    behind k root = check_uses (k - 1) (children (nodes_of bytes)) >>= λ u. need (leb (depth root) most_depth) too_deep >>= λ u. accepted
        (record { types = types_of bytes; root = root })

    check_tree : check bytes ≡ (tree_of bytes >>= λ root. behind table.nodes root)
    unfolding check tree_of
    check_tree =
        let all = make_all (types_of bytes) [] (nodes_of bytes) in
        let count : Holds (λ parts. length parts ≡ table.nodes) all
        = holds_map (λ parts e. e ∙ zero-add (length (nodes_of bytes)) ∙ nodes_count bytes ∙ sym table.headed.n_is) (made_count (types_of bytes) [] (nodes_of bytes)) in
        rw (header, types) (by_number table.nodes all count behind)

    tree_none : (r : Refusal) → tree_of bytes ≡ refused r → check bytes ≡ refused r
    tree_none r e = check_tree ∙ rw e

    pub tree_refused : {e : Reason} → IsDepth (tree_of bytes) (Err e) → IsCheck t (paper_number (reason_of e))
    tree_refused h =
        let w = refuses h refl in
        told _ (rw (w.is, reason_back w.reason) (refused_number bytes w.reason (tree_none w.reason w.comes)))

    module _ (d : ℕ) (tree : IsDepth (tree_of bytes) (Ok d)) where
      made : Accepts (λ root d. d ≡ min 25 (depth root)) (tree_of bytes) d
      made = accepts tree refl

      pub use_refused : check_uses (table.nodes - 1) (children (nodes_of bytes)) ≡ refused use_wrong → IsCheck t (paper_number use_wrong)
      use_refused u = told _ (refused_number bytes use_wrong (check_tree ∙ rw (made.comes, u)))

      module _ (used : check_uses (table.nodes - 1) (children (nodes_of bytes)) ≡ accepted tt) where
        pub depth_refused : 24 < d → IsCheck t (paper_number too_deep)
        unfolding most_depth
        depth_refused h =
            let far : 24 < depth made.value = omega (arith, made.holds) in
            told _ (refused_number bytes too_deep (check_tree ∙ rw (made.comes, used, lt-leb (depth made.value) 24 far)))

        pub all_accepted : d ≤ 24 → IsCheck t 0
        unfolding most_depth
        all_accepted h =
            let near : depth made.value ≤ 24 = omega (arith, made.holds) in
            told _ (accepted_number bytes (record { types = types_of bytes; root = made.value })
            (check_tree ∙ rw (made.comes, used, le-leb (depth made.value) 24 near)))
