-- The pass over the nodes: after i of them the rules have made i parts, and the code keeps the sort and the height of each.
-- Assumes nothing.
use Rattle.std.specs.Prelude.{◌≡◌, refl, List, [], ◌∷◌, ◌++◌, length, get_or, set, drop, replicate, None, Some, Result, Ok, Err}
use Rattle.std.specs.Prelude.{Option as Optional}
use Rattle.std.proofs.Common.{◌∙◌, not-suc-le-zero, le_of_suc-le-suc, arith, length-set}
use Rattle.std.proofs.Math.Path.{ap}
use Prim.Native.Nat.{ℕ, zero, suc, ◌+◌, ◌-◌, ◌*◌, ◌≤◌, ◌<◌}
use Rattle.std.proofs.Math.Numerals.{add-one}
use Rattle.std.proofs.Math.Option.{Option, none, some}
use Rattle.std.proofs.Math.ListN.{get_elem?, length-append}
use Rattle.rules.specs.Outcome.{Outcome, accepted, refused, node_wrong}
use Rattle.rules.specs.Outcome as Paper
use Rattle.rules.specs.Value.{Ty}
use Rattle.rules.specs.Table as Table
use Rattle.rules.specs.Table.{types_of, read_node, nodes_of, Kind, kind_of, expression, statement, as_statement, make_kind, make_all, root_of}
use Rattle.table.specs.declared.answer.Refusal.{Refusal}
use Rattle.table.specs.declared.node.Sort.{Sort}
use Rattle.table.specs.declared.node.Part.{Part}
use Rattle.table.specs.Paper.{refusal_for}
use Rattle.table.specs.Agrees.{both, neither, accepts, refuses}
use Rattle.table.specs.Sorts.{kept, kept_in, height_as, form, part_by}
use Rattle.table.specs.Told.{Headed, tree_of, IsDepth}
use Rattle.table.specs.Laws.Lists.{alike}
use Rattle.table.specs.Laws.Nodes.{node_next, nodes_end}
use Rattle.table.specs.Laws.Types.{types_are, types_count}
use Rattle.table.specs.Laws.Made.{Made, part_made}

-- ---- what is kept of each part

kept_more : (l : List (Optional Part)) (q : Part) (parts : List Table.Part) (p : Table.Part) → length parts < length l → q ≡ kept p
    → ((k : ℕ) → get_or l k None ≡ kept_in (get_elem? parts k))
    → (k : ℕ) → get_or (set l (length parts) (Some q)) k None ≡ kept_in (get_elem? (parts ++ p ∷ []) k)
kept_more [] q parts p h e seen k = absurd (not-suc-le-zero h)
kept_more (x ∷ xs) q [] p h e seen zero = ap Some e
kept_more (x ∷ xs) q [] p h e seen (suc k) = seen (suc k)
kept_more (x ∷ xs) q (r ∷ rs) p h e seen zero = seen zero
kept_more (x ∷ xs) q (r ∷ rs) p h e seen (suc k) = kept_more xs q rs p (le_of_suc-le-suc h) e (λ j. seen (suc j)) k

kept_next : (l : List (Optional Part)) (q : Part) (i : ℕ) (parts : List Table.Part) (p : Table.Part) → length parts ≡ i → i < length l → q ≡ kept p
    → ((k : ℕ) → get_or l k None ≡ kept_in (get_elem? parts k)) → (k : ℕ) → get_or (set l i (Some q)) k None ≡ kept_in (get_elem? (parts ++ p ∷ []) k)
kept_next l q i parts p c h e seen k = rw (← c) (kept_more l q parts p (rw c h) e seen k)

-- ---- what is reached after i nodes

pub record Reached (bytes : List ℕ) (i : ℕ) (keeps : List (Optional Part)) : Type 0 where
  pub long : length keeps ≡ 512
  pub parts : List Table.Part
  pub same : make_all (types_of bytes) [] (nodes_of bytes) ≡ make_all (types_of bytes) parts (drop i (nodes_of bytes))
  pub count : length parts ≡ i
  pub seen : (k : ℕ) → get_or keeps k None ≡ kept_in (get_elem? parts k)

pub reached_none : (bytes : List ℕ) → Reached bytes 0 (replicate 512 None)
reached_none bytes = record { long = refl; parts = []; same = refl; count = refl; seen = alike 512 None }

-- ---- one node more

module _ (bytes : List ℕ) (v n : ℕ) (head : Headed bytes v n) (i : ℕ) (low : i < n) (keeps : List (Optional Part)) (r : Reached bytes i keeps)
    (x : Table.Node) (read : x ≡ read_node (drop (16 + v + 8 * i) bytes)) where
  next : drop i (nodes_of bytes) ≡ x ∷ drop (suc i) (nodes_of bytes)
  next = rw read (node_next bytes v n i head.v_is head.n_is low)

  long : 16 + v ≤ length bytes
  long = omega (arith, head.long)

  tree_wrong : (p : Paper.Refusal) (e : Refusal) → make_kind (types_of bytes) r.parts (length r.parts) x (kind_of x.kind) ≡ refused p → e ≡ refusal_for p
      → IsDepth (tree_of bytes) (Err e)
  unfolding tree_of make_all
  tree_wrong p e comes is = rw (r.same, next, comes) (neither is)

  -- the node is of no kind
  pub kind_wrong : {e : Refusal} → kind_of x.kind ≡ none → e ≡ Refusal.Node → IsDepth (tree_of bytes) (Err e)
  unfolding make_kind
  kind_wrong {e} is e_is = tree_wrong node_wrong e (rw is) e_is

  module _ (k : Kind) (k_is : kind_of x.kind ≡ some k) (made : Result Part Refusal) (made_is : made ≡ part_by bytes v (form k) x keeps) where
    made_next : Made (make_kind (types_of bytes) r.parts (length r.parts) x (kind_of x.kind)) made
    unfolding make_kind
    made_next = rw (k_is, made_is) (part_made bytes v (types_count bytes v head.v_is long) (types_are bytes v head.v_is long) r.parts keeps r.seen (length r.parts) x k)

    -- it makes no part
    pub part_wrong : {e : Refusal} → made ≡ Err e → IsDepth (tree_of bytes) (Err e)
    part_wrong {e} is = let w = refuses made_next is in tree_wrong w.reason e w.comes w.is

    -- it makes a part
    more : (p : Table.Part) (q : Part) → make_kind (types_of bytes) r.parts (length r.parts) x (kind_of x.kind) ≡ accepted p → q ≡ kept p
        → Reached bytes (i + 1) (set keeps i (Some q))
    unfolding make_all
    more p q comes holds = record {
      long = length-set keeps i (Some q) ∙ r.long;
      parts = r.parts ++ p ∷ [];
      same = r.same ∙ rw (next, comes, add-one i);
      count = length-append r.parts (p ∷ []) ∙ ap (λ k. k + 1) r.count;
      seen = kept_next keeps q i r.parts p r.count (omega (arith, r.long, head.n_few)) holds r.seen;
    }

    pub reached_more : {q : Part} → made ≡ Ok q → Reached bytes (i + 1) (set keeps i (Some q))
    reached_more {q} is = let a = accepts made_next is in more a.value q a.comes a.holds

-- ---- the root

root_depth : (o : Option Table.Part) → IsDepth (as_statement o) (height_as Sort.Statement (kept_in o))
unfolding as_statement
root_depth none = neither refl
root_depth (some (expression Ty.number e)) = neither refl
root_depth (some (expression Ty.truth e)) = neither refl
root_depth (some (statement s)) = both refl

pub root_told : (bytes : List ℕ) (v n : ℕ) → Headed bytes v n → (i : ℕ) → n ≡ i → (keeps : List (Optional Part)) (r : Reached bytes i keeps)
    → IsDepth (tree_of bytes) (height_as Sort.Statement (get_or keeps (n - 1) None))
unfolding tree_of make_all root_of
root_told bytes v n head i end keeps r =
    let last : length r.parts - 1 ≡ n - 1 = rw r.count (omega arith) in
    rw (r.same, nodes_end bytes n i head.n_is (omega arith), last, r.seen (n - 1)) (root_depth (get_elem? r.parts (n - 1)))
