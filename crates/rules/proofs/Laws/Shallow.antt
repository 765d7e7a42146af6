-- The tree of an accepted table is small: its depth is at most 24, so no expression has 2^24 operators, and no statement mentions more
-- variables than the table has.
-- Assumes nothing.
use Rattle.std.specs.Prelude.{◌≡◌, List, [], take, leb}
use Rattle.std.proofs.Common.{sym, arith, leb-true}
use Rattle.std.proofs.Math.Path.{subst}
use Prim.Native.Nat.{ℕ, zero, suc, ◌+◌, ◌-◌, ◌≤◌, ◌<◌, max}
use Rattle.std.proofs.Math.Option.{some}
use Rattle.std.proofs.Math.ListN.{length, get_elem?}
use Rattle.rules.specs.Outcome.{accepted, too_deep}
use Rattle.rules.specs.Tree.{Expression, Statement, depth_of, depth, mentions}
use Rattle.rules.specs.Table.{nodes, Kind, number_constant, truth_constant, variable, operator, skip, assign, sequence, if, repeat, types_of, type_bytes, nodes_of, check_header, check_types, check_uses, children, most_depth, make_all, as_statement, root_of, statement, Program, check}
use Rattle.rules.proofs.Laws.Outcome.{Holds, value, holds_bind, holds_need, holds_of, holds_any}
use Rattle.rules.proofs.Laws.Parts.{no_expression, statement_of, part_at, parts_of, node_at, Built, stands, child_at, root_at}
use Rattle.rules.proofs.Laws.Size.{operations, few_operators, Small}
use Rattle.rules.proofs.Laws.Rising.{rises_short}
use Rattle.rules.proofs.Laws.Header.{sized, types_long}
use Rattle.rules.proofs.Laws.Variables.{rises_at}

-- ---- operators, by depth

abbrev doubled : ℕ → ℕ
doubled zero = 1
doubled (suc n) = doubled n + doubled n

some_double : (n : ℕ) → 0 < doubled n
some_double zero = omega arith
some_double (suc n) = let h : 0 < doubled n = some_double n in omega arith

operations_below : (e : Expression) (n : ℕ) → depth_of e ≤ n → operations e < doubled n
unfolding operations depth_of
operations_below (Expression.constant i z) zero h = absurd (omega arith)
operations_below (Expression.variable i v) zero h = absurd (omega arith)
operations_below (Expression.operation i o a b) zero h = absurd (omega arith)
operations_below (Expression.constant i z) (suc n) h = some_double (suc n)
operations_below (Expression.variable i v) (suc n) h = some_double (suc n)
operations_below (Expression.operation i o a b) (suc n) h =
    let l : operations a < doubled n = operations_below a n (omega arith) in
    let r : operations b < doubled n = operations_below b n (omega arith) in
    omega arith

few : (e : Expression) → depth_of e ≤ 24 → few_operators e
few e h = operations_below e 24 h

-- ---- depth, by the table check

check_shallow : (bytes : List ℕ) → Holds (λ p. depth p.root ≤ 24) (check bytes)
unfolding check root_of most_depth
check_shallow bytes =
    holds_bind (check_header bytes) _ (holds_any (check_header bytes)) λ u h.
    holds_bind (check_types (type_bytes bytes)) _ (holds_any (check_types (type_bytes bytes))) λ u₂ h₂.
    holds_bind (make_all (types_of bytes) [] (nodes_of bytes)) _ (holds_any (make_all (types_of bytes) [] (nodes_of bytes))) λ parts h₃.
    holds_bind (as_statement (get_elem? parts (length parts - 1))) _ (holds_any (as_statement (get_elem? parts (length parts - 1)))) λ root h₄.
    holds_bind (check_uses (length parts - 1) (children (nodes_of bytes))) _ (holds_any (check_uses (length parts - 1) (children (nodes_of bytes)))) λ u₃ h₅.
    holds_need (leb (depth root) most_depth) too_deep _ λ shallow.
    value (leb-true (depth root) most_depth shallow)

-- ---- every statement of the tree

module _ (bytes : List ℕ) (p : Program) (checked : check bytes ≡ accepted p) where
  narrow : (i : ℕ) (s : Statement) → part_at bytes i ≡ some (statement s) → length (mentions s) ≤ 32
  narrow i s here = omega (arith, rises_short (length (types_of bytes)) (mentions s) (rises_at bytes p checked i (statement s) here), types_long bytes p checked, (sized bytes p checked).few)

  module _ (i : ℕ) (below : (c : ℕ) (r : Statement) → c < i → part_at bytes c ≡ some (statement r) → depth r ≤ 24 → Small r) where
    child : (c : ℕ) (r : Statement) → get_elem? (take i (parts_of bytes)) c ≡ some (statement r) → depth r ≤ 24 → Small r
    child c r found h = let at = child_at bytes p checked i c (statement r) found in below c r at.0 at.1 h

    small_built : (s : Statement) → part_at bytes i ≡ some (statement s) → depth s ≤ 24
        → (k : Kind) → Built (types_of bytes) (take i (parts_of bytes)) i (node_at bytes i) k (statement s) → Small s
    unfolding depth
    small_built s here h number_constant b = absurd (no_expression b)
    small_built s here h truth_constant b = absurd (no_expression b.0)
    small_built s here h variable b = absurd (no_expression b.0)
    small_built s here h (operator o) b = absurd (no_expression b.2)
    small_built s here h skip b = subst Small (sym (statement_of b)) tt
    small_built s here h assign b =
        let d : suc (depth_of b.0) ≤ 24 = subst (λ (t : Statement). depth t ≤ 24) (statement_of b.1) h in
        subst Small (sym (statement_of b.1)) (few b.0 (omega arith))
    small_built s here h sequence b =
        let d : suc (max (depth b.0) (depth b.1)) ≤ 24 = subst (λ (t : Statement). depth t ≤ 24) (statement_of b.2) h in
        subst Small (sym (statement_of b.2)) (child _ b.0 b.3 (omega arith), child _ b.1 b.4 (omega arith))
    small_built s here h if b =
        let d : suc (max (depth_of b.0) (max (depth b.1) (depth b.2))) ≤ 24 = subst (λ (t : Statement). depth t ≤ 24) (statement_of b.3) h in
        let n : length (mentions (Statement.if i b.0 b.1 b.2)) ≤ 32
        = subst (λ (t : Statement). length (mentions t) ≤ 32) (statement_of b.3) (narrow i s here) in
        subst Small (sym (statement_of b.3)) (few b.0 (omega arith), n, child _ b.1 b.5 (omega arith), child _ b.2 b.6 (omega arith))
    small_built s here h repeat b =
        let d : suc (max (depth_of b.0) (depth b.1)) ≤ 24 = subst (λ (t : Statement). depth t ≤ 24) (statement_of b.2) h in
        let n : length (mentions (Statement.repeat i b.0 b.1)) ≤ 32
        = subst (λ (t : Statement). length (mentions t) ≤ 32) (statement_of b.2) (narrow i s here) in
        subst Small (sym (statement_of b.2)) (few b.0 (omega arith), n, child _ b.1 b.4 (omega arith))

  small_up : (n i : ℕ) (s : Statement) → i < n → part_at bytes i ≡ some (statement s) → depth s ≤ 24 → Small s
  small_up zero i s h here d = absurd (omega arith)
  small_up (suc n) i s h here d =
      let st = stands bytes p checked i (statement s) here in
      small_built i (λ c r l found e. small_up n c r (omega arith) found e) s here d st.kind st.built

  pub root_small : Small p.root
  root_small = small_up (suc (nodes bytes - 1)) (nodes bytes - 1) p.root (omega arith) (root_at bytes p checked)
      (holds_of (subst (Holds (λ q. depth q.root ≤ 24)) checked (check_shallow bytes)))
