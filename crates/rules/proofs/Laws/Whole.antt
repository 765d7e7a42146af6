-- Laws of whole calls: with which numbers each part of a call can refuse (`Only`), and what a run and a patch have in common
-- (`Request`): each comes to an end as if there were room without end, and then the room decides.
-- `Only` follows `>>=` as `Holds` does, so that the proof about a `do` block goes line by line.
-- Assumes nothing.
use Rattle.std.specs.Prelude.{◌≡◌, Bool, ◌&&◌, ◌||◌, take, drop, leb, ltb, eqb, pos, nat_abs}
use Rattle.std.proofs.Math.Path.{refl}
use Rattle.std.proofs.Common.{ap, ◌∙◌, subst, arith, length-append, eqb-true, eq-eqb, le-leb}
use Prim.Native.Nat.{ℕ, zero, suc, ◌+◌, ◌-◌, ◌*◌, ◌≤◌, ◌<◌}
use Rattle.std.proofs.Math.Bool.{true, false}
use Rattle.std.proofs.lemmas.Bool.{false≢true, lt-leb}
use Rattle.std.proofs.Math.Option.{Option, none, some}
use mathlib.Core.List.Memᴰ
use mathlib.Core.List.{List, [], ◌∷◌, ◌++◌}
use Rattle.std.proofs.Math.ListN.{length, get_elem?}
use Rattle.std.proofs.lemmas.List.{length-replicate}
use Rattle.std.specs.Int.Signed.{le_z}
use Rattle.std.proofs.Math.IntN.{ℤ}
use Rattle.numbers.specs.Signed.{eq_z, between}
use Rattle.numbers.specs.Laws.{and_left, and_right}
use Rattle.rules.specs.Outcome.{Refusal, header_wrong, type_wrong, node_wrong, use_wrong, too_deep, store_wrong, limit_wrong, out_of_range, fuel_spent, room_short, change_wrong, broken, paper_number, Outcome, accepted, refused, ◌>>=◌, need, choose}
use Rattle.rules.specs.Value.{Ty, at, type_of, in_type, plus, zeros, most_variables, padded, fit, plus_all, put, unchanged}
use Rattle.rules.specs.Tree.{Operator, Expression, Statement, gives, apply, depth, node_of, mentions}
use Rattle.rules.specs.Table.{header_length, most_nodes, marked, variables, nodes, nodes_at, total, u16, check_header, type_bytes, check_types, types_of, Node, nodes_of, Kind, kind_of, Part, is_type, as_expression, as_statement, unused, make, make_kind, make_all, root_of, children, uses, check_uses, most_depth, check}
use Rattle.rules.specs.Run.{compute, evaluate, Done, enter, holds, times, iterate, headed, opening, most_steps, run, record_of}
use Rattle.rules.specs.Patch.{Entry, Walked, Visited, Walk, Fork, Turn, read, read_in, moved, finished, cut, shift, steps_of, ends, meet, skipped, paid, visit, read_snapshot, moved_all, kept, flipped, last_snapshot, complete, grown, shrunk, loop, walk}
use Rattle.rules.specs.Call.{Called, Finished, within, answered, finish_run, call_run, length_of, limit_of, steps_in, inputs_of, outputs_of, header, legal, finish_patch, call_patch}
use Rattle.rules.proofs.Laws.Outcome.{Holds, value, holds_bind, holds_need, holds_any}
use Rattle.rules.proofs.Laws.Mentions.{◌∈◌}
use Rattle.rules.proofs.Laws.Run.{split}

-- ---- lists of numbers, compared by computing

abbrev pub listed : ℕ → List ℕ → Bool
listed n [] = false
listed n (m ∷ ms) = eqb n m || listed n ms

abbrev pub all_listed : List ℕ → List ℕ → Bool
all_listed [] ms = true
all_listed (n ∷ ns) ms = listed n ms && all_listed ns ms

first_or_later : (n m : ℕ) (ms : List ℕ) → (listed n ms ≡ true → n ∈ ms) → (b : Bool) → eqb n m ≡ b → (b || listed n ms) ≡ true → n ∈ m ∷ ms
first_or_later n m ms later true same e = Memᴰ.head (eqb-true n m same)
first_or_later n m ms later false other e = Memᴰ.tail (later e)

pub is_listed : (n : ℕ) (ms : List ℕ) → listed n ms ≡ true → n ∈ ms
is_listed n [] e = absurd (false≢true e)
is_listed n (m ∷ ms) e = first_or_later n m ms (is_listed n ms) (eqb n m) refl e

or_right : (b : Bool) {c : Bool} → c ≡ true → (b || c) ≡ true
or_right true e = refl
or_right false e = e

pub member_listed : (n : ℕ) (ms : List ℕ) → n ∈ ms → listed n ms ≡ true
member_listed n [] x = elim x [ ]
member_listed n (m ∷ ms) (Memᴰ.head q) = rw (eq-eqb n m q)
member_listed n (m ∷ ms) (Memᴰ.tail h) = or_right (eqb n m) (member_listed n ms h)

listed_more : (ns ms : List ℕ) → all_listed ns ms ≡ true → (n : ℕ) → n ∈ ns → listed n ms ≡ true
listed_more [] ms e n x = elim x [ ]
listed_more (m ∷ ns) ms e n (Memᴰ.head q) = rw q (and_left (listed m ms) _ e)
listed_more (m ∷ ns) ms e n (Memᴰ.tail h) = listed_more ns ms (and_right (listed m ms) _ e) n h

-- ---- if it is refused, then with one of these numbers

pub data Only {A : Type 0} (ns : List ℕ) : Outcome A → Type 0 where
  passes : {a : A} → Only ns (accepted a)
  refuses : {r : Refusal} → listed (paper_number r) ns ≡ true → Only ns (refused r)

-- the number of a refusal that is there
pub only_of : {A : Type 0} {ns : List ℕ} {m : Outcome A} {r : Refusal} → Only ns m → m ≡ refused r → paper_number r ∈ ns
only_of {A} {ns} {r} o e = taken (subst (Only ns) e o)
  where
    taken : Only {A = A} ns (refused r) → paper_number r ∈ ns
    taken (refuses h) = is_listed (paper_number r) ns h

pub only_more : {A : Type 0} {ns ms : List ℕ} {m : Outcome A} → all_listed ns ms ≡ true → Only ns m → Only ms m
only_more sub passes = passes
only_more {ns} {ms} sub (refuses {r} h) = refuses (listed_more ns ms sub (paper_number r) (is_listed (paper_number r) ns h))

pub only_bind : {A B : Type 0} {ns : List ℕ} (m : Outcome A) (next : A → Outcome B) → Only ns m → ((a : A) → Only ns (next a)) → Only ns (m >>= next)
only_bind m next passes step = step _
only_bind m next (refuses h) step = refuses h

pub only_need : {ns : List ℕ} (b : Bool) (r : Refusal) → listed (paper_number r) ns ≡ true → Only ns (need b r)
only_need true r h = passes
only_need false r h = refuses h

-- a test, and then the rest
pub only_test : {B : Type 0} {ns : List ℕ} (b : Bool) (r : Refusal) (next : Unit {0} → Outcome B) → listed (paper_number r) ns ≡ true → Only ns (next tt)
    → Only ns (need b r >>= next)
only_test true r next h rest = rest
only_test false r next h rest = refuses h

-- the one or the other of two, put to the same use
pub only_choose : {A B : Type 0} {ns : List ℕ} (b : Bool) (one two : B) (use_of : B → Outcome A) → Only ns (use_of one) → Only ns (use_of two)
    → Only ns (use_of (choose b one two))
only_choose true one two use_of h k = h
only_choose false one two use_of h k = k

-- ---- the table check: 1 to 5

abbrev pub of_table : List ℕ
of_table = 1 ∷ 2 ∷ 3 ∷ 4 ∷ 5 ∷ []

pub check_header_only : (bytes : List ℕ) → Only (1 ∷ []) (check_header bytes)
unfolding check_header paper_number
check_header_only bytes =
    only_test (leb header_length (length bytes)) header_wrong _ refl
    (only_test (marked bytes) header_wrong _ refl
    (only_test (leb 1 (variables bytes)) header_wrong _ refl
    (only_test (leb (variables bytes) most_variables) header_wrong _ refl
    (only_test (leb 1 (nodes bytes)) header_wrong _ refl
    (only_test (leb (nodes bytes) most_nodes) header_wrong _ refl
    (only_test (eqb (u16 bytes 8) header_length) header_wrong _ refl
    (only_test (eqb (u16 bytes 10) (nodes_at bytes)) header_wrong _ refl
    (only_test (eqb (u16 bytes 12) (total bytes)) header_wrong _ refl
    (only_test (eqb (u16 bytes 14) 0) header_wrong _ refl
    (only_need (eqb (length bytes) (total bytes)) header_wrong refl))))))))))

pub check_types_only : (bytes : List ℕ) → Only (2 ∷ []) (check_types bytes)
unfolding check_types paper_number
check_types_only [] = passes
check_types_only (b ∷ bs) = only_test (leb b 1) type_wrong _ refl (check_types_only bs)

expression_only : (t : Ty) (o : Option Part) → Only (3 ∷ []) (as_expression t o)
unfolding as_expression paper_number
expression_only t none = refuses refl
expression_only t (some (Part.expression u e)) = only_test (is_type t u) node_wrong _ refl passes
expression_only t (some (Part.statement s)) = refuses refl

statement_only : (o : Option Part) → Only (3 ∷ []) (as_statement o)
unfolding as_statement paper_number
statement_only none = refuses refl
statement_only (some (Part.expression t e)) = refuses refl
statement_only (some (Part.statement s)) = passes

module _ (types : List Ty) (parts : List Part) (self : ℕ) (n : Node) where
  -- an unused field, and a child as an expression or a statement; then the rest
  free : (x : ℕ) (next : Unit {0} → Outcome Part) → Only (3 ∷ []) (next tt) → Only (3 ∷ []) (unused x >>= next)
  unfolding unused paper_number
  free x next rest = only_test (eqb x 0) node_wrong next refl rest

  operand : (t : Ty) (i : ℕ) (next : Expression → Outcome Part) → ((e : Expression) → Only (3 ∷ []) (next e))
      → Only (3 ∷ []) (as_expression t (get_elem? parts i) >>= next)
  operand t i next rest = only_bind (as_expression t (get_elem? parts i)) next (expression_only t (get_elem? parts i)) rest

  below : (i : ℕ) (next : Statement → Outcome Part) → ((s : Statement) → Only (3 ∷ []) (next s))
      → Only (3 ∷ []) (as_statement (get_elem? parts i) >>= next)
  below i next rest = only_bind (as_statement (get_elem? parts i)) next (statement_only (get_elem? parts i)) rest

  make_only : (k : Kind) → Only (3 ∷ []) (make types parts self n k)
  unfolding make paper_number
  make_only Kind.number_constant = free n.tag _ (free n.a _ passes)
  make_only Kind.truth_constant = only_test (leb n.tag 1) node_wrong _ refl (free n.a _ (free n.b _ (free n.c _ passes)))
  make_only Kind.variable = only_test (ltb n.tag (length types)) node_wrong _ refl (free n.a _ (free n.b _ (free n.c _ passes)))
  make_only (Kind.operator o) = free n.tag _ (operand Ty.number n.a _ λ l. operand Ty.number n.b _ λ r. free n.c _ passes)
  make_only Kind.skip = free n.tag _ (free n.a _ (free n.b _ (free n.c _ passes)))
  make_only Kind.assign = only_test (ltb n.tag (length types)) node_wrong _ refl
      (operand (type_of types n.tag) n.a _ λ e. free n.b _ (free n.c _ passes))
  make_only Kind.sequence = free n.tag _ (below n.a _ λ s. below n.b _ λ t. free n.c _ passes)
  make_only Kind.if = free n.tag _ (operand Ty.truth n.a _ λ e. below n.b _ λ s. below n.c _ λ t. passes)
  make_only Kind.repeat = free n.tag _ (operand Ty.number n.a _ λ e. below n.b _ λ s. free n.c _ passes)

  made_only : (o : Option Kind) → Only (3 ∷ []) (make_kind types parts self n o)
  unfolding make_kind paper_number
  made_only none = refuses refl
  made_only (some k) = make_only k

pub nodes_only : (types : List Ty) (parts : List Part) (ns : List Node) → Only (3 ∷ []) (make_all types parts ns)
unfolding make_all
nodes_only types parts [] = passes
nodes_only types parts (n ∷ ns) =
    only_bind (make_kind types parts (length parts) n (kind_of n.kind)) _ (made_only types parts (length parts) n (kind_of n.kind)) λ p.
    nodes_only types (parts ++ p ∷ []) ns

pub root_only : (parts : List Part) → Only (3 ∷ []) (root_of parts)
unfolding root_of
root_only parts = statement_only (get_elem? parts (length parts - 1))

pub uses_only : (n : ℕ) (places : List ℕ) → Only (4 ∷ []) (check_uses n places)
unfolding check_uses paper_number
uses_only zero places = passes
uses_only (suc n) places = only_test (eqb (uses n places) 1) use_wrong _ refl (uses_only n places)

pub check_only : (bytes : List ℕ) → Only of_table (check bytes)
unfolding check paper_number
check_only bytes =
    only_bind (check_header bytes) _ (only_more refl (check_header_only bytes)) λ u₁.
    only_bind (check_types (type_bytes bytes)) _ (only_more refl (check_types_only (type_bytes bytes))) λ u₂.
    only_bind (make_all (types_of bytes) [] (nodes_of bytes)) _ (only_more refl (nodes_only (types_of bytes) [] (nodes_of bytes))) λ parts.
    only_bind (root_of parts) _ (only_more refl (root_only parts)) λ root.
    only_bind (check_uses (length parts - 1) (children (nodes_of bytes))) _
    (only_more refl (uses_only (length parts - 1) (children (nodes_of bytes)))) λ u₃.
    only_test (leb (depth root) most_depth) too_deep _ refl passes

-- ---- a run of a statement: 8 or 9

abbrev pub of_running : List ℕ
of_running = 8 ∷ 9 ∷ []

compute_only : {ns : List ℕ} (r : Refusal) → listed (paper_number r) ns ≡ true → (o : Operator) (x y : ℤ) → Only ns (compute r o x y)
unfolding compute
compute_only r h o x y = only_test (in_type (gives o) (apply o x y)) r _ h passes

evaluate_only : (e : Expression) (store : List ℤ) → Only of_running (evaluate e store)
unfolding evaluate paper_number
evaluate_only (Expression.constant n z) store = passes
evaluate_only (Expression.variable n v) store = passes
evaluate_only (Expression.operation n o a b) store =
    only_bind (evaluate a store) _ (evaluate_only a store) λ l. only_bind (evaluate b store) _ (evaluate_only b store) λ r.
    only_bind (compute out_of_range o l.value r.value) _ (compute_only out_of_range refl o l.value r.value) λ z. passes

enter_only : (node fuel : ℕ) (inside : ℕ → Outcome Done) → ((left : ℕ) → Only of_running (inside left)) → Only of_running (enter node fuel inside)
unfolding enter paper_number
enter_only node zero inside h = refuses refl
enter_only node (suc left) inside h = only_bind (inside left) _ (h left) λ d. passes

iterate_only : (body : ℕ → List ℤ → Outcome Done) → ((left : ℕ) (store : List ℤ) → Only of_running (body left store))
    → (vs : List ℕ) (n left : ℕ) (store : List ℤ) → Only of_running (iterate body vs n left store)
unfolding iterate
iterate_only body h vs zero left store = passes
iterate_only body h vs (suc n) left store =
    only_bind (body left store) _ (h left store) λ d.
    only_bind (iterate body vs n (left - d.steps) d.store) _ (iterate_only body h vs n (left - d.steps) d.store) λ r. passes

pub run_only : (s : Statement) (fuel : ℕ) (store : List ℤ) → Only of_running (run s fuel store)
unfolding run
run_only (Statement.skip n) fuel store = enter_only n fuel _ λ left. passes
run_only (Statement.assign n v e) fuel store = enter_only n fuel _ λ left. only_bind (evaluate e store) _ (evaluate_only e store) λ x. passes
run_only (Statement.sequence n s t) fuel store = enter_only n fuel _ λ left.
    only_bind (run s left store) _ (run_only s left store) λ d. only_bind (run t (left - d.steps) d.store) _
    (run_only t (left - d.steps) d.store) λ f. passes
run_only (Statement.if n e s t) fuel store = enter_only n fuel _ λ left.
    only_bind (evaluate e store) _ (evaluate_only e store) λ x.
    only_bind (choose (holds x.value) (run s) (run t) left store) _
    (only_choose (holds x.value) (run s) (run t) (λ f. f left store) (run_only s left store) (run_only t left store)) λ d. passes
run_only (Statement.repeat n e s) fuel store = enter_only n fuel _ λ left.
    only_bind (evaluate e store) _ (evaluate_only e store) λ x.
    only_bind (iterate (run s) (mentions (Statement.repeat n e s)) (times x.value) left store) _
    (iterate_only (run s) (run_only s) (mentions (Statement.repeat n e s)) (times x.value) left store) λ d. passes

-- ---- a walk through an entry: 8, 9 or 12

abbrev pub of_walking : List ℕ
of_walking = 8 ∷ 9 ∷ 12 ∷ []

read_only : (t : Ty) (ws : List ℤ) → Only of_walking (read_in t ws)
unfolding read_in read paper_number
read_only t [] = refuses refl
read_only t (w ∷ ws) = only_test (in_type t w) broken _ refl passes

moved_only : (t : Ty) (old change : ℤ) → Only of_walking (moved t old change)
unfolding moved paper_number
moved_only t old change = only_test (in_type t (plus t old change)) broken _ refl passes

finished_only : (ws : List ℤ) → Only of_walking (finished ws)
unfolding finished paper_number
finished_only [] = passes
finished_only (w ∷ ws) = refuses refl

cut_only : (n : ℕ) (ws : List ℤ) → Only of_walking (cut n ws)
unfolding cut paper_number
cut_only zero ws = passes
cut_only (suc n) [] = refuses refl
cut_only (suc n) (w ∷ ws) = only_bind (cut n ws) _ (cut_only n ws) λ c. passes

shift_only : (e : Expression) (changes ws : List ℤ) → Only of_walking (shift e changes ws)
unfolding shift paper_number
shift_only (Expression.constant n z) changes ws = passes
shift_only (Expression.variable n v) changes ws = passes
shift_only (Expression.operation n o a b) changes ws =
    only_bind (read_in Ty.number ws) _ (read_only Ty.number ws) λ l.
    only_bind (read_in Ty.number l.rest) _ (read_only Ty.number l.rest) λ r.
    only_bind (compute broken o l.word r.word) _ (compute_only broken refl o l.word r.word) λ old.
    only_bind (shift a changes r.rest) _ (shift_only a changes r.rest) λ x.
    only_bind (moved Ty.number l.word x.change) _ (moved_only Ty.number l.word x.change) λ left.
    only_bind (shift b changes x.rest) _ (shift_only b changes x.rest) λ y.
    only_bind (moved Ty.number r.word y.change) _ (moved_only Ty.number r.word y.change) λ right.
    only_bind (compute out_of_range o left right) _ (compute_only out_of_range refl o left right) λ new. passes

meet_only : (node : ℕ) (last : Bool) (ws : List ℤ) → Only of_walking (meet node last ws)
unfolding meet paper_number
meet_only node last [] = refuses refl
meet_only node last (n ∷ []) = refuses refl
meet_only node last (n ∷ size ∷ []) = refuses refl
meet_only node last (n ∷ size ∷ steps ∷ ws) =
    only_test (eq_z n (pos node)) broken _ refl
    (only_test (le_z (pos opening) size) broken _ refl
    (only_bind (cut (nat_abs size - opening) ws) _ (cut_only (nat_abs size - opening) ws) λ c.
    only_test (ends last c.behind) broken _ refl
    (only_test (between (pos 1) most_steps steps) broken _ refl passes)))

skipped_only : (e : Entry) (fuel : ℕ) (changes : List ℤ) → Only of_walking (skipped e fuel changes)
unfolding skipped paper_number
skipped_only e fuel changes = only_test (leb e.steps fuel) fuel_spent _ refl passes

-- a walk through parts refuses with these only
abbrev OnlyWalks : Walk → Type 0
OnlyWalks w = (left : ℕ) (changes ws : List ℤ) → Only of_walking (w left changes ws)

paid_only : (node : ℕ) (inside : Walk) → OnlyWalks inside → (e : Entry) (fuel : ℕ) (changes : List ℤ) → Only of_walking (paid node inside e fuel changes)
unfolding paid paper_number
paid_only node inside h e zero changes = refuses refl
paid_only node inside h e (suc left) changes = only_bind (inside left changes e.parts) _ (h left changes e.parts) λ w. passes

visit_by_lem : (s : Statement) (inside : Walk) → OnlyWalks inside → (last : Bool) (fuel : ℕ) (changes ws : List ℤ)
    → Only of_walking (visit s inside last fuel changes ws)
unfolding visit
visit_by_lem s inside h last fuel changes ws =
    only_bind (meet (node_of s) last ws) _ (meet_only (node_of s) last ws) λ e.
    only_choose (unchanged (mentions s) changes) skipped (paid (node_of s) inside) (λ f. f e fuel changes)
    (skipped_only e fuel changes) (paid_only (node_of s) inside h e fuel changes)

module _ (types : List Ty) where
  snapshot_only : (vs : List ℕ) (ws : List ℤ) → Only of_walking (read_snapshot types vs ws)
  unfolding read_snapshot
  snapshot_only [] ws = passes
  snapshot_only (v ∷ vs) ws =
      only_bind (read_in (type_of types v) ws) _ (read_only (type_of types v) ws) λ r.
      only_bind (read_snapshot types vs r.rest) _ (snapshot_only vs r.rest) λ s. passes

  all_moved_only : (vs : List ℕ) (olds changes : List ℤ) → Only of_walking (moved_all types vs olds changes)
  unfolding moved_all
  all_moved_only [] olds changes = passes
  all_moved_only (v ∷ vs) [] changes = passes
  all_moved_only (v ∷ vs) (o ∷ os) changes =
      only_bind (moved (type_of types v) o (at changes v)) _ (moved_only (type_of types v) o (at changes v)) λ z.
      only_bind (moved_all types vs os changes) _ (all_moved_only vs os changes) λ zs. passes

  kept_only : (branch : Bool → ℕ → List ℤ → List ℤ → Outcome Visited)
      → ((last : Bool) (fuel : ℕ) (changes ws : List ℤ) → Only of_walking (branch last fuel changes ws))
      → (f : Fork) → Only of_walking (kept types branch f)
  unfolding kept
  kept_only branch h f =
      only_bind (branch true f.left f.changes f.test.rest) _ (h true f.left f.changes f.test.rest) λ b.
      only_bind (moved_all types f.vs f.after b.changes) _ (all_moved_only f.vs f.after b.changes) λ after. passes

  flipped_only : (branch : ℕ → List ℤ → Outcome Done) → ((left : ℕ) (store : List ℤ) → Only of_running (branch left store))
      → (f : Fork) → Only of_walking (flipped types branch f)
  unfolding flipped
  flipped_only branch h f =
      let store : List ℤ = put f.vs f.before (zeros most_variables) in
      only_bind (branch f.left store) _ (only_more refl (h f.left store)) λ d. passes

  -- the condition kept or flipped
  fork_only : (b : Bool) {one two : Fork → Outcome Walked} → ((f : Fork) → Only of_walking (one f)) → ((f : Fork) → Only of_walking (two f))
      → (f : Fork) → Only of_walking (choose b one two f)
  fork_only true h k = h
  fork_only false h k = k

  last_only : (vs : List ℕ) (ws : List ℤ) → Only of_walking (last_snapshot types vs ws)
  unfolding last_snapshot paper_number
  last_only vs ws = only_test (leb (length vs) (length ws)) broken _ refl (snapshot_only vs (drop (length ws - length vs) ws))

  grown_only : (more : ℕ → List ℤ → Outcome Done) → ((left : ℕ) (store : List ℤ) → Only of_running (more left store))
      → (vs : List ℕ) (t : Turn) → Only of_walking (grown types more vs t)
  unfolding grown
  grown_only more h vs t =
      let store : List ℤ = put vs t.new (zeros most_variables) in
      only_bind (finished t.rest) _ (finished_only t.rest) λ u.
      only_bind (more t.left store) _ (only_more refl (h t.left store)) λ d. passes

  loop_only : (body : ℕ → List ℤ → List ℤ → Outcome Visited) → ((left : ℕ) (changes ws : List ℤ) → Only of_walking (body left changes ws))
      → (fresh : ℕ → List ℤ → Outcome Done) → ((left : ℕ) (store : List ℤ) → Only of_running (fresh left store))
      → (vs : List ℕ) (k k' : ℕ) (t : Turn) → Only of_walking (loop types body fresh vs k k' t)
  unfolding loop complete shrunk
  loop_only body h fresh g vs zero zero t = only_bind (finished t.rest) _ (finished_only t.rest) λ u. passes
  loop_only body h fresh g vs zero (suc more) t = grown_only (iterate fresh vs (suc more)) (iterate_only fresh g vs (suc more)) vs t
  loop_only body h fresh g vs (suc k) zero t = only_bind (last_snapshot types vs t.rest) _ (last_only vs t.rest) λ tail. passes
  loop_only body h fresh g vs (suc k) (suc k') t =
      only_bind (body t.left t.changes t.rest) _ (h t.left t.changes t.rest) λ b.
      only_bind (read_snapshot types vs b.rest) _ (snapshot_only vs b.rest) λ old.
      only_bind (moved_all types vs old.values b.changes) _ (all_moved_only vs old.values b.changes) λ new.
      only_bind (loop types body fresh vs k k' _) _ (loop_only body h fresh g vs k k' _) λ w. passes

  walk_only : (s : Statement) → OnlyWalks (walk types s)
  unfolding walk
  walk_only (Statement.skip n) left changes ws = only_bind (finished ws) _ (finished_only ws) λ u. passes
  walk_only (Statement.assign n v e) left changes ws =
      only_bind (shift e changes ws) _ (shift_only e changes ws) λ x. only_bind (finished x.rest) _ (finished_only x.rest) λ u. passes
  walk_only (Statement.sequence n s t) left changes ws =
      only_bind (visit s (walk types s) false left changes ws) _ (visit_by_lem s (walk types s) (walk_only s) false left changes ws) λ a.
      only_bind (visit t (walk types t) true (left - steps_of a.counts) a.changes a.rest) _
      (visit_by_lem t (walk types t) (walk_only t) true (left - steps_of a.counts) a.changes a.rest) λ b. passes
  walk_only (Statement.if n e s t) left changes ws =
      let vs = mentions (Statement.if n e s t) in
      only_bind (read_in Ty.truth ws) _ (read_only Ty.truth ws) λ old.
      only_bind (read_snapshot types vs old.rest) _ (snapshot_only vs old.rest) λ b.
      only_bind (moved_all types vs b.values changes) _ (all_moved_only vs b.values changes) λ before.
      only_bind (read_snapshot types vs b.rest) _ (snapshot_only vs b.rest) λ a.
      only_bind (shift e changes a.rest) _ (shift_only e changes a.rest) λ x.
      fork_only (eq_z x.change (pos 0))
      (kept_only _ λ last fuel changes ws. only_choose (holds old.word) (visit s (walk types s)) (visit t (walk types t)) (λ f. f last fuel changes ws)
      (visit_by_lem s (walk types s) (walk_only s) last fuel changes ws) (visit_by_lem t (walk types t) (walk_only t) last fuel changes ws))
      (flipped_only _ λ left store. only_choose (holds old.word) (run t) (run s) (λ f. f left store) (run_only t left store) (run_only s left store)) _
  walk_only (Statement.repeat n e s) left changes ws =
      let vs = mentions (Statement.repeat n e s) in
      only_bind (read_in Ty.number ws) _ (read_only Ty.number ws) λ old.
      only_bind (read_snapshot types vs old.rest) _ (snapshot_only vs old.rest) λ b.
      only_bind (moved_all types vs b.values changes) _ (all_moved_only vs b.values changes) λ before.
      only_bind (shift e changes b.rest) _ (shift_only e changes b.rest) λ x.
      only_bind (moved Ty.number old.word x.change) _ (moved_only Ty.number old.word x.change) λ count.
      only_bind (loop types (visit s (walk types s) false) (run s) vs (times old.word) (times count) _) _
      (loop_only (visit s (walk types s) false) (visit_by_lem s (walk types s) (walk_only s) false) (run s) (run_only s) vs (times old.word) (times count) _) λ w. passes

  pub visit_only : (s : Statement) (last : Bool) (fuel : ℕ) (changes ws : List ℤ) → Only of_walking (visit s (walk types s) last fuel changes ws)
  visit_only s = visit_by_lem s (walk types s) (walk_only s)

-- ---- whole calls

pub header_only : (types : List Ty) (old : List ℤ) → Only (12 ∷ []) (header types old)
unfolding header paper_number
header_only types old =
    only_test (leb (headed + 2 * length types) (length old)) broken _ refl
    (only_test (le_z (pos (headed + 2 * length types)) (length_of old)) broken _ refl
    (only_test (le_z (length_of old) (pos (length old))) broken _ refl
    (only_test (between (pos 1) most_steps (limit_of old)) broken _ refl
    (only_test (between (pos 1) (limit_of old) (steps_in old)) broken _ refl
    (only_test (fit types (inputs_of types old)) broken _ refl
    (only_test (fit types (outputs_of types old)) broken _ refl passes))))))

-- a call that is lent a room
pub data Request : Type 0 where
  to_run : (bytes : List ℕ) (inputs : List ℤ) (limit : ℤ) → Request
  to_patch : (bytes : List ℕ) (old changes : List ℤ) → Request

-- what it comes to in a room of so many words
abbrev pub in_room : Request → ℕ → Called
in_room (to_run bytes inputs limit) room = call_run bytes inputs limit room
in_room (to_patch bytes old changes) room = call_patch bytes old changes room

-- what it comes to before the room is looked at
abbrev pub finish : Request → Outcome Finished
finish (to_run bytes inputs limit) = finish_run bytes inputs limit
finish (to_patch bytes old changes) = finish_patch bytes old changes

pub room_decides : (q : Request) (room : ℕ) → in_room q room ≡ answered room (finish q >>= within room)
unfolding call_run call_patch
room_decides (to_run bytes inputs limit) room = refl
room_decides (to_patch bytes old changes) room = refl

-- 10 is left to the room
abbrev pub of_finish : List ℕ
of_finish = 1 ∷ 2 ∷ 3 ∷ 4 ∷ 5 ∷ 6 ∷ 7 ∷ 8 ∷ 9 ∷ 11 ∷ 12 ∷ []

pub finish_only : (q : Request) → Only of_finish (finish q)
unfolding finish_run finish_patch paper_number
finish_only (to_run bytes inputs limit) =
    only_bind (check bytes) _ (only_more refl (check_only bytes)) λ p.
    only_test (fit p.types inputs) store_wrong _ refl
    (only_test (between (pos 1) most_steps limit) limit_wrong _ refl
    (only_bind (run p.root (nat_abs limit) (padded inputs)) _ (only_more refl (run_only p.root (nat_abs limit) (padded inputs))) λ d. passes))
finish_only (to_patch bytes old changes) =
    only_bind (check bytes) _ (only_more refl (check_only bytes)) λ p.
    only_bind (header p.types old) _ (only_more refl (header_only p.types old)) λ h.
    only_test (legal p.types h.inputs changes) change_wrong _ refl
    (only_bind (visit p.root (walk p.types p.root) true h.limit (padded changes) h.root) _
    (only_more refl (visit_only p.types p.root true h.limit (padded changes) h.root)) λ v.
    only_test (fit p.types (plus_all p.types h.outputs v.changes)) broken _ refl passes)

-- a finished record opens with its length
abbrev pub Opens : Finished → Type 0
Opens f = at f.words 0 ≡ pos (length f.words)

record_opens : (limit steps : ℕ) (inputs outputs root : List ℤ)
    → at (record_of limit steps inputs outputs root) 0 ≡ pos (length (record_of limit steps inputs outputs root))
unfolding record_of
record_opens limit steps inputs outputs root = ap pos (three_more (length (inputs ++ (outputs ++ root))))
  where
    three_more : (n : ℕ) → headed + n ≡ suc (suc (suc n))
    three_more n = omega arith

pub finish_opens : (q : Request) → Holds Opens (finish q)
unfolding finish_run finish_patch
finish_opens (to_run bytes inputs limit) =
    holds_bind (check bytes) _ (holds_any (check bytes)) λ p a.
    holds_need (fit p.types inputs) store_wrong _ λ b.
    holds_need (between (pos 1) most_steps limit) limit_wrong _ λ c.
    holds_bind (run p.root (nat_abs limit) (padded inputs)) _ (holds_any (run p.root (nat_abs limit) (padded inputs))) λ d e.
    value (record_opens (nat_abs limit) d.steps inputs (take (length p.types) d.store) d.words)
finish_opens (to_patch bytes old changes) =
    holds_bind (check bytes) _ (holds_any (check bytes)) λ p a.
    holds_bind (header p.types old) _ (holds_any (header p.types old)) λ h b.
    holds_need (legal p.types h.inputs changes) change_wrong _ λ c.
    holds_bind (visit p.root (walk p.types p.root) true h.limit (padded changes) h.root) _
    (holds_any (visit p.root (walk p.types p.root) true h.limit (padded changes) h.root)) λ v d.
    holds_need (fit p.types (plus_all p.types h.outputs v.changes)) broken _ λ e.
    value (record_opens h.limit (steps_of v.counts) (plus_all p.types h.inputs changes) (plus_all p.types h.outputs v.changes) v.words)

-- ---- the room

pub fitting : (room : ℕ) (o : Outcome Finished) (f : Finished) → o ≡ accepted f → length f.words ≤ room
    → answered room (o >>= within room) ≡ answered room (accepted f)
unfolding within
fitting room o f e le = rw (e, le-leb (length f.words) room le) refl

pub too_long : (room : ℕ) (o : Outcome Finished) (f : Finished) → o ≡ accepted f → room < length f.words
    → answered room (o >>= within room) ≡ answered room (refused room_short)
unfolding within
too_long room o f e less = rw (e, lt-leb (length f.words) room less) refl

-- how a call ends: refused before the room is looked at, refused by the room, or accepted
pub data Ends (room : ℕ) (o : Outcome Finished) : Type 0 where
  stopped : (r : Refusal) → o ≡ refused r → answered room (o >>= within room) ≡ answered room (refused r) → Ends room o
  short : (f : Finished) → o ≡ accepted f → room < length f.words → answered room (o >>= within room) ≡ answered room (refused room_short) → Ends room o
  fits : (f : Finished) → o ≡ accepted f → length f.words ≤ room → answered room (o >>= within room) ≡ answered room (accepted f) → Ends room o

pub ends_so : (room : ℕ) (o : Outcome Finished) → Ends room o
ends_so room (refused r) = stopped r refl refl
ends_so room (accepted f) = split (length f.words) room
    (λ le. fits f refl le (fitting room (accepted f) f refl le)) (λ less. short f refl less (too_long room (accepted f) f refl less))

pub refused_number : (room : ℕ) (r : Refusal) → (answered room (refused r)).answer.number ≡ paper_number r
unfolding answered
refused_number room r = refl

pub accepted_number : (room : ℕ) (f : Finished) → (answered room (accepted f)).answer.number ≡ 0
unfolding answered
accepted_number room f = refl

zeros_long : (n : ℕ) → length (zeros n) ≡ n
unfolding zeros
zeros_long n = length-replicate n (pos 0)

refused_long : (room : ℕ) (r : Refusal) → length (answered room (refused r)).buffer ≡ room
unfolding answered
refused_long room r = zeros_long room

accepted_long : (room : ℕ) (f : Finished) → length f.words ≤ room → length (answered room (accepted f)).buffer ≡ room
unfolding answered
accepted_long room f le =
    length-append f.words (zeros (room - length f.words))
    ∙ ap (λ (n : ℕ). length f.words + n) (zeros_long (room - length f.words)) ∙ omega arith

-- the whole buffer is written
pub buffer_long : (room : ℕ) (o : Outcome Finished) → length (answered room (o >>= within room)).buffer ≡ room
buffer_long room o = long (ends_so room o)
  where
    long : Ends room o → length (answered room (o >>= within room)).buffer ≡ room
    long (stopped r e whole) = ap (λ c. length c.buffer) whole ∙ refused_long room r
    long (short f e less whole) = ap (λ c. length c.buffer) whole ∙ refused_long room room_short
    long (fits f e le whole) = ap (λ c. length c.buffer) whole ∙ accepted_long room f le
