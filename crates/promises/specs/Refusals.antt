-- What a refusal leaves and what an acceptance leaves, and the order of the refusal numbers of document 01.
-- A run and a patch are spoken of together, as a `Request` in a room of so many words (`in_room`, `rules/proofs/Laws/Whole.antt`).
-- The proof: a call comes to an end, then the room decides (`ends_so`); the orders are the lines of the definitions, read off.
-- Assumes nothing.
use Rattle.std.specs.Prelude.{◌≡◌, refl, ℕ, zero, suc, ◌+◌, ◌-◌, ◌≤◌, ◌<◌, false, List, [], ◌∷◌, ◌++◌, length, take, leb, ℤ, pos, nat_abs}
use Rattle.std.proofs.Common.{sym, ap, subst, arith}
use Rattle.std.proofs.Math.Bool.{true}
use mathlib.Core.List.Memᴰ.{eq_of_singleton as one_of_lem}
use Rattle.std.proofs.Math.Seq.{take-append_seam}
use borrow.Author.Tests.{le-leb, lt-leb}
use Rattle.numbers.specs.Signed.{between}
use Rattle.rules.specs.Outcome.{Refusal, store_wrong, limit_wrong, paper_number, number_of, Outcome, accepted, refused, ◌>>=◌}
use Rattle.rules.specs.Value.{at, zeros, most_variables, padded, fit, plus_all}
use Rattle.rules.specs.Tree.{Statement, depth}
use Rattle.rules.specs.Table.{check_header, check_types, type_bytes, types_of, nodes_of, Part, make_all, root_of, children, check_uses, most_depth, Program, check}
use Rattle.rules.specs.Run.{most_steps, Done, run, record_of}
use Rattle.rules.specs.Patch.{Counts, steps_of, no_steps, all_fresh, Visited, visit, walk}
use Rattle.rules.specs.Call.{Called, Finished, within, answered, call_check, finish_run, call_run, Header, header, legal, finish_patch, call_patch}
use Rattle.rules.proofs.Laws.Outcome.{Holds, value, holds_bind, holds_need, holds_any, holds_of}
use Rattle.rules.proofs.Laws.Mentions.{◌∈◌}
use Rattle.rules.proofs.Laws.Answer.{Accepted, record_in, Ended, accepted_end}
use Rattle.rules.proofs.Laws.Whole.{only_of, check_header_only, check_types_only, nodes_only, root_only, uses_only, check_only, run_only, visit_only, header_only, Request, in_room, finish, room_decides, Opens, finish_opens, Ends, stopped, short, fits, ends_so, accepted_number}

-- ---- what a call leaves

-- "When refused, all of these but the number are zero and the whole new buffer is zero."
pub record OnlyANumber (room : ℕ) (c : Called) : Type 0 where
  pub steps : c.answer.steps ≡ 0
  pub counts : c.answer.counts ≡ no_steps
  pub record_length : c.answer.length ≡ 0
  pub values : c.answer.values ≡ zeros most_variables
  pub changes : c.answer.changes ≡ zeros most_variables
  pub buffer : c.buffer ≡ zeros room

-- "When accepted, the record is followed by zeros to the buffer's end"; "length L" is its first word; "Steps = walked + reused +
-- fresh."
pub record ARecord (room : ℕ) (c : Called) : Type 0 where
  pub buffer : c.buffer ≡ record_in c ++ zeros (room - length (record_in c))
  pub record_length : c.answer.length ≡ length (record_in c)
  pub inside : length (record_in c) ≤ room
  pub first : at c.buffer 0 ≡ pos c.answer.length
  pub steps : c.answer.steps ≡ c.answer.counts.walked + c.answer.counts.reused + c.answer.counts.fresh

-- ---- the proof of these

number_left : (room : ℕ) (r : Refusal) → OnlyANumber room (answered room (refused r))
unfolding answered
number_left room r = record { steps = refl; counts = refl; record_length = refl; values = refl; changes = refl; buffer = refl }

refused_left : (room : ℕ) (o : Outcome Finished) → 1 ≤ (answered room (o >>= within room)).answer.number → Ends room o
    → OnlyANumber room (answered room (o >>= within room))
refused_left room o some (stopped r e whole) = rw whole (number_left room r)
refused_left room o some (short f e less whole) = rw whole (number_left room _)
refused_left room o some (fits f e le whole) = absurd (omega (arith, accepted_number room f, ap (λ c. c.answer.number) whole))

-- the words of a record, and then zeros
at_front : (words : List ℤ) (n : ℕ) → at words 0 ≡ pos (length words) → at (words ++ zeros n) 0 ≡ pos (length words)
unfolding zeros
at_front [] zero e = refl
at_front [] (suc n) e = refl
at_front (w ∷ ws) n e = e

record_left : (room : ℕ) (f : Finished) → length f.words ≤ room → Opens f → ARecord room (answered room (accepted f))
unfolding answered steps_of record_in
record_left room f le opens =
    let is : take (length f.words) (f.words ++ zeros (room - length f.words)) ≡ f.words
    = take-append_seam f.words (zeros (room - length f.words)) in
    record {
      buffer = ap (λ (ws : List ℤ). ws ++ zeros (room - length ws)) (sym is);
      record_length = ap length (sym is);
      inside = subst (λ (ws : List ℤ). length ws ≤ room) (sym is) le;
      first = at_front f.words (room - length f.words) opens;
      steps = refl;
    }

accepted_left : (room : ℕ) (o : Outcome Finished) → Holds Opens o → Ended room o → ARecord room (answered room (o >>= within room))
accepted_left room o opens e = rw e.whole (record_left room e.end e.fits (holds_of (subst (Holds Opens) e.comes opens)))

-- ---- the promises

-- Given by: the call is refused (its number is not 0).
pub refused_leaves_only_a_number : (q : Request) (room : ℕ) → 1 ≤ (in_room q room).answer.number → OnlyANumber room (in_room q room)
refused_leaves_only_a_number q room some =
    rw (room_decides q room) (refused_left room (finish q) (rw (room_decides q room) at some) (ends_so room (finish q)))

-- Given by: the call is accepted.
pub accepted_leaves_a_record : (q : Request) (room : ℕ) → Accepted (in_room q room) → ARecord room (in_room q room)
accepted_leaves_a_record q room a =
    rw (room_decides q room) (accepted_left room (finish q) (finish_opens q) (accepted_end room (finish q) (rw (room_decides q room) at a)))

-- ---- a run's counts

-- all steps are fresh and nothing is changed
abbrev AllFresh : Counts → ℕ → List ℤ → Type 0
AllFresh counts steps changes = (counts ≡ all_fresh steps) × (changes ≡ zeros most_variables)

finish_fresh : (bytes : List ℕ) (inputs : List ℤ) (limit : ℤ)
    → Holds (λ f. AllFresh f.counts (steps_of f.counts) f.changes) (finish_run bytes inputs limit)
unfolding finish_run steps_of all_fresh
finish_fresh bytes inputs limit =
    holds_bind (check bytes) _ (holds_any (check bytes)) λ p a.
    holds_need (fit p.types inputs) store_wrong _ λ b.
    holds_need (between (pos 1) most_steps limit) limit_wrong _ λ c.
    holds_bind (run p.root (nat_abs limit) (padded inputs)) _ (holds_any (run p.root (nat_abs limit) (padded inputs))) λ d e.
    let sum : d.steps ≡ 0 + 0 + d.steps = omega arith in
    value (ap all_fresh sum, refl)

fresh_left : (room : ℕ) (o : Outcome Finished) → Holds (λ f. AllFresh f.counts (steps_of f.counts) f.changes) o → Ends room o
    → AllFresh (answered room (o >>= within room)).answer.counts (answered room (o >>= within room)).answer.steps
    (answered room (o >>= within room)).answer.changes
unfolding answered no_steps all_fresh
fresh_left room o h (stopped r e whole) = rw whole (refl, refl)
fresh_left room o h (short f e less whole) = rw whole (refl, refl)
fresh_left room o h (fits f e le whole) = rw whole (holds_of (subst (Holds _) e h))

-- "A run reports fresh = steps, walked = reused = 0 and zero changes."
-- Given by: nothing.
pub run_is_all_fresh : (bytes : List ℕ) (inputs : List ℤ) (limit : ℤ) (room : ℕ)
    → ((call_run bytes inputs limit room).answer.counts ≡ record { walked = 0; reused = 0; fresh = (call_run bytes inputs limit room).answer.steps })
    × ((call_run bytes inputs limit room).answer.changes ≡ zeros most_variables)
unfolding call_run all_fresh
run_is_all_fresh bytes inputs limit room =
    fresh_left room (finish_run bytes inputs limit) (finish_fresh bytes inputs limit) (ends_so room (finish_run bytes inputs limit))

-- ---- the order of the numbers: a line for each test, in its turn, given that the tests before it passed

-- the table's header and types passed; then its nodes and its root
abbrev pub TypesPass : List ℕ → Type 0
TypesPass bytes = (check_header bytes ≡ accepted tt) × (check_types (type_bytes bytes) ≡ accepted tt)

abbrev pub NodesPass : List ℕ → List Part → Statement → Type 0
NodesPass bytes parts s = TypesPass bytes × (make_all (types_of bytes) [] (nodes_of bytes) ≡ accepted parts) × (root_of parts ≡ accepted s)

-- "Table check: 1 to 5 in turn."
pub record CheckOrder (bytes : List ℕ) : Type 0 where
  pub header : (r : Refusal) → check_header bytes ≡ refused r → call_check bytes ≡ 1
  pub types : check_header bytes ≡ accepted tt → (r : Refusal) → check_types (type_bytes bytes) ≡ refused r → call_check bytes ≡ 2
  pub nodes : TypesPass bytes → (r : Refusal) → make_all (types_of bytes) [] (nodes_of bytes) ≡ refused r → call_check bytes ≡ 3
  pub root : TypesPass bytes → (parts : List Part) → make_all (types_of bytes) [] (nodes_of bytes) ≡ accepted parts
      → (r : Refusal) → root_of parts ≡ refused r → call_check bytes ≡ 3
  pub uses : (parts : List Part) (s : Statement) → NodesPass bytes parts s
      → (r : Refusal) → check_uses (length parts - 1) (children (nodes_of bytes)) ≡ refused r → call_check bytes ≡ 4
  pub deep : (parts : List Part) (s : Statement) → NodesPass bytes parts s
      → check_uses (length parts - 1) (children (nodes_of bytes)) ≡ accepted tt → leb (depth s) most_depth ≡ false → call_check bytes ≡ 5
  pub accepts : (parts : List Part) (s : Statement) → NodesPass bytes parts s
      → check_uses (length parts - 1) (children (nodes_of bytes)) ≡ accepted tt → leb (depth s) most_depth ≡ true → call_check bytes ≡ 0

-- Given by: nothing.
pub check_order : (bytes : List ℕ) → CheckOrder bytes
unfolding call_check check number_of paper_number
check_order bytes = record {
  header = λ r e. rw e (one_of_lem (only_of (check_header_only bytes) e));
  types = λ a r e. rw (a, e) (one_of_lem (only_of (check_types_only (type_bytes bytes)) e));
  nodes = λ a r e. rw (a.0, a.1, e) (one_of_lem (only_of (nodes_only (types_of bytes) [] (nodes_of bytes)) e));
  root = λ a parts b r e. rw (a.0, a.1, b, e) (one_of_lem (only_of (root_only parts) e));
  uses = λ parts s a r e. rw (a.0.0, a.0.1, a.1, a.2, e) (one_of_lem (only_of (uses_only (length parts - 1) (children (nodes_of bytes))) e));
  deep = λ parts s a b e. rw (a.0.0, a.0.1, a.1, a.2, b, e) refl;
  accepts = λ parts s a b e. rw (a.0.0, a.0.1, a.1, a.2, b, e) refl;
}

-- the number is that of this refusal, and one of these
abbrev pub Gives : Refusal → List ℕ → ℕ → Type 0
Gives r ns n = (n ≡ paper_number r) × (n ∈ ns)

module _ (bytes : List ℕ) (inputs : List ℤ) (limit : ℤ) where
  -- the table is accepted, the inputs are a store of it, the limit is one
  abbrev pub Starts : Program → Type 0
  Starts p = (check bytes ≡ accepted p) × (fit p.types inputs ≡ true) × (between (pos 1) most_steps limit ≡ true)

  -- the record of a run that ends with d
  abbrev pub record_ran : Program → Done → List ℤ
  record_ran p d = record_of (nat_abs limit) d.steps inputs (take (length p.types) d.store) d.words

  -- "Run: 1 to 7 in turn, then 8 or 9, the first in execution order, then 10."
  pub record RunOrder (room : ℕ) : Type 0 where
    pub table : (r : Refusal) → check bytes ≡ refused r → Gives r (1 ∷ 2 ∷ 3 ∷ 4 ∷ 5 ∷ []) (call_run bytes inputs limit room).answer.number
    pub store : (p : Program) → check bytes ≡ accepted p → fit p.types inputs ≡ false → (call_run bytes inputs limit room).answer.number ≡ 6
    pub bound : (p : Program) → check bytes ≡ accepted p → fit p.types inputs ≡ true → between (pos 1) most_steps limit ≡ false
        → (call_run bytes inputs limit room).answer.number ≡ 7
    pub running : (p : Program) → Starts p → (r : Refusal) → run p.root (nat_abs limit) (padded inputs) ≡ refused r
        → Gives r (8 ∷ 9 ∷ []) (call_run bytes inputs limit room).answer.number
    pub short : (p : Program) → Starts p → (d : Done) → run p.root (nat_abs limit) (padded inputs) ≡ accepted d
        → room < length (record_ran p d) → (call_run bytes inputs limit room).answer.number ≡ 10
    pub accepts : (p : Program) → Starts p → (d : Done) → run p.root (nat_abs limit) (padded inputs) ≡ accepted d
        → length (record_ran p d) ≤ room → (call_run bytes inputs limit room).answer.number ≡ 0

  -- Given by: nothing.
  pub run_order : (room : ℕ) → RunOrder room
  unfolding call_run finish_run answered within paper_number
  run_order room = record {
    table = λ r e. rw e (refl, only_of (check_only bytes) e);
    store = λ p a e. rw (a, e) refl;
    bound = λ p a b e. rw (a, b, e) refl;
    running = λ p a r e. rw (a.0, a.1, a.2, e) (refl, only_of (run_only p.root (nat_abs limit) (padded inputs)) e);
    short = λ p a d e less. rw (a.0, a.1, a.2, e, lt-leb (length (record_ran p d)) room less) refl;
    accepts = λ p a d e le. rw (a.0, a.1, a.2, e, le-leb (length (record_ran p d)) room le) refl;
  }

module _ (bytes : List ℕ) (old changes : List ℤ) where
  -- the table is accepted, the old record's header is not broken, the list is legal
  abbrev pub Opened : Program → Header → Type 0
  Opened p h = (check bytes ≡ accepted p) × (header p.types old ≡ accepted h) × (legal p.types h.inputs changes ≡ true)

  -- the walk through the root's entry, the outputs behind it, and the new record
  abbrev pub walks : Program → Header → Outcome Visited
  walks p h = visit p.root (walk p.types p.root) true h.limit (padded changes) h.root

  abbrev pub outputs : Program → Header → Visited → List ℤ
  outputs p h v = plus_all p.types h.outputs v.changes

  abbrev pub record_patched : Program → Header → Visited → List ℤ
  record_patched p h v = record_of h.limit (steps_of v.counts) (plus_all p.types h.inputs changes) (outputs p h v) v.words

  -- "Patch: 1 to 5, the header's 12, 11, then 8, 9 or 12, the first met in the walk, then 10"; "at the end, outputs plus changes
  -- outside their types: 12".
  pub record PatchOrder (room : ℕ) : Type 0 where
    pub table : (r : Refusal) → check bytes ≡ refused r → Gives r (1 ∷ 2 ∷ 3 ∷ 4 ∷ 5 ∷ []) (call_patch bytes old changes room).answer.number
    pub opening : (p : Program) → check bytes ≡ accepted p → (r : Refusal) → header p.types old ≡ refused r
        → (call_patch bytes old changes room).answer.number ≡ 12
    pub list : (p : Program) → check bytes ≡ accepted p → (h : Header) → header p.types old ≡ accepted h
        → legal p.types h.inputs changes ≡ false → (call_patch bytes old changes room).answer.number ≡ 11
    pub walking : (p : Program) (h : Header) → Opened p h → (r : Refusal) → walks p h ≡ refused r
        → Gives r (8 ∷ 9 ∷ 12 ∷ []) (call_patch bytes old changes room).answer.number
    pub ending : (p : Program) (h : Header) → Opened p h → (v : Visited) → walks p h ≡ accepted v
        → fit p.types (outputs p h v) ≡ false → (call_patch bytes old changes room).answer.number ≡ 12
    pub short : (p : Program) (h : Header) → Opened p h → (v : Visited) → walks p h ≡ accepted v
        → fit p.types (outputs p h v) ≡ true → room < length (record_patched p h v) → (call_patch bytes old changes room).answer.number ≡ 10
    pub accepts : (p : Program) (h : Header) → Opened p h → (v : Visited) → walks p h ≡ accepted v
        → fit p.types (outputs p h v) ≡ true → length (record_patched p h v) ≤ room → (call_patch bytes old changes room).answer.number ≡ 0

  -- Given by: nothing.
  pub patch_order : (room : ℕ) → PatchOrder room
  unfolding call_patch finish_patch answered within paper_number
  patch_order room = record {
    table = λ r e. rw e (refl, only_of (check_only bytes) e);
    opening = λ p a r e. rw (a, e) (one_of_lem (only_of (header_only p.types old) e));
    list = λ p a h b e. rw (a, b, e) refl;
    walking = λ p h a r e. rw (a.0, a.1, a.2, e) (refl, only_of (visit_only p.types p.root true h.limit (padded changes) h.root) e);
    ending = λ p h a v b e. rw (a.0, a.1, a.2, b, e) refl;
    short = λ p h a v b e less. rw (a.0, a.1, a.2, b, e, lt-leb (length (record_patched p h v)) room less) refl;
    accepts = λ p h a v b e le. rw (a.0, a.1, a.2, b, e, le-leb (length (record_patched p h v)) room le) refl;
  }
