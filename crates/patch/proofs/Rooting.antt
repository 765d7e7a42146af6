-- A patch whose tests are passed: what they give, and the visit of the root's entry.
-- Assumes nothing.
use mathlib.Core.Path.{◌≡◌, refl, sym, ap, ap₂, ◌∙◌, subst}
use Prim.Native.Nat.{ℕ, ◌+◌, ◌-◌, ◌*◌, ◌≤◌, ◌<◌}
use native.Mathlib.Omega.{arith}
use mathlib.Core.Bool.{Bool, true}
use mathlib.Core.Option.{Option, some}
use mathlib.Core.List.{List, []}
use lib.ListN.{length, take, drop}
use lib.IntN.{ℤ, nat_abs}
use Rattle.std.specs.Prelude.{Result, Ok, Err}
use Rattle.rules.specs.Outcome.{accepted, ◌>>=◌, change_wrong}
use Rattle.rules.specs.Outcome as Paper
use Rattle.rules.specs.Value.{Ty, zeros, most_variables, in_type, at, type_of, padded}
use Rattle.rules.specs.Table.{variables, nodes, types_of, Part, statement, Program, check}
use Rattle.rules.specs.Patch.{Visited, visit, walk}
use Rattle.rules.specs.Call.{Finished, Header, header, length_of, limit_of, inputs_of, legal, within, finish_patch}
use Rattle.rules.proofs.Laws.Outcome.{Holds, value, holds_bind, holds_need, holds_if, holds_at}
use Rattle.rules.proofs.Laws.Call.{legal_long, length_padded, at_padded, in_limits_lem}
use Rattle.rules.proofs.Laws.Value.{zero_in}
use Rattle.rules.proofs.Laws.Entry.{Fine}
use Rattle.rules.proofs.Laws.Header.{Sized, sized, types_long}
use Rattle.rules.proofs.Laws.Parts.{part_at, through, root_at}
use Rattle.rules.proofs.Laws.Shallow.{root_small}
use Rattle.rules.proofs.Laws.Size.{weight}
use Rattle.table.specs.Accepted.{AcceptedTable}
use Rattle.table.specs.Agrees.{Agrees, Accepts, accepts, handed_up}
use Rattle.table.specs.declared.answer.Refusal.{Refusal}
use Rattle.table.specs.declared.answer.Store.{Store}
use Rattle.table.specs.declared.script.Script.{Script}
use Rattle.run.specs.Call.{Answers}
use Rattle.run.specs.Code.{farthest}
use Rattle.pieces.specs.Change.{Near, AllNear}
use Rattle.pieces.specs.Old.{part}
use Rattle.pieces.specs.Entry.{Came, VisitAs}
use Rattle.patch.specs.Statement.{Visitable, VisitsTo}
use Rattle.pieces.specs.declared.entry.Reached.{Reached}
use Rattle.patch.specs.declared.header.Header.{Header as Read}
use Rattle.patch.specs.Call.{Ready, tests, Startable, root_visit, start_at, start_of, Finishable, PatchAnswers}
use Rattle.patch.proofs.Inputs.{legal_near}
use Rattle.patch.proofs.Headers.{Whole, header_whole}
use Rattle.patch.proofs.Testing.{ended, ending, passes}

-- a store of zeros is one
zeros_fine : (types : List Ty) → Fine types (zeros most_variables)
unfolding padded most_variables
zeros_fine types = record {
  long = length_padded [] (omega arith);
  good = λ v. subst (λ (z : ℤ). in_type (type_of types v) z ≡ true) (sym (at_padded [] v)) (zero_in (type_of types v));
}

-- ---- what the tests give

pub record Passed (bytes : List ℕ) (old given : List ℤ) (r : Ready) : Type 0 where
  pub checked : check bytes ≡ accepted r.program
  pub whole : Whole r.program.types old r.header
  pub legals : legal r.program.types r.header.inputs given ≡ true

passing : (bytes : List ℕ) (old given : List ℤ) → Holds (Passed bytes old given) (tests bytes old given)
unfolding tests
passing bytes old given =
    holds_bind (check bytes) _ (holds_if (check bytes) (λ p e. e)) λ p e.
    holds_bind (header p.types old) _ (header_whole p.types old) λ h f.
    holds_need (legal p.types h.inputs given) change_wrong _ λ g.
    value (record { checked = e; whole = f; legals = g })

module _ {bytes : List ℕ} {old given : List ℤ} {head : Read} (s : Startable bytes old head given) where
  abbrev ready : Ready
  ready = s.ready

  abbrev p : Program
  p = ready.program

  passed : Passed bytes old given ready
  passed = holds_at s.passed (passing bytes old given)

  pub accepted_as : AcceptedTable bytes
  accepted_as = (p, passed.checked)

  pub all_sized : Sized bytes
  all_sized = sized bytes p passed.checked

  pub few : {table : List ℕ} → table ≡ bytes → variables table ≤ 32
  few same = omega (arith, ap variables same, all_sized.few)

  pub types_are : p.types ≡ types_of bytes
  types_are = (through bytes p passed.checked).types

  pub types_count : length (types_of bytes) ≡ variables bytes
  types_count = types_long bytes p passed.checked

  pub whole : Whole (types_of bytes) old ready.header
  whole = subst (λ (types : List Ty). Whole types old ready.header) types_are passed.whole

  -- the limit that the code has read
  pub limit_is : head.limit ≡ nat_abs (limit_of old)
  limit_is = s.headed.limit ∙ ap (λ (h : Header). h.limit) whole.is

  legals : legal (types_of bytes) (inputs_of (types_of bytes) old) given ≡ true
  legals =
      ap₂ {C = Bool} (λ (types : List Ty) (ws : List ℤ). legal types ws given) (sym types_are) (sym (ap (λ (h : Header). h.inputs) whole.is))
      ∙ passed.legals

  pub given_long : length given ≡ variables bytes
  given_long = legal_long (types_of bytes) (inputs_of (types_of bytes) old) given legals ∙ types_count

  pub given_few : length given ≤ most_variables
  unfolding most_variables
  given_few = omega (arith, given_long, all_sized.few)

  given_near : AllNear given
  given_near = legal_near (types_of bytes) (inputs_of (types_of bytes) old) given whole.inputs legals

  module _ {changes : List ℤ} (is : changes ≡ padded given) where
    pub changes_long : length changes ≡ 32
    unfolding most_variables
    changes_long = ap length is ∙ length_padded given (omega (arith, given_long, all_sized.few))

    pub changes_near : AllNear changes
    changes_near v = subst Near (sym (ap (λ (ws : List ℤ). at ws v) is ∙ at_padded given v)) (given_near v)

    -- ---- the root's visit

    module _ (script : Script) (same : script.checked.table.now ≡ bytes) {v : ℕ} (iv : v ≡ variables script.checked.table.now) (node : ℕ)
        (in' : node + 1 ≡ nodes script.checked.table.now) where
      abbrev start : Reached
      start = start_at v head.limit changes

      root_here : part_at script.checked.table.now node ≡ some (statement p.root)
      root_here =
          let last : node ≡ nodes bytes - 1 = omega (arith, in', ap nodes same) in
          ap₂ {C = Option Part} part_at same last ∙ root_at bytes p passed.checked

      pub root_visitable : length old < 1_152_921_504_606_846_976 → Visitable script node old head.length start
      root_visitable small =
          let low : head.limit ≤ 1_000_000 = omega (arith, limit_is, (in_limits_lem (limit_of old) whole.limited).2) in
          let ordered : 3 + 2 * v ≤ head.length = omega (arith, iv, ap variables same, s.headed.length, types_count, whole.least) in
          let ends : head.length ≤ length old = omega (arith, s.headed.length, whole.inside) in
          let place : 3 + 2 * v + weight * head.limit + length old + 60_000_000 ≤ farthest + (3 + 2 * v) = omega arith in
          let few : 0 + 0 + head.limit ≤ 1_000_000 = omega arith in
          record {
            known = record { tree = p.root; here = root_here; small = root_small bytes p passed.checked; fine = zeros_fine (types_of script.checked.table.now) };
            sound = record {
              long = changes_long;
              near = changes_near;
              inside = record { ordered = ordered; ends = ends };
              place = place;
              few = few;
            };
          }

      -- the visit's words and limit are the header's
      visit_is : visit p.root (walk (types_of script.checked.table.now) p.root) true head.limit changes (part old (3 + 2 * v) head.length) ≡ root_visit ready changes
      unfolding part
      visit_is =
          let count : v ≡ length (types_of bytes) = iv ∙ ap variables same ∙ sym types_count in
          let root : part old (3 + 2 * v) head.length ≡ ready.header.root
          = ap₂ {C = List ℤ} (λ (n l : ℕ). take (l - (3 + 2 * n)) (drop (3 + 2 * n) old)) count s.headed.length ∙ sym (ap (λ (h : Header). h.root) whole.is) in
          ap (λ (types : List Ty). visit p.root (walk types p.root) true head.limit changes (part old (3 + 2 * v) head.length)) (ap types_of same ∙ sym types_are)
          ∙ ap₂ {C = Paper.Outcome Visited} (λ (l : ℕ) (ws : List ℤ). visit p.root (walk p.types p.root) true l changes ws) s.headed.limit root

      pub root_visits : (r : Result Reached Refusal) (out after : List ℤ) → VisitsTo script node true old head.length start r out after
          → VisitAs (root_visit ready changes) (start_of bytes old changes) r old (nat_abs (length_of old)) out after
      root_visits r out after to =
          let from : start ≡ start_of bytes old changes = ap₂ {C = Reached} (λ (i l : ℕ). start_at i l changes) (iv ∙ ap variables same) limit_is in
          let own = visit p.root (walk (types_of script.checked.table.now) p.root) true head.limit changes (part old (3 + 2 * v) head.length) in
          subst (λ (m : Paper.Outcome Visited). VisitAs m (start_of bytes old changes) r old (nat_abs (length_of old)) out after) visit_is
          (subst (λ (e : ℕ). VisitAs own (start_of bytes old changes) r old e out after) s.headed.length
          (subst (λ (u : Reached). VisitAs own u r old head.length out after) from (to p.root root_here)))

  -- ---- what the visit's outcome makes of the patch

  -- the patch goes on from the visit
  pub goes_on : finish_patch bytes old given ≡ ending given ready
  goes_on = passes bytes old given ready s.passed

module _ {bytes : List ℕ} {old given : List ℤ} {head : Read} {changes : Store} (h : Startable bytes old head given) (is : changes.values ≡ padded given)
    {r : Result Reached Refusal} {out one : List ℤ}
    (to : VisitAs (root_visit h.ready changes.values) (start_of bytes old changes.values) r old (nat_abs (length_of old)) out one) where
  abbrev after : Visited → Paper.Outcome Finished
  after = ended given h.ready.program.types h.ready.header

  pub root_refused : {q : Refusal} → r ≡ Err q → (room : ℕ) (end : List ℤ) → PatchAnswers bytes old given room (Err q) end
  root_refused {q = q} e room end =
      subst (λ (o : Paper.Outcome Finished). Agrees (λ f a. Answers room (accepted f) a end) (o >>= within room) (Err q))
      (sym (goes_on h ∙ ap (λ (ws : List ℤ). root_visit h.ready ws >>= after) (sym is)))
      (handed_up (within room) (handed_up {Q = λ f a. Answers room (accepted f) a end} after to e) refl)

  module _ {x : Reached} (e : r ≡ Ok x) where
    -- the visit that the code has made
    abbrev went : Accepts (λ v to. Came v (start_of bytes old changes.values) to old (nat_abs (length_of old)) out one) (root_visit h.ready changes.values) x
    went = accepts to e

    abbrev pub root_finishable : Finishable bytes old head.limit changes x one
    root_finishable = record {
      head = head;
      rooted = record { given = given; start = h; whole = is };
      limits = refl;
      visited = went.value;
      comes = went.comes;
      before = out;
      came = went.holds;
    }
