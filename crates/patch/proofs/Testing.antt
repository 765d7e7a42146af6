-- The tests before a patch decide in turn; a call that they refuse is refused so, and one that passes them answers by its walk.
-- Assumes nothing.
use mathlib.Core.Path.{◌≡◌, refl, sym, ap, ◌∙◌, subst}
use Prim.Native.Nat.{ℕ, ◌+◌, ◌-◌, ◌≤◌}
use native.Mathlib.Omega.{arith}
use mathlib.Core.Bool.{Bool, true, false}
use mathlib.Core.List.{List}
use lib.ListN.{length, take, drop}
use lib.IntN.{ℤ}
use Rattle.std.specs.Prelude.{Result, Ok, Err, ⊤}
use Rattle.rules.specs.Outcome.{accepted, refused, ◌>>=◌, need, change_wrong, broken}
use Rattle.rules.specs.Outcome as Paper
use Rattle.rules.specs.Value.{Ty, padded, fit, plus_all}
use Rattle.rules.specs.Table.{u16, types_of, Program, check}
use Rattle.rules.specs.Patch.{Visited}
use Rattle.rules.specs.Call.{Finished, Header, header, inputs_of, legal, answered, within, finish_patch, call_patch, IsCheck, IsPatch}
use Rattle.rules.proofs.Laws.Header.{Sized, sized, types_long}
use Rattle.rules.proofs.Laws.Outcome.{holds_at, bind_assoc, bind_same}
use Rattle.rules.proofs.Laws.Parts.{through}
use Rattle.table.specs.Accepted.{AcceptedTable}
use Rattle.table.specs.Agrees.{Agrees, accepts, refuses, agrees_ok, agrees_err, handed_up}
use Rattle.table.specs.Paper.{number_of, answer_of, outcome_of, reason_of, reason_back}
use Rattle.table.specs.declared.answer.Refusal.{Refusal}
use Rattle.table.specs.declared.answer.Refusal.TheVariants.{Change}
use Rattle.table.specs.declared.answer.Answer.{Answer}
use Rattle.run.specs.Call.{Answers}
use Rattle.run.specs.Laws.Fitting.{count_is}
use Rattle.run.specs.Laws.Tests.{check_told}
use Rattle.patch.specs.declared.header.Header.{Header as Read}
use Rattle.patch.specs.Call.{HeaderAs, HeaderTo, Ready, tests, Tested, Startable, root_visit, finished, PatchAnswers}
use Rattle.patch.proofs.Headers.{Whole, header_whole, inputs_are}

-- ---- the tests in turn

-- what the test of the changes makes of a program and a header
abbrev decided : Program → Header → Bool → Paper.Outcome Ready
decided p h l = need l change_wrong >>= λ u. accepted (record { program = p; header = h })

-- the tests behind the header's
abbrev judged : List ℤ → List Ty → Program → Header → Paper.Outcome Ready
judged changes types p h = decided p h (legal types h.inputs changes)

-- what the outputs make of a visit that came to its end
abbrev pub ended : List ℤ → List Ty → Header → Visited → Paper.Outcome Finished
ended changes types h w = need (fit types (plus_all types h.outputs w.changes)) broken
    >>= λ u. accepted (finished (length types) h.limit (plus_all types h.inputs changes) (plus_all types h.outputs w.changes) w)

-- what a patch that passed its tests comes to
abbrev pub ending : List ℤ → Ready → Paper.Outcome Finished
ending changes r = root_visit r (padded changes) >>= ended changes r.program.types r.header

pub table_sized : {bytes : List ℕ} → AcceptedTable bytes → Sized bytes
table_sized {bytes} table = sized bytes table.0 table.1

module _ (bytes : List ℕ) (old changes : List ℤ) where
  pub check_refused : {r : Result ⊤ Refusal} {q : Refusal} → IsCheck bytes (number_of (outcome_of r)) → r ≡ Err q → Tested bytes old changes (Err q)
  unfolding tests
  check_refused {r} h e = handed_up (λ p. header p.types old >>= judged changes p.types p) (check_told bytes r h) e

  module _ (table : AcceptedTable bytes) where
    abbrev p : Program
    p = table.0

    abbrev types : List Ty
    types = types_of bytes

    tests_are : tests bytes old changes ≡ (header types old >>= judged changes types p)
    unfolding tests
    tests_are =
        ap (λ (m : Paper.Outcome Program). m >>= λ q. header q.types old >>= judged changes q.types q) table.1
        ∙ ap (λ (ts : List Ty). header ts old >>= judged changes ts p) (through bytes p table.1).types

    module _ {r : Result Read Refusal} (h : HeaderTo bytes old r) where
      pub header_refused : {q : Refusal} → r ≡ Err q → Tested bytes old changes (Err q)
      header_refused {q} e = subst (λ (m : Paper.Outcome Ready). Agrees (λ g to. HeaderAs old g.header to) m (Err q)) (sym tests_are) (handed_up (judged changes types p) h e)

      module _ {head : Read} (e : r ≡ Ok head) where
        abbrev x : Header
        x = (accepts h e).value

        whole : Whole types old x
        whole = holds_at (accepts h e).comes (header_whole types old)

        -- the inputs as the code reads them, by the count of variables
        module _ {v : ℕ} (count : v ≡ u16 bytes 4) where
          abbrev inputs : List ℤ
          inputs = take (3 + v - 3) (drop 3 old)

          inputs_same : inputs ≡ inputs_of types old
          inputs_same = inputs_are (table_sized table) old (count_is bytes count)

          pub inputs_there : 3 + v ≤ length old
          inputs_there = omega (arith, whole.room, types_long bytes p table.1, count_is bytes count)

          pub legal_asked : Sized bytes × (fit types inputs ≡ true)
          legal_asked = (table_sized table, ap (fit types) inputs_same ∙ whole.inputs)

          module _ {l : Bool} (is : l ≡ legal types inputs changes) where
            -- a test that the code has made
            change_decides : (b : Bool) → l ≡ b → tests bytes old changes ≡ decided p x b
            change_decides b f =
                let same : x.inputs ≡ inputs = ap (λ (y : Header). y.inputs) whole.is ∙ sym inputs_same in
                tests_are ∙ ap (λ (m : Paper.Outcome Header). m >>= judged changes types p) (accepts h e).comes
                ∙ ap (decided p x) (ap (λ (ws : List ℤ). legal types ws changes) same ∙ sym is ∙ f)

            pub change_refused : l ≡ false → Tested bytes old changes (Err Change)
            change_refused f = agrees_err (change_decides false f) refl

            pub all_passed : l ≡ true → Tested bytes old changes (Ok head)
            all_passed f = agrees_ok (change_decides true f) (accepts h e).holds

  pub startable : {r : Result Read Refusal} {head : Read} → Tested bytes old changes r → r ≡ Ok head → Startable bytes old head changes
  startable h e = let a = accepts h e in record { ready = a.value; passed = a.comes; headed = a.holds }

  -- ---- the call

  finish_by : finish_patch bytes old changes ≡ (tests bytes old changes >>= ending changes)
  unfolding finish_patch tests
  finish_by = sym (bind_assoc (check bytes) _ _
      ∙ bind_same (check bytes) _ _ (λ q.
      bind_assoc (header q.types old) _ _
      ∙ bind_same (header q.types old) _ _ (λ h.
      bind_assoc (need (legal q.types h.inputs changes) change_wrong) _ _)))

  pub tests_refused : {r : Result Read Refusal} {q : Refusal} → Tested bytes old changes r → r ≡ Err q → (room : ℕ) (after : List ℤ)
      → PatchAnswers bytes old changes room (Err q) after
  tests_refused {q = q} h e room after =
      subst (λ (m : Paper.Outcome Finished). Agrees (λ f a. Answers room (accepted f) a after) (m >>= within room) (Err q)) (sym finish_by)
      (handed_up (within room) (handed_up {Q = λ f a. Answers room (accepted f) a after} (ending changes) h e) refl)

  -- the patch goes on from the tests
  pub passes : (s : Ready) → tests bytes old changes ≡ accepted s → finish_patch bytes old changes ≡ ending changes s
  passes s e = finish_by ∙ ap (λ (m : Paper.Outcome Ready). m >>= ending changes) e

  answers_patch : {m : Paper.Outcome Finished} (a : Answer) (room : ℕ) (after : List ℤ) → (finish_patch bytes old changes >>= within room) ≡ m
      → Answers room m a after → length after ≡ room → IsPatch bytes old changes (answer_of a) after
  unfolding call_patch
  answers_patch a room after e w same = record {
    answers = w.0 ∙ ap (λ (o : Paper.Outcome Finished). (answered room o).answer) (sym e)
        ∙ ap (λ (n : ℕ). (answered n (finish_patch bytes old changes >>= within n)).answer) (sym same);
    leaves = w.1 ∙ ap (λ (o : Paper.Outcome Finished). (answered room o).buffer) (sym e)
        ∙ ap (λ (n : ℕ). (answered n (finish_patch bytes old changes >>= within n)).buffer) (sym same);
  }

  module _ {r : Result Answer Refusal} {room : ℕ} {now : List ℤ} (h : PatchAnswers bytes old changes room r now) where
    pub patch_answered : {a : Answer} → r ≡ Ok a → length now ≡ room → IsPatch bytes old changes (answer_of a) now
    patch_answered {a} e same = let x = accepts h e in answers_patch a room now x.comes x.holds same

    pub patch_refused : {q : Refusal} → r ≡ Err q → (a : Answer) (after : List ℤ) → Answers (length now) (refused (reason_of q)) a after
        → length after ≡ length now → length now ≡ room → IsPatch bytes old changes (answer_of a) after
    patch_refused e a after w long same =
        let x = refuses h e in
        answers_patch a room after x.comes
        (subst (λ (n : ℕ). Answers n (refused x.reason) a after) same
        (subst (λ (y : Paper.Refusal). Answers (length now) (refused y) a after) (ap reason_of x.is ∙ reason_back x.reason) w)) (long ∙ same)
