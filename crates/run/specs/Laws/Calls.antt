-- The whole run: what the tests give, the root's run from the inputs, and the room, which decides last.
-- Assumes nothing.
use Rattle.std.specs.Prelude.{◌≡◌, ℕ, ◌+◌, ◌-◌, ◌*◌, ◌≤◌, ◌<◌, Bool, List, length, take, leb, ℤ, pos, nat_abs, Result, Ok, Err}
use Rattle.std.proofs.Math.Path.{refl, sym, ap, subst}
use Rattle.std.proofs.Common.{◌∙◌, arith, length-take-le, le-leb, SFits, to_z, of_z}
use Rattle.std.proofs.Math.Bool.{true, false}
use Rattle.std.proofs.Math.Option.{some}
use Rattle.std.proofs.lemmas.Bool.{lt-leb}
use mir.Syntax.{w64}
use Rattle.std.proofs.lemmas.Int.{to_z-of_z}
use Rattle.numbers.specs.Signed.{between}
use Rattle.rules.specs.Outcome.{accepted, refused, ◌>>=◌, need, store_wrong, limit_wrong, room_short}
use Rattle.rules.specs.Outcome as Paper
use Rattle.rules.specs.Value.{most_variables, padded, fit}
use Rattle.rules.specs.Table.{nodes, types_of, statement, Program, check}
use Rattle.rules.specs.Run.{Done, most_steps, run}
use Rattle.rules.specs.Call.{Finished, within, finish_run, call_run, IsRun}
use Rattle.rules.proofs.Laws.Outcome.{Holds, value, holds_bind, holds_need, holds_of, holds_if}
use Rattle.rules.proofs.Laws.Call.{fit_long, padded_fine, in_limits_lem}
use Rattle.rules.proofs.Laws.Entry.{Fine}
use Rattle.rules.proofs.Laws.Header.{sized, types_long}
use Rattle.rules.proofs.Laws.Parts.{part_at, through, root_at}
use Rattle.rules.proofs.Laws.Shallow.{root_small}
use Rattle.rules.proofs.Laws.Size.{weight}
use Rattle.table.specs.Accepted.{AcceptedTable}
use Rattle.table.specs.Agrees.{both, neither, Accepts, accepts, refuses}
use Rattle.table.specs.Paper.{answer_of, reason_of, reason_back}
use Rattle.table.specs.declared.answer.Refusal.{Refusal}
use Rattle.table.specs.declared.answer.Refusal.TheVariants.{Room}
use Rattle.table.specs.declared.script.Script.{Script}
use Rattle.table.specs.declared.answer.Answer.{Answer}
use Rattle.run.specs.declared.statement.Ran.{Ran}
use Rattle.run.specs.Code.{farthest}
use Rattle.run.specs.Statement.{EndedAs, RanAs, RunsTo, Known, Runnable}
use Rattle.run.specs.Call.{Answers, RunAnswers, tests, Tested, Startable, finished, Completable, CompletesTo}
use Rattle.run.specs.Laws.Statements.{bounded, still_fine}
use Rattle.run.specs.Laws.Completed.{record_long}

-- ---- what the tests give

pub record Passed (bytes : List ℕ) (inputs : List ℤ) (limit : ℤ) (p : Program) : Type 0 where
  pub checked : check bytes ≡ accepted p
  pub fits : fit p.types inputs ≡ true
  pub limited : between (pos 1) most_steps limit ≡ true

passing : (bytes : List ℕ) (inputs : List ℤ) (limit : ℤ) → Holds (Passed bytes inputs limit) (tests bytes inputs limit)
unfolding tests
passing bytes inputs limit =
    holds_bind (check bytes) _ (holds_if (check bytes) (λ p e. e)) λ p e.
    holds_need (fit p.types inputs) store_wrong _ λ f.
    holds_need (between (pos 1) most_steps limit) limit_wrong _ λ g.
    value (record { checked = e; fits = f; limited = g })

pub table_of : {bytes : List ℕ} {inputs : List ℤ} {limit : ℕ} → Startable bytes inputs limit → AcceptedTable bytes
table_of {bytes} {inputs} {limit} h =
    (h.program, (holds_of (subst (Holds (Passed bytes inputs (pos limit))) h.passed (passing bytes inputs (pos limit)))).checked)

module _ (script : Script) {inputs : List ℤ} {limit : ℕ} (h : Startable script.checked.table.now inputs limit) where
  abbrev bytes : List ℕ
  bytes = script.checked.table.now

  abbrev p : Program
  p = h.program

  abbrev v : ℕ
  v = length inputs

  pub passed : Passed bytes inputs (pos limit) p
  passed = holds_of (subst (Holds (Passed bytes inputs (pos limit))) h.passed (passing bytes inputs (pos limit)))

  types : length p.types ≡ v
  types = sym (fit_long p.types inputs passed.fits)

  pub few : v ≤ 32
  few = omega (arith, types, ap length (through bytes p passed.checked).types, types_long bytes p passed.checked, (sized bytes p passed.checked).few)

  pub most_low : limit ≤ 1_000_000
  most_low = (in_limits_lem (pos limit) passed.limited).2

  run_is : finish_run bytes inputs (pos limit) ≡ (run p.root limit (padded inputs) >>= λ d. accepted (finished v inputs limit d))
  unfolding finish_run
  run_is = rw (passed.checked, passed.fits, passed.limited, types) refl

  -- ---- the root's run

  module _ (root : ℕ) (rooted : root + 1 ≡ nodes bytes) {values : List ℤ} (stored : values ≡ padded inputs) where
    root_here : part_at bytes root ≡ some (statement p.root)
    root_here = let last : root ≡ nodes bytes - 1 = omega arith in ap (part_at bytes) last ∙ root_at bytes p passed.checked

    root_known : Known script root values
    unfolding most_variables
    root_known = record {
      tree = p.root;
      here = root_here;
      small = root_small bytes p passed.checked;
      fine = subst (Fine (types_of bytes)) (sym stored)
          (subst (λ ts. Fine ts (padded inputs)) (through bytes p passed.checked).types (padded_fine p.types inputs (omega (arith, types, few)) passed.fits));
    }

    pub root_runnable : Runnable script root values limit (3 + 2 * v)
    root_runnable =
        let near : 3 + 2 * v + weight * limit ≤ farthest = omega (arith, few, most_low) in
        record { known = root_known; near = near }

    module _ {a : Result Ran Refusal} {out one : List ℤ} (ran_to : RunsTo script root values limit a out (3 + 2 * v) one) where
      root_ran : RanAs (run p.root limit (padded inputs)) a out limit (3 + 2 * v) one
      root_ran = subst (λ (vs : List ℤ). RanAs (run p.root limit vs) a out limit (3 + 2 * v) one) stored (ran_to p.root root_here)

      pub root_refused : {q : Refusal} → a ≡ Err q → (room : ℕ) (after : List ℤ) → RunAnswers bytes inputs (pos limit) room (Err q) after
      root_refused e room after = let w = refuses root_ran e in rw (run_is, w.comes) (neither w.is)

      module _ {ran : Ran} (answered : a ≡ Ok ran) (same : length one ≡ length out) where
        abbrev got : Accepts (EndedAs out limit (3 + 2 * v) one) (run p.root limit (padded inputs)) ran
        got = accepts root_ran answered

        abbrev d : Done
        d = got.value

        came : run p.root limit values ≡ accepted d
        came = ap (run p.root limit) stored ∙ got.comes

        store_long : length d.store ≡ 32
        unfolding most_variables root_known
        store_long = (still_fine root_known limit d came).long

        place : ran.at ≤ farthest
        unfolding root_known
        place = omega (arith, few, most_low, got.holds.ends, got.holds.leaves, bounded root_known limit d came)

        words_long : length (finished v inputs limit d).words ≡ ran.at
        words_long = omega (arith, record_long limit d.steps inputs (take v d.store) d.words, length-take-le v d.store (omega (arith, few, store_long)), got.holds.ends)

        ends_as : {b : Bool} → leb (length (finished v inputs limit d).words) (length out) ≡ b
            → (finish_run bytes inputs (pos limit) >>= within (length out)) ≡ (need b room_short >>= λ u. accepted (finished v inputs limit d))
        unfolding within
        ends_as {b} g = rw (run_is, got.comes, g) refl

        pub room_refused : length one < ran.at → (after : List ℤ) → RunAnswers bytes inputs (pos limit) (length out) (Err Room) after
        room_refused g after =
            rw (ends_as (lt-leb (length (finished v inputs limit d).words) (length out) (omega (arith, words_long, same)))) (neither refl)

        pub root_completable : ran.at ≤ length one → Completable inputs limit ran one
        root_completable g =
            let long : length ran.store.values ≡ 32 = ap length got.holds.stores ∙ store_long in
            let least : ran.left ≤ limit = omega (arith, got.holds.leaves) in
            let behind : 3 + 2 * v ≤ ran.at = omega (arith, got.holds.ends) in
            record { few = few; long = long; low = most_low; least = least; near = place; behind = behind; room = g }

        pub root_answer : ran.at ≤ length one → (r : Answer) (after : List ℤ) → CompletesTo inputs limit ran one r after
            → RunAnswers bytes inputs (pos limit) (length out) (Ok r) after
        root_answer g r after c =
            rw (ends_as (le-leb (length (finished v inputs limit d).words) (length out) (omega (arith, words_long, same))))
            (both (subst (λ (n : ℕ). Answers n (accepted (finished v inputs limit d)) r after) same (c d out got.holds)))

-- ---- the call

module _ (bytes : List ℕ) (inputs : List ℤ) (limit : ℤ) where
  finish_by : finish_run bytes inputs limit
      ≡ (tests bytes inputs limit >>= λ p. run p.root (nat_abs limit) (padded inputs) >>= λ d. accepted (finished (length p.types) inputs (nat_abs limit) d))
  unfolding finish_run tests
  finish_by = along (check bytes)
    where
      along : (m : Paper.Outcome Program)
          → (m >>= λ p. need (fit p.types inputs) store_wrong >>= λ u. need (between (pos 1) most_steps limit) limit_wrong >>= λ u₂. run p.root (nat_abs limit) (padded inputs) >>= λ d. accepted (finished (length p.types) inputs (nat_abs limit) d))
          ≡ ((m >>= λ p. need (fit p.types inputs) store_wrong >>= λ u. need (between (pos 1) most_steps limit) limit_wrong >>= λ u₂. accepted p) >>= λ p. run p.root (nat_abs limit) (padded inputs) >>= λ d. accepted (finished (length p.types) inputs (nat_abs limit) d))
      along (refused r) = refl
      along (accepted p) = over (fit p.types inputs) (between (pos 1) most_steps limit)
        where
          over : (f l : Bool) → (need f store_wrong >>= λ u. need l limit_wrong >>= λ u₂. run p.root (nat_abs limit) (padded inputs) >>= λ d. accepted (finished (length p.types) inputs (nat_abs limit) d))
              ≡ ((need f store_wrong >>= λ u. need l limit_wrong >>= λ u₂. accepted p) >>= λ p. run p.root (nat_abs limit) (padded inputs) >>= λ d. accepted (finished (length p.types) inputs (nat_abs limit) d))
          over false l = refl
          over true false = refl
          over true true = refl

  -- a refused test is the call's refusal
  pub tests_refused : {a : Result ℕ Refusal} {q : Refusal} → Tested bytes inputs limit a → a ≡ Err q → (room : ℕ) (after : List ℤ)
      → RunAnswers bytes inputs limit room (Err q) after
  tests_refused h e room after = let w = refuses h e in rw (finish_by, w.comes) (neither w.is)

  -- and a limit that has passed them is a count
  module _ {a : Result ℕ Refusal} {most : ℕ} (h : Tested bytes inputs limit a) (e : a ≡ Ok most) where
    abbrev counted : Accepts (λ (p : Program) (n : ℕ). n ≡ nat_abs limit) (tests bytes inputs limit) most
    counted = accepts h e

    pub limit_is : pos most ≡ limit
    limit_is =
        let passed : Passed bytes inputs limit counted.value = holds_of (subst (Holds (Passed bytes inputs limit)) counted.comes (passing bytes inputs limit)) in
        ap pos counted.holds ∙ sym (in_limits_lem limit passed.limited).0

    pub startable : Startable bytes inputs most
    startable = record { program = counted.value; passed = ap (tests bytes inputs) limit_is ∙ counted.comes }

-- the answer of a call is the run's, or says why it is refused; the limit was handed on as a word
module _ (bytes : List ℕ) (inputs : List ℤ) {limit : ℤ} (fits : SFits w64 limit) (room : ℕ) {a : Result Answer Refusal} {after : List ℤ}
    (h : RunAnswers bytes inputs (to_z w64 (of_z w64 limit)) room a after) where
  ended : RunAnswers bytes inputs limit room a after
  ended = subst (λ (z : ℤ). RunAnswers bytes inputs z room a after) (to_z-of_z w64 limit fits) h

  whole : (m : Paper.Outcome Finished) → (finish_run bytes inputs limit >>= within room) ≡ m → (r : Answer) {final : List ℤ} → Answers room m r final
      → length final ≡ room → IsRun bytes inputs limit (answer_of r) final
  unfolding call_run
  whole m e r w same = record {
    answers = rw (same, e) w.0;
    leaves = rw (same, e) w.1;
  }

  pub call_answer : {r : Answer} → a ≡ Ok r → length after ≡ room → IsRun bytes inputs limit (answer_of r) after
  call_answer {r} e same =
      let got : Accepts (λ (f : Finished) (b : Answer). Answers room (accepted f) b after) (finish_run bytes inputs limit >>= within room) r = accepts ended e in
      whole (accepted got.value) got.comes r got.holds same

  pub call_refused : {q : Refusal} → a ≡ Err q → (r : Answer) (final : List ℤ) → Answers room (refused (reason_of q)) r final → length final ≡ room
      → IsRun bytes inputs limit (answer_of r) final
  call_refused {q} e r final w same =
      let got = refuses ended e in
      let is : reason_of q ≡ got.reason = ap reason_of got.is ∙ reason_back got.reason in
      whole (refused (reason_of q)) (got.comes ∙ ap {B = Paper.Outcome Finished} refused (sym is)) r w same
