-- A patch whose walk has come to its end: the new inputs and outputs, and what the outputs and the room make of them.
-- Assumes nothing.
use mathlib.Core.Path.{◌≡◌, refl, sym, ap, ap₂, ◌∙◌, subst}
use Prim.Native.Nat.{ℕ, ◌+◌, ◌-◌, ◌*◌, ◌≤◌, ◌<◌}
use native.Mathlib.Omega.{arith}
use native.Mathlib.Nat.{zero-add}
use mathlib.Core.Bool.{Bool, true, false}
use mathlib.Core.List.{List}
use lib.ListN.{length, take, drop}
use lib.Seq.{take_all}
use lib.Dec.{leb}
use lib.IntN.{ℤ, nat_abs}
use borrow.Author.Tests.{le-leb, lt-leb}
use Rattle.std.specs.Prelude.{Ok, Err}
use Rattle.numbers.specs.Lay.{lay}
use Rattle.rules.specs.Outcome.{accepted, refused, ◌>>=◌, need, room_short, broken}
use Rattle.rules.specs.Outcome as Paper
use Rattle.rules.specs.Value.{Ty, padded, fit, plus_all}
use Rattle.rules.specs.Table.{u16, variables, types_of}
use Rattle.rules.specs.Patch.{Visited, steps_of}
use Rattle.rules.specs.Call.{Finished, Header, limit_of, inputs_of, outputs_of, within, finish_patch}
use Rattle.rules.proofs.Laws.Call.{plus_padded, in_limits_lem}
use Rattle.rules.proofs.Laws.Header.{Sized}
use Rattle.table.specs.Agrees.{agrees_ok, agrees_err}
use Rattle.table.specs.declared.answer.Refusal.TheVariants.{Room, Broken}
use Rattle.table.specs.declared.answer.Answer.{Answer}
use Rattle.table.specs.declared.answer.Store.{Store}
use Rattle.run.specs.Call.{Answers}
use Rattle.run.specs.Code.{farthest}
use Rattle.run.specs.Laws.Completed.{record_long}
use Rattle.run.specs.Laws.Fitting.{count_is}
use Rattle.pieces.specs.declared.entry.Reached.{Reached}
use Rattle.patch.specs.Call.{Sums, Finishable, Completable, CompletesTo, PatchAnswers, root_visit, finished}
use Rattle.patch.proofs.Inputs.{sums_length}
use Rattle.patch.proofs.Headers.{Whole, inputs_are, outputs_are}
use Rattle.patch.proofs.Completing.{padded_front}
use Rattle.patch.proofs.Testing.{ended}
use Rattle.patch.proofs.Rooting.{all_sized, types_are, types_count, whole, limit_is, given_long, changes_long, changes_near, goes_on}

module _ {bytes : List ℕ} {old : List ℤ} {limit : ℕ} {changes : Store} {r : Reached} {out : List ℤ} (h : Finishable bytes old limit changes r out) where
  abbrev given : List ℤ
  given = h.rooted.given

  abbrev w : Visited
  w = h.visited

  abbrev types : List Ty
  types = types_of bytes

  abbrev most : ℕ
  most = nat_abs (limit_of old)

  pub most_is : limit ≡ most
  most_is = h.limits ∙ limit_is h.rooted.start

  pub table_sized : Sized bytes
  table_sized = all_sized h.rooted.start

  pub header_whole : Whole types old h.rooted.start.ready.header
  header_whole = whole h.rooted.start

  many : length types ≡ variables bytes
  many = types_count h.rooted.start

  pub low : most ≤ 1_000_000
  low = (in_limits_lem (limit_of old) header_whole.limited).2

  -- ---- the new inputs and outputs

  abbrev pub ins : List ℤ
  ins = plus_all types (inputs_of types old) given

  abbrev pub outs : List ℤ
  outs = plus_all types (outputs_of types old) w.changes

  pub each_in : length ins ≡ variables bytes
  each_in = sums_length table_sized (inputs_of types old) given header_whole.inputs (omega (arith, given_long h.rooted.start))

  pub each_out : length outs ≡ variables bytes
  each_out = sums_length table_sized (outputs_of types old) w.changes header_whole.outputs
      (omega (arith, table_sized.few, ap length h.came.changes, h.came.sound.long))

  abbrev end : Finished
  end = finished (variables bytes) most ins outs w

  -- what the test of the outputs makes of it
  abbrev judged : Bool → Paper.Outcome Finished
  judged b = need b broken >>= λ u. accepted end

  ends_as : finish_patch bytes old given ≡ judged (fit types outs)
  ends_as =
      goes_on h.rooted.start
      ∙ ap (λ (m : Paper.Outcome Visited). m >>= ended given h.rooted.start.ready.program.types h.rooted.start.ready.header)
      (ap (root_visit h.rooted.start.ready) (sym h.rooted.whole) ∙ h.comes)
      ∙ ap₂ {C = Paper.Outcome Finished} (λ (ts : List Ty) (x : Header). ended given ts x w) (types_are h.rooted.start) header_whole.is
      ∙ ap (λ (n : ℕ). need (fit types outs) broken >>= λ u. accepted (finished n most ins outs w)) many

  words_long : length end.words ≡ r.at
  words_long = omega (arith, record_long most (steps_of w.counts) ins outs w.words, each_in, each_out, h.came.ends)

  pub place : r.at ≤ farthest
  place = omega (arith, h.came.sound.place, h.came.sound.inside.ordered, h.came.sound.inside.ends)

  -- ---- by the count of variables, as the code has read it

  module _ {v : ℕ} (count : v ≡ u16 bytes 4) where
    pub iv : v ≡ variables bytes
    iv = count_is bytes count

    pub v_few : v ≤ 32
    v_few = omega (arith, iv, table_sized.few)

    pub v_room : 3 + 2 * v ≤ length old
    v_room = omega (arith, iv, many, header_whole.room)

    abbrev old_in : List ℤ
    old_in = take (3 + v - 3) (drop 3 old)

    abbrev old_out : List ℤ
    old_out = take (3 + 2 * v - (3 + v)) (drop (3 + v) old)

    pub inputs_summed : Sums bytes old_in changes.values
    inputs_summed = record {
      sized = table_sized;
      fits = ap (fit types) (inputs_are table_sized old iv) ∙ header_whole.inputs;
      long = changes_long h.rooted.start h.rooted.whole;
      near = changes_near h.rooted.start h.rooted.whole;
    }

    pub outputs_summed : Sums bytes old_out r.changes.values
    outputs_summed = record {
      sized = table_sized;
      fits = ap (fit types) (outputs_are table_sized old iv) ∙ header_whole.outputs;
      long = h.came.sound.long;
      near = h.came.sound.near;
    }

    module _ {outputs : Store} (so : outputs.values ≡ padded (plus_all types old_out r.changes.values)) where
      pub outputs_made : outputs.values ≡ padded outs
      outputs_made = so ∙ ap padded (ap₂ {C = List ℤ} (plus_all types) (outputs_are table_sized old iv) h.came.changes)

      module _ {f : Bool} (is : f ≡ fit types (take v outputs.values)) (room : ℕ) (after : List ℤ) where
        -- the outputs that the code tests
        tested : f ≡ fit types outs
        tested = is ∙ ap (fit types) (ap (take v) outputs_made ∙ padded_front v outs (each_out ∙ sym iv))

        pub outputs_refused : f ≡ false → PatchAnswers bytes old given room (Err Broken) after
        outputs_refused e = agrees_err (ap (λ (m : Paper.Outcome Finished). m >>= within room) (ends_as ∙ ap judged (sym tested ∙ e))) refl

        module _ (e : f ≡ true) where
          room_decides : (b : Bool) → leb (length end.words) room ≡ b
              → (finish_patch bytes old given >>= within room) ≡ (need b room_short >>= λ u. accepted end)
          unfolding within
          room_decides b g =
              ap (λ (m : Paper.Outcome Finished). m >>= within room) (ends_as ∙ ap judged (sym tested ∙ e))
              ∙ ap (λ (c : Bool). need c room_short >>= λ u. accepted end) g

          pub room_refused : room < r.at → PatchAnswers bytes old given room (Err Room) after
          room_refused g = agrees_err (room_decides false (lt-leb (length end.words) room (omega (arith, words_long)))) refl

          all_accepted : r.at ≤ room → (a : Answer) → Answers room (accepted end) a after → PatchAnswers bytes old given room (Ok a) after
          all_accepted g a x = agrees_ok (room_decides true (le-leb (length end.words) room (omega (arith, words_long)))) x

      module _ {inputs : Store} (si : inputs.values ≡ padded (plus_all types old_in changes.values)) (g : r.at ≤ length out) where
        pub inputs_made : inputs.values ≡ padded ins
        inputs_made =
            let long = given_long h.rooted.start in
            let front : take (length types) given ≡ given = take_all (length types) given (omega (arith, many, long)) in
            si ∙ ap padded
            (ap₂ {C = List ℤ} (plus_all types) (inputs_are table_sized old iv) (h.rooted.whole ∙ ap padded (sym front))
            ∙ plus_padded types (inputs_of types old) given (omega (arith, many, long)))

        abbrev pub completable : Completable v limit inputs outputs r out
        completable = record {
          few = v_few;
          low = subst (λ (n : ℕ). n ≤ 1_000_000) (sym most_is) low;
          ins = ins;
          outs = outs;
          each_in = each_in ∙ sym iv;
          each_out = each_out ∙ sym iv;
          holds_in = inputs_made;
          holds_out = outputs_made;
          visited = w;
          before = h.before;
          long = h.came.sound.long;
          changes = h.came.changes;
          leaves = h.came.leaves ∙ sym most_is;
          walks = h.came.walks ∙ zero-add w.counts.walked;
          reuses = h.came.reuses ∙ zero-add w.counts.reused;
          ends = h.came.ends ∙ ap (λ (n : ℕ). 3 + 2 * n + length w.words) (sym iv);
          lays = h.came.lays ∙ ap (λ (n : ℕ). lay h.before (3 + 2 * n) w.words) (sym iv);
          near = place;
          room = g;
        }

        pub completed : {f : Bool} → f ≡ fit types (take v outputs.values) → f ≡ true → (a : Answer) (after : List ℤ)
            → CompletesTo v limit inputs outputs r out a after → PatchAnswers bytes old given (length out) (Ok a) after
        completed is e a after c = all_accepted is (length out) after e g a
            (subst (λ (n : ℕ). Answers (length out) (accepted (finished n most ins outs w)) a after) iv
            (subst (λ (l : ℕ). Answers (length out) (accepted (finished v l ins outs w)) a after) most_is (c completable)))
