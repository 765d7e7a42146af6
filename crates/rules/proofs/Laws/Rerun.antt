-- From the record of an accepted run, a patch with a legal list of changes comes to the end that a run on the changed inputs comes
-- to: `patch_follows`. What an accepted run leaves is such a record, and so is what an accepted patch of one leaves.
-- Assumes nothing.
use Rattle.std.specs.Prelude.{◌≡◌, refl, ℕ, ◌≤◌, length, take, ℤ, pos, nat_abs}
use Rattle.std.proofs.Common.{sym, ap, ◌∙◌, subst, arith, le-leb}
use Rattle.std.proofs.Math.Bool.{true}
use mathlib.Core.List.{List, [], ◌++◌, append-nil}
use Rattle.numbers.specs.Signed.{between}
use Rattle.numbers.specs.Laws.{and_both}
use Rattle.rules.specs.Outcome.{Outcome, accepted, store_wrong, limit_wrong, change_wrong}
use Rattle.rules.specs.Value.{Ty, most_variables, zeros, padded, fit, plus_all}
use Rattle.rules.specs.Tree.{mentions}
use Rattle.rules.specs.Table.{Program, check}
use Rattle.rules.specs.Run.{Done, most_steps, run, record_of}
use Rattle.rules.specs.Patch.{Counts, steps_of, all_fresh, ends, visit, walk}
use Rattle.rules.specs.Call.{Finished, finish_run, header, legal, finish_patch}
use Rattle.rules.proofs.Laws.Outcome.{Holds, value, vacant, holds_bind, holds_need, holds_of, holds_if, holds_const, Alike, values, refusals, alike_bind, alike_with}
use Rattle.rules.proofs.Laws.Store.{Good, difference, length_difference}
use Rattle.rules.proofs.Laws.Typed.{Kept, run_keeps}
use Rattle.rules.proofs.Laws.Entry.{Fine, Step, Visits, steps_within, steps_some}
use Rattle.rules.proofs.Laws.Walk.{entry_follows}
use Rattle.rules.proofs.Laws.Table.{Sound, check_sound}
use Rattle.rules.proofs.Laws.Call.{plus_padded, take_padded, padded_fine, good_fit, legal_fit, legal_difference, outputs_moved, header_back, in_limits_lem, Names, header_names}

-- these are the words that an accepted run of the table left
pub record Made (bytes : List ℕ) (words : List ℤ) : Type 0 where
  pub program : Program
  pub checked : check bytes ≡ accepted program
  pub inputs : List ℤ
  pub fits : fit program.types inputs ≡ true
  pub limit : ℕ
  pub some : 1 ≤ limit
  pub most : limit ≤ 1_000_000
  pub end : Done
  pub ran : run program.root limit (padded inputs) ≡ accepted end
  pub is : words ≡ record_of limit end.steps inputs (take (length program.types) end.store) end.words

-- the end g of a patch is that of the rerun, f; `outputs` are the old ones
pub record Again (types : List Ty) (outputs : List ℤ) (f g : Finished) : Type 0 where
  pub words : g.words ≡ f.words
  pub values : g.values ≡ f.values
  pub steps : steps_of g.counts ≡ steps_of f.counts
  pub moved : plus_all types outputs g.changes ≡ take (length types) f.values

fresh_steps : (n : ℕ) → steps_of (all_fresh n) ≡ n
unfolding steps_of all_fresh
fresh_steps n = omega arith

module _ (bytes : List ℕ) (words : List ℤ) (made : Made bytes words) where
  open made use {program, checked, inputs, fits, limit, some, most, end, ran, is}
  open program use {types, root}

  -- the old outputs
  abbrev outputs : List ℤ
  outputs = take (length types) end.store

  sound : Sound program
  sound = holds_of (subst (Holds Sound) checked (check_sound bytes))

  fine : Fine types (padded inputs)
  fine = padded_fine types inputs sound.few fits

  keeps : (store : List ℤ) → Good types store → Holds (λ d. Kept types (mentions root) store d.store) (run root limit store)
  keeps store good = run_keeps types (mentions root) root sound.typed (λ v m. m) limit store good

  kept : Kept types (mentions root) (padded inputs) end.store
  kept = holds_of (rw ran at (keeps (padded inputs) fine.good))

  -- a store that was kept has room for the table's variables
  room : (store finish : List ℤ) → Fine types store → Kept types (mentions root) store finish → length types ≤ length finish
  room store finish f k = subst (λ n. length types ≤ n) (sym (k.long ∙ f.long)) sound.few

  -- the old record's header, whatever stands behind the record
  opened : (behind : List ℤ) → header types (words ++ behind)
      ≡ accepted (record { limit = limit; inputs = inputs; outputs = outputs; root = end.words })
  opened behind =
      ap (λ (ws : List ℤ). header types (ws ++ behind)) is
      ∙ header_back types inputs outputs end.words behind fits
      (good_fit types end.store kept.good (room (padded inputs) end.store fine kept)) limit end.steps some most
      (steps_some root limit (padded inputs) end ran) (steps_within root limit (padded inputs) end ran)

  -- the limit, inputs and outputs are those that the record names
  pub named : Names types words (record { limit = limit; inputs = inputs; outputs = outputs; root = end.words })
  named = holds_of (subst (Holds (Names types words)) (ap (header types) (sym (append-nil words)) ∙ opened []) (header_names types words))

  in_limit : between (pos 1) most_steps (pos limit) ≡ true
  unfolding between most_steps
  in_limit = and_both (le-leb 1 limit some) (le-leb limit 1_000_000 most)

  -- the run that left the record, as a whole
  pub finished : finish_run bytes inputs (pos limit) ≡ accepted (record {
    counts = all_fresh end.steps;
    words = record_of limit end.steps inputs outputs end.words;
    values = padded outputs;
    changes = zeros most_variables;
  })
  unfolding finish_run
  finished = rw (checked, fits, in_limit, ran)

  module _ (changes : List ℤ) (h : legal types inputs changes ≡ true) where
    fine' : Fine types (padded (plus_all types inputs changes))
    fine' = padded_fine types (plus_all types inputs changes) sound.few (legal_fit types inputs changes h)

    visits : Alike (Step types end []) (run root limit (padded (plus_all types inputs changes)))
        (visit root (walk types root) true limit (difference types (padded (plus_all types inputs changes)) (padded inputs)) end.words)
    unfolding Visits ends
    visits = rw append-nil at
        (holds_of (rw ran at (entry_follows types root sound.typed limit most (padded inputs) fine))
        (padded (plus_all types inputs changes)) fine' true [] limit refl)

    -- the end of the new run beside that of the old
    module _ (e : Done) (k : Kept types (mentions root) (padded (plus_all types inputs changes)) e.store) where
      long : length e.store ≡ length end.store
      long = k.long ∙ fine'.long ∙ sym fine.long ∙ sym kept.long

      has_room : length types ≤ length end.store
      has_room = room (padded inputs) end.store fine kept

      has_room' : length types ≤ length e.store
      has_room' = room (padded (plus_all types inputs changes)) e.store fine' k

      outputs_are : plus_all types outputs (difference types e.store end.store) ≡ take (length types) e.store
      outputs_are = outputs_moved types end.store e.store long has_room kept.good k.good

      outputs_fit : fit types (take (length types) e.store) ≡ true
      outputs_fit = good_fit types e.store k.good has_room'

      reported : plus_all types outputs (padded (take (length types) (difference types e.store end.store)))
          ≡ take (length types) (padded (take (length types) e.store))
      reported =
          plus_padded types outputs (difference types e.store end.store)
          (subst (λ n. length types ≤ n) (sym (length_difference types e.store end.store long)) has_room')
          ∙ outputs_are ∙ sym (take_padded (length types) e.store has_room')

    again : (e : Done) → Kept types (mentions root) (padded (plus_all types inputs changes)) e.store → (c : Counts) → steps_of c ≡ e.steps
        → Again types outputs
        (record {
          counts = all_fresh e.steps;
          words = record_of limit e.steps (plus_all types inputs changes) (take (length types) e.store) e.words;
          values = padded (take (length types) e.store);
          changes = zeros most_variables;
        })
        (record {
          counts = c;
          words = record_of limit (steps_of c) (plus_all types inputs changes) (take (length types) e.store) e.words;
          values = padded (take (length types) e.store);
          changes = padded (take (length types) (difference types e.store end.store));
        })
    again e k c total = record {
      words = ap (λ n. record_of limit n (plus_all types inputs changes) (take (length types) e.store) e.words) total;
      values = refl;
      steps = total ∙ sym (fresh_steps e.steps);
      moved = reported e k;
    }

    pub patch_follows : (behind : List ℤ)
        → Alike (Again types outputs) (finish_run bytes (plus_all types inputs changes) (pos limit)) (finish_patch bytes (words ++ behind) changes)
    unfolding finish_run finish_patch
    patch_follows behind =
        rw (checked, legal_fit types inputs changes h, opened behind, h, in_limit, legal_difference types inputs changes sound.few h fits)
        (alike_bind (run root limit (padded (plus_all types inputs changes)))
        (visit root (walk types root) true limit (difference types (padded (plus_all types inputs changes)) (padded inputs)) end.words) _ _
        (alike_with (keeps (padded (plus_all types inputs changes)) fine'.good) visits) λ e v p.
        rw (p.1.closed, outputs_are e p.0, outputs_fit e p.0) (values (again e p.0 p.1.counts p.1.total)))

  -- a patch that accepts had a legal list
  pub patch_legal : (behind changes : List ℤ) → Holds (λ g. legal types inputs changes ≡ true) (finish_patch bytes (words ++ behind) changes)
  unfolding finish_patch
  patch_legal behind changes = rw (checked, opened behind) (holds_need (legal types inputs changes) change_wrong _ λ e. holds_const _ e)

-- ---- what accepted calls leave

-- an accepted run leaves the record of a run
pub run_made : (bytes : List ℕ) (inputs : List ℤ) (limit : ℤ) → Holds (λ f. Made bytes f.words) (finish_run bytes inputs limit)
unfolding finish_run
run_made bytes inputs limit =
    holds_bind (check bytes) _ (holds_if (check bytes) (λ p e. e)) λ p checked.
    holds_need (fit p.types inputs) store_wrong _ λ fits.
    holds_need (between (pos 1) most_steps limit) limit_wrong _ λ within.
    holds_bind (run p.root (nat_abs limit) (padded inputs)) _ (holds_if (run p.root (nat_abs limit) (padded inputs)) (λ d e. e)) λ d ran.
    value (record {
      program = p;
      checked = checked;
      inputs = inputs;
      fits = fits;
      limit = nat_abs limit;
      some = (in_limits_lem limit within).1;
      most = (in_limits_lem limit within).2;
      end = d;
      ran = ran;
      is = refl;
    })

same_words : {types : List Ty} {outputs : List ℤ} {bytes : List ℕ} {m n : Outcome Finished}
    → Alike (Again types outputs) m n → Holds (λ f. Made bytes f.words) m → Holds (λ g. Made bytes g.words) n
same_words {bytes} (values a) (value made) = value (subst (Made bytes) (sym a.words) made)
same_words refusals vacant = vacant

-- and so does an accepted patch of one
pub patch_made : (bytes : List ℕ) (words : List ℤ) → Made bytes words → (behind changes : List ℤ)
    → Holds (λ g. Made bytes g.words) (finish_patch bytes (words ++ behind) changes)
patch_made bytes words made behind changes = holds_if (finish_patch bytes (words ++ behind) changes) λ g e.
    let list : legal made.program.types made.inputs changes ≡ true = holds_of (rw e at (patch_legal bytes words made behind changes)) in
    holds_of (rw e at (same_words (patch_follows bytes words made changes list behind)
    (run_made bytes (plus_all made.program.types made.inputs changes) (pos made.limit))))
