-- Demand 2 for the run: it answers as the published rules say (Figure 2 of document 001, `rules/specs/Published.antt`).
-- An accepted run has a derivation with its outputs and steps, within the limit; a derivation within the limit is an accepted run
-- wherever the record fits the room; and a run refused with 8 or 9 has none.
-- The proof: runs and derivations of statements are the same (`run_derived`, `derived_run`), and the whole call adds the tests.
-- Assumes nothing.
use Rattle.std.specs.Prelude.{◌≡◌, ◌⊎◌, ℕ, ◌≤◌, ◌<◌, true, List, take, ℤ, pos, nat_abs}
use Rattle.std.proofs.Math.Path.{refl}
use Rattle.std.proofs.Common.{sym, ◌∙◌, subst, inl, inr, arith}
use Rattle.std.proofs.Math.ListN.{length}
use borrow.Author.Tests.{le-leb, lt-leb}
use Rattle.numbers.specs.Signed.{between}
use Rattle.rules.specs.Outcome.{paper_number, accepted, store_wrong, limit_wrong}
use Rattle.rules.specs.Value.{most_variables, zeros, padded, fit}
use Rattle.rules.specs.Table.{Program, check}
use Rattle.rules.specs.Run.{most_steps, run, record_of}
use Rattle.rules.specs.Published.{Executes}
use Rattle.rules.specs.Patch.{steps_of, all_fresh}
use Rattle.rules.specs.Call.{Called, Finished, within, answered, finish_run, call_run}
use Rattle.rules.proofs.Laws.Outcome.{Holds, value, holds_bind, holds_need, holds_of, holds_if, holds_both}
use Rattle.rules.proofs.Laws.Answer.{Accepted, accepted_end}
use Rattle.rules.specs.Tree.{mentions}
use Rattle.rules.proofs.Laws.Typed.{Kept, run_keeps}
use Rattle.rules.proofs.Laws.Entry.{Fine, steps_within}
use Rattle.rules.proofs.Laws.Table.{Sound, check_sound}
use Rattle.rules.proofs.Laws.Call.{take_padded, padded_fine}
use Rattle.rules.proofs.Laws.Run.{split}
use Rattle.rules.proofs.Laws.Published.{run_derived, Ran, derived_run}

-- a derivation of the published rules for a program: from these inputs to these outputs, with so many statements, within the limit
pub record Derived (p : Program) (inputs : List ℤ) (limit : ℤ) (outputs : List ℤ) (steps : ℕ) : Type 0 where
  pub store : List ℤ
  pub derivation : Executes (padded inputs) p.root store steps
  pub ends : take (length p.types) store ≡ outputs
  pub within : steps ≤ nat_abs limit

-- ---- the proof

-- the steps of a run are all fresh
fresh : (n : ℕ) → steps_of (all_fresh n) ≡ n
unfolding steps_of all_fresh
fresh n = omega arith

-- an end before the room is tested, as a derivation
abbrev Ends : Program → List ℤ → ℤ → Finished → Type 0
Ends p inputs limit f = Derived p inputs limit (take (length p.types) f.values) (steps_of f.counts)

finish_derived : (bytes : List ℕ) (p : Program) → check bytes ≡ accepted p → (inputs : List ℤ) (limit : ℤ)
    → Holds (Ends p inputs limit) (finish_run bytes inputs limit)
unfolding finish_run
finish_derived bytes p checked inputs limit =
    let sound : Sound p = holds_of (subst (Holds Sound) checked (check_sound bytes)) in
    rw checked
    (holds_need (fit p.types inputs) store_wrong _ λ fits. holds_need (between (pos 1) most_steps limit) limit_wrong _ λ lim.
    let fine : Fine p.types (padded inputs) = padded_fine p.types inputs sound.few fits in
    holds_bind (run p.root (nat_abs limit) (padded inputs)) _
    (holds_both (holds_if (run p.root (nat_abs limit) (padded inputs)) (λ d e. e))
    (holds_both (run_derived p.types p.root sound.typed (nat_abs limit) (padded inputs) fine.good)
    (run_keeps p.types (mentions p.root) p.root sound.typed (λ v m. m) (nat_abs limit) (padded inputs) fine.good))) λ d q.
    let room : length p.types ≤ length d.store = subst (λ n. length p.types ≤ n) (sym (q.1.1.long ∙ fine.long)) sound.few in
    value (record {
      store = d.store;
      derivation = subst (Executes (padded inputs) p.root d.store) (sym (fresh d.steps)) q.1.0;
      ends = sym (take_padded (length p.types) d.store room);
      within = subst (λ n. n ≤ nat_abs limit) (sym (fresh d.steps)) (steps_within p.root (nat_abs limit) (padded inputs) d q.0);
    }))

-- ---- the promises

-- An accepted run is a derivation of the rules, with the outputs and steps that it reports.
-- Given by: the table is accepted.
pub accepted_run_is_derived : (bytes : List ℕ) (p : Program) → check bytes ≡ accepted p
    → (inputs : List ℤ) (limit : ℤ) (room : ℕ) → Accepted (call_run bytes inputs limit room)
    → Derived p inputs limit (take (length p.types) (call_run bytes inputs limit room).answer.values) (call_run bytes inputs limit room).answer.steps
unfolding call_run answered
accepted_run_is_derived bytes p checked inputs limit room a =
    let e = accepted_end room (finish_run bytes inputs limit) a in
    rw e.whole (holds_of (subst (Holds (Ends p inputs limit)) e.comes (finish_derived bytes p checked inputs limit)))

-- a run that accepts with these outputs and steps
pub record Accepts (p : Program) (outputs : List ℤ) (steps : ℕ) (c : Called) : Type 0 where
  pub accepts : Accepted c
  pub gives : take (length p.types) c.answer.values ≡ outputs
  pub takes : c.answer.steps ≡ steps

-- in a room of at least `size` words it does, in a smaller one it is refused with 10
pub record Found (bytes : List ℕ) (p : Program) (inputs : List ℤ) (limit : ℤ) (outputs : List ℤ) (steps : ℕ) : Type 0 where
  pub size : ℕ
  pub fits : (room : ℕ) → size ≤ room → Accepts p outputs steps (call_run bytes inputs limit room)
  pub short : (room : ℕ) → room < size → (call_run bytes inputs limit room).answer.number ≡ 10

module _ (bytes : List ℕ) (p : Program) (checked : check bytes ≡ accepted p) (inputs : List ℤ) (inputs_fit : fit p.types inputs ≡ true)
    (limit : ℤ) (in_range : between (pos 1) most_steps limit ≡ true) {outputs : List ℤ} {steps : ℕ} (d : Derived p inputs limit outputs steps) where
  sound : Sound p
  sound = holds_of (subst (Holds Sound) checked (check_sound bytes))

  found : Ran (run p.root (nat_abs limit) (padded inputs)) d.store steps
  found = derived_run p.root (padded inputs) d.store steps d.derivation (nat_abs limit) d.within

  end : Finished
  end = record {
    counts = all_fresh steps;
    words = record_of (nat_abs limit) steps inputs (take (length p.types) d.store) found.0;
    values = padded (take (length p.types) d.store);
    changes = zeros most_variables;
  }

  finishes : finish_run bytes inputs limit ≡ accepted end
  unfolding finish_run end
  finishes = rw (checked, inputs_fit, in_range, found.1) refl

  room_enough : length p.types ≤ length d.store
  room_enough =
      let fine : Fine p.types (padded inputs) = padded_fine p.types inputs sound.few inputs_fit in
      let k : Kept p.types (mentions p.root) (padded inputs) d.store = holds_of (rw found.1 at
      (run_keeps p.types (mentions p.root) p.root sound.typed (λ v m. m) (nat_abs limit) (padded inputs) fine.good)) in
      subst (λ n. length p.types ≤ n) (sym (k.long ∙ fine.long)) sound.few

  -- A derivation within the limit is an accepted run, wherever the record fits the room.
  -- Given by: the table is accepted, the inputs are of their types (else 6), the limit is one (else 7).
  pub derived_run_is_accepted : Found bytes p inputs limit outputs steps
  unfolding call_run answered within end paper_number
  derived_run_is_accepted = record {
    size = length end.words;
    fits = λ room le. rw (finishes, le-leb (length end.words) room le)
        (record { accepts = refl; gives = take_padded (length p.types) d.store room_enough ∙ d.ends; takes = fresh steps });
    short = λ room less. rw (finishes, lt-leb (length end.words) room less) refl;
  }

  -- and so a run that is refused with 8 or 9 has no derivation
  pub refused_run_is_underivable : (room : ℕ) → ((call_run bytes inputs limit room).answer.number ≡ 8) ⊎ ((call_run bytes inputs limit room).answer.number ≡ 9)
      → ⊥
  refused_run_is_underivable room h = apart (call_run bytes inputs limit room).answer.number room_decides h
    where
      room_decides : ((call_run bytes inputs limit room).answer.number ≡ 0) ⊎ ((call_run bytes inputs limit room).answer.number ≡ 10)
      room_decides = split derived_run_is_accepted.size room
          (λ le. inl (derived_run_is_accepted.fits room le).accepts) (λ less. inr (derived_run_is_accepted.short room less))

      apart : (n : ℕ) → (n ≡ 0) ⊎ (n ≡ 10) → (n ≡ 8) ⊎ (n ≡ 9) → ⊥
      apart n (inl e) (inl f) = omega arith
      apart n (inl e) (inr f) = omega arith
      apart n (inr e) (inl f) = omega arith
      apart n (inr e) (inr f) = omega arith
