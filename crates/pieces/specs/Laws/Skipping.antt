-- Laws of an entry skipped: what the skip rule leaves.
-- Assumes nothing.
use Rattle.std.specs.Prelude.{◌≡◌, refl, ℕ, ◌+◌, ◌-◌, ◌≤◌, ◌<◌, List, ℤ, Ok, Err}
use Rattle.std.proofs.Common.{sym, ◌∙◌, arith, le-leb}
use Rattle.std.proofs.Math.Path.{ap}
use Rattle.std.proofs.Math.ListN.{length}
use Rattle.std.proofs.lemmas.Bool.{lt-leb}
use Rattle.numbers.specs.Lay.{lay}
use Rattle.rules.specs.Outcome.{accepted, refused, fuel_spent}
use Rattle.rules.specs.Patch.{Entry, Visited, skipped, steps_of, all_reused}
use Rattle.table.specs.Agrees.{agrees_ok, agrees_err}
use Rattle.table.specs.declared.answer.Refusal.TheVariants.{Fuel}
use Rattle.pieces.specs.Old.{part, Inside}
use Rattle.pieces.specs.Laws.Old.{part_long}
use Rattle.pieces.specs.Entry.{Sound, VisitAs, SkipsTo}
use Rattle.pieces.specs.declared.entry.Reached.{Reached}

-- where the walk stands behind an entry of so many steps that it skipped up to the stop
abbrev pub behind_skipped : ℕ → ℕ → Reached → Reached
behind_skipped stop steps s =
    record {
      changes = s.changes;
      left = s.left - steps;
      walked = s.walked;
      reused = s.reused + steps;
      from = stop;
      at = s.at + (stop - s.from);
    }

pub skip_short : (e : Entry) (left : ℕ) (changes : List ℤ) → left < e.steps → skipped e left changes ≡ refused fuel_spent
unfolding skipped
skip_short e left changes less = rw (lt-leb e.steps left less)

-- and the walk is stopped
pub skip_stopped : {old : List ℤ} {stop steps : ℕ} {s : Reached} → s.left < steps → {out after : List ℤ} → SkipsTo old stop steps s (Err Fuel) out after
skip_stopped {old} {stop} {steps} {s} less = λ end e inside same words behind. agrees_err (skip_short e s.left s.changes.values (omega arith)) refl

-- what the skip rule accepts with
abbrev visited : Entry → List ℤ → Visited
visited e changes = record { changes = changes; counts = all_reused e.steps; words = e.words; rest = e.behind }

skip_goes : (e : Entry) (left : ℕ) (changes : List ℤ) → e.steps ≤ left → skipped e left changes ≡ accepted (visited e changes)
unfolding skipped
skip_goes e left changes le = rw (le-leb e.steps left le)

module _ (old : List ℤ) (stop end steps : ℕ) (s : Reached) (sound : Sound old stop s) (inside : Inside old stop end) (fits : steps ≤ s.left) where
  skip_sound : Sound old end (behind_skipped stop steps s)
  skip_sound =
      record {
        long = sound.long;
        near = sound.near;
        inside = inside;
        place = omega (arith, sound.inside.ordered, sound.place);
        few = omega (arith, sound.few);
      }

  -- the entry's words copied
  pub skip_came : (e : Entry) (out : List ℤ) {after : List ℤ} → e.steps ≡ steps → e.words ≡ part old s.from stop → e.behind ≡ part old stop end
      → after ≡ lay out s.at (part old s.from stop)
      → VisitAs (skipped e s.left s.changes.values) s (Ok (behind_skipped stop steps s)) old end out after
  unfolding steps_of all_reused
  skip_came e out same words behind lays =
      let long : length e.words ≡ stop - s.from = ap length words ∙ part_long old s.from stop sound.inside.ends in
      agrees_ok (skip_goes e s.left s.changes.values (omega arith))
      (record {
        sound = skip_sound;
        changes = refl;
        leaves = omega arith;
        walks = omega arith;
        reuses = omega arith;
        rest = behind;
        onward = sound.inside.ordered;
        ends = omega arith;
        lays = lays ∙ ap (lay out s.at) (sym words);
      })
