-- What the contracts of entries say, by the definitions of `meet` and of the skip rule; and what is known of a walk wherever it stands.
-- Assumes nothing.
use Rattle.std.specs.Prelude.{◌≡◌, Bool, true, List, [], ℕ, ◌+◌, ◌-◌, ◌*◌, ◌≤◌, eqb, length, ℤ, Result, IfErr}
use Rattle.numbers.specs.Lay.{lay}
use Rattle.rules.specs.Outcome.{choose}
use Rattle.rules.specs.Outcome as Paper
use Rattle.rules.specs.Patch.{Entry, Visited, Walked, steps_of, skipped}
use Rattle.rules.proofs.Laws.Size.{weight}
use Rattle.table.specs.Agrees.{Agrees}
use Rattle.table.specs.declared.answer.Refusal.{Refusal}
use Rattle.run.specs.Code.{farthest}
use Rattle.pieces.specs.Change.{AllNear}
use Rattle.pieces.specs.Old.{part, Inside}
use Rattle.pieces.specs.declared.entry.Met.{Met}
use Rattle.pieces.specs.declared.entry.Reached.{Reached}

-- ---- an entry met

-- an entry that is a last part stops at the end
abbrev pub ends_at : Bool → ℕ → ℕ → Bool
ends_at last stop end = choose last (eqb stop end) true

pub record MetAt (old : List ℤ) (from end : ℕ) (e : Entry) (r : Met) : Type 0 where
  pub steps : r.steps ≡ e.steps
  pub opens : from + 3 ≤ r.stop
  pub inside : r.stop ≤ end
  pub words : e.words ≡ part old from r.stop
  pub parts : e.parts ≡ part old (from + 3) r.stop
  pub behind : e.behind ≡ part old r.stop end
  pub some : 1 ≤ e.steps
  pub most : e.steps ≤ 1_000_000

-- an entry is refused as a broken one alone
abbrev pub MetAs : Paper.Outcome Entry → Result Met Refusal → List ℤ → ℕ → ℕ → Type 0
MetAs m r old from end = Agrees (MetAt old from end) m r × IfErr r (λ q. q ≡ Refusal.Broken)

-- ---- where a walk stands

-- the changes are near; what it may still lay down ends before the farthest place, with room for one more expression's
-- record; and its steps are few.
-- Words of the old record that are copied or patched move both places alike; only fresh steps move the new one alone.
pub record Sound (old : List ℤ) (end : ℕ) (s : Reached) : Type 0 where
  pub long : length s.changes.values ≡ 32
  pub near : AllNear s.changes.values
  pub inside : Inside old s.from end
  pub place : s.at + weight * s.left + length old + 60_000_000 ≤ farthest + s.from
  pub few : s.walked + s.reused + s.left ≤ 1_000_000

-- the walk has come from s to the end of a visit: `out` was the buffer before
pub record Came (v : Visited) (s r : Reached) (old : List ℤ) (end : ℕ) (out after : List ℤ) : Type 0 where
  pub sound : Sound old end r
  pub changes : r.changes.values ≡ v.changes
  pub leaves : r.left + steps_of v.counts ≡ s.left
  pub walks : r.walked ≡ s.walked + v.counts.walked
  pub reuses : r.reused ≡ s.reused + v.counts.reused
  pub rest : v.rest ≡ part old r.from end
  pub onward : s.from ≤ r.from
  pub ends : r.at ≡ s.at + length v.words
  pub lays : after ≡ lay out s.at v.words

abbrev pub VisitAs : Paper.Outcome Visited → Reached → Result Reached Refusal → List ℤ → ℕ → List ℤ → List ℤ → Type 0
VisitAs m s r old end out after = Agrees (λ v to. Came v s to old end out after) m r

-- a walk through parts leaves nothing of the entry
abbrev pub whole : Walked → Visited
whole w = record { changes = w.changes; counts = w.counts; words = w.words; rest = [] }

abbrev pub WalkAs : Paper.Outcome Walked → Reached → Result Reached Refusal → List ℤ → ℕ → List ℤ → List ℤ → Type 0
WalkAs m s r old end out after = Agrees (λ w to. Came (whole w) s to old end out after) m r

-- ---- an entry skipped

-- the words from the place up to the stop, and the place in the buffer, are inside what is counted
pub record Copied (old : List ℤ) (from stop at : ℕ) : Type 0 where
  pub inside : Inside old from stop
  pub place : at + (stop - from) ≤ farthest

abbrev pub SkipsTo : List ℤ → ℕ → ℕ → Reached → Result Reached Refusal → List ℤ → List ℤ → Type 0
SkipsTo old stop steps s r out after = (end : ℕ) (e : Entry) → Inside old stop end → e.steps ≡ steps → e.words ≡ part old
    s.from stop → e.behind ≡ part old stop end
    → VisitAs (skipped e s.left s.changes.values) s r old end out after

-- ---- a walk moved on

pub record Steppable (s : Reached) : Type 0 where
  pub some : 1 ≤ s.left
  pub most : s.walked ≤ 1_000_000
  pub from : s.from + 3 ≤ farthest
  pub at : s.at + 3 ≤ farthest

-- one step further, behind the three opening words
pub record Stepped (s r : Reached) : Type 0 where
  pub changes : r.changes ≡ s.changes
  pub left : r.left + 1 ≡ s.left
  pub walked : r.walked ≡ s.walked + 1
  pub reused : r.reused ≡ s.reused
  pub from : r.from ≡ s.from + 3
  pub at : r.at ≡ s.at + 3

-- so many words further, in both records
pub record AdvancedBy (count : ℕ) (s r : Reached) : Type 0 where
  pub changes : r.changes ≡ s.changes
  pub left : r.left ≡ s.left
  pub walked : r.walked ≡ s.walked
  pub reused : r.reused ≡ s.reused
  pub from : r.from ≡ s.from + count
  pub at : r.at ≡ s.at + count
