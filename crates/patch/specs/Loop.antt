-- What the contracts of a repeat say: its head with the count's record, the iterations that stay, and those that come anew or fall away.
-- Assumes nothing.
use Rattle.std.specs.Prelude.{◌≡◌, false, List, [], ◌++◌, ℕ, zero, suc, ◌+◌, ◌-◌, length, ℤ, eqb, Result}
use Rattle.std.proofs.Math.Option.{some}
use Rattle.numbers.specs.Lay.{lay}
use Rattle.rules.specs.Outcome.{accepted, ◌>>=◌, choose}
use Rattle.rules.specs.Outcome as Paper
use Rattle.rules.specs.Value.{Ty}
use Rattle.rules.specs.Tree.{Expression, Statement, repeat, mentions}
use Rattle.rules.specs.Table.{types_of, statement}
use Rattle.rules.specs.Run.{times, run, repeat_words}
use Rattle.rules.specs.Patch.{Visited, Walked, Counts, no_steps, both, steps_of, Turn, moved_all, shrunk, loop, visit, walk}
use Rattle.rules.specs.Patch as Rules
use Rattle.rules.proofs.Laws.Mentions.{◌⊆◌}
use Rattle.rules.proofs.Laws.Parts.{part_at}
use Rattle.table.specs.Agrees.{Agrees}
use Rattle.table.specs.Lists.{list_at}
use Rattle.table.specs.declared.answer.Refusal.{Refusal}
use Rattle.table.specs.declared.script.Script.{Script}
use Rattle.pieces.specs.Old.{part}
use Rattle.pieces.specs.Snapshot.{olds, Named, Standing, Patched, patched}
use Rattle.pieces.specs.Expression.{operand_of}
use Rattle.pieces.specs.Entry.{Sound, Came, WalkAs, AdvancedBy}
use Rattle.pieces.specs.declared.entry.Reached.{Reached}
use Rattle.patch.specs.Statement.{listed, Node, Enterable}
use Rattle.patch.specs.Head.{Head, head_of}

-- ---- a repeat

-- the head of a repeat, and its new count with the count's record
pub record Count : Type 0 where
  pub head : Head
  pub count : Rules.Shifted

unfoldable pub count_of : List Ty → List ℕ → Expression → List ℤ → List ℤ → Paper.Outcome Count
count_of types vs e changes ws = do
  h ← head_of types Ty.number vs changes ws
  x ← operand_of e h.word changes h.snap.rest
  accepted (record { head = h; count = x })

-- the new words of a repeat up to its iterations: the count comes later
abbrev pub count_laid : List ℕ → List ℤ → ℕ → Count → List ℤ
count_laid vs out at c = lay (lay out (at + 1) c.head.snap.new) (at + 1 + length vs) c.count.words

-- the new count, and the length of its record
pub record CountedAs (vs : List ℕ) (out : List ℤ) (at : ℕ) (after : List ℤ) (c : Count) (p : ℤ × ℕ) : Type 0 where
  pub count : p.0 ≡ c.count.change
  pub long : p.1 ≡ length c.count.words
  pub lays : after ≡ count_laid vs out at c

abbrev pub CountAs : List ℕ → Paper.Outcome Count → Result (ℤ × ℕ) Refusal → List ℤ → ℕ → List ℤ → Type 0
CountAs vs m r out at after = Agrees (CountedAs vs out at after) m r

abbrev pub CountsTo : Script → ℕ → List ℤ → ℕ → Reached → Result (ℤ × ℕ) Refusal → List ℤ → List ℤ → Type 0
CountsTo script node old end s r out after = (n : ℕ) (e : Expression) (b : Statement) → part_at script.checked.table.now node ≡ some (statement (repeat n e b))
    → CountAs (mentions (repeat n e b)) (count_of (types_of script.checked.table.now) (mentions (repeat n e b)) e s.changes.values (part old s.from end)) r out s.at after

-- the head is read: this is the count, and so long is its record
pub record Counted (script : Script) (node : ℕ) (new : ℤ) (length' : ℕ) (old : List ℤ) (end : ℕ) (s : Reached) : Type 0 where
  pub entered : Enterable script node old end s 20
  pub e : Expression
  pub b : Statement
  pub here : part_at script.checked.table.now node ≡ some (statement (repeat node e b))
  pub count : Count
  pub counts : count_of (types_of script.checked.table.now) (mentions (repeat node e b)) e s.changes.values (part old s.from end) ≡ accepted count
  pub is : new ≡ count.count.change
  pub size : length' ≡ length count.count.words

-- the iterations of a repeat whose head is read, and the words round them
unfoldable pub repeated : List Ty → List ℕ → Statement → Count → ℕ → List ℤ → Paper.Outcome Walked
repeated types vs b c left changes = do
  w ← loop types (visit b (walk types b) false) (run b) vs (times c.head.word) (times c.count.change)
      (record { left = left; changes = changes; old = c.head.snap.old; new = c.head.snap.new; rest = c.count.rest })
  accepted (record { changes = w.changes; counts = w.counts; words = repeat_words c.count.change c.head.snap.new c.count.words w.words })

abbrev pub IteratesTo : Script → ℕ → ℤ → List ℤ → ℕ → Reached → Result Reached Refusal → List ℤ → List ℤ → Type 0
IteratesTo script node new old end s r out after = (n : ℕ) (e : Expression) (b : Statement) → part_at script.checked.table.now node ≡ some (statement (repeat n e b))
    → (c : Count) → count_of (types_of script.checked.table.now) (mentions (repeat n e b)) e s.changes.values (part old s.from end) ≡ accepted c
    → new ≡ c.count.change → (out₀ : List ℤ) → out ≡ count_laid (mentions (repeat n e b)) out₀ s.at c
    → WalkAs (repeated (types_of script.checked.table.now) (mentions (repeat n e b)) b c s.left s.changes.values) s r old end out₀ after

-- ---- iterations that stay

-- where the walk stands behind some of them, with their counts and new words
pub record Turned : Type 0 where
  pub turn : Turn
  pub counts : Counts
  pub words : List ℤ

unfoldable pub turn_of : List Ty → (ℕ → List ℤ → List ℤ → Paper.Outcome Visited) → List ℕ → Turn → Paper.Outcome Turned
turn_of types body vs t = do
  b ← body t.left t.changes t.rest
  p ← patched types vs b.changes b.rest
  accepted
      (record {
        turn = record {
          left = t.left - steps_of b.counts;
          changes = b.changes;
          old = p.old;
          new = p.new;
          rest = p.rest;
        };
        counts = b.counts;
        words = b.words ++ p.new;
      })

-- one behind another
abbrev pub behind : Turned → Turned → Turned
behind a b = record { turn = b.turn; counts = both a.counts b.counts; words = a.words ++ b.words }

unfoldable pub turns_of : List Ty → (ℕ → List ℤ → List ℤ → Paper.Outcome Visited) → List ℕ → ℕ → Turn → Paper.Outcome Turned
turns_of types body vs zero t = accepted (record { turn = t; counts = no_steps; words = [] })
turns_of types body vs (suc n) t = do
  a ← turn_of types body vs t
  b ← turns_of types body vs n a.turn
  accepted (behind a b)

-- the walk's place as a turn; `was` and `new` are the last old and new snapshot
abbrev pub turn_at : Reached → List ℤ → ℕ → List ℤ → List ℤ → Turn
turn_at s old end was new = record { left = s.left; changes = s.changes.values; old = was; new = new; rest = part old s.from end }

-- the last old snapshot stands here, and the new one is it plus the changes
pub record LastAt (script : Script) (node : ℕ) (old : List ℤ) (last : ℕ) (t : Turn) : Type 0 where
  pub standing : Standing script.checked.table.now script.lists.now.lists node old last
  pub was : t.old ≡ olds old last (listed script node)
  pub moved : moved_all (types_of script.checked.table.now) (listed script node) t.old t.changes ≡ accepted t.new

-- the body is below the node, and the walk stands before an iteration
pub record Turnable (script : Script) (node body : ℕ) (old : List ℤ) (end : ℕ) (s : Reached) : Type 0 where
  pub known : Node script node
  pub bodied : Node script body
  pub within : mentions bodied.tree ⊆ mentions known.tree
  pub sound : Sound old end s

-- as a visit, with the snapshot after it
abbrev pub visited : Turned → Visited
visited a = record { changes = a.turn.changes; counts = a.counts; words = a.words; rest = a.turn.rest }

-- the walk has come behind these iterations, and the last old snapshot stands there
pub record TurnCame (script : Script) (node last : ℕ) (a : Turned) (s r : Reached) (old : List ℤ) (end : ℕ) (out out' : List ℤ) : Type 0 where
  pub came : Came (visited a) s r old end out out'
  pub left : a.turn.left ≡ r.left
  pub lastly : LastAt script node old last a.turn

-- where the last old snapshot stands behind so many iterations: the one before where there are none
abbrev pub last_of : ℕ → ℕ → ℕ → ℕ → ℕ
last_of count first place width = choose (eqb count 0) first (place - width)

abbrev pub TurnAs : Script → ℕ → ℕ → ℕ → Paper.Outcome Turned → Reached → Result Reached Refusal → List ℤ → ℕ → List ℤ → List ℤ → Type 0
TurnAs script node count first m s r old end out out' =
    Agrees (λ a to. TurnCame script node (last_of count first to.from (length (listed script node))) a s to old end out out') m r

-- the snapshot after an iteration takes its changes
abbrev pub SnapAs : ℕ → Paper.Outcome Patched → Reached → Result Reached Refusal → List ℤ → List ℤ → Type 0
SnapAs width m s r out out' = Agrees (λ p to. AdvancedBy width s to × (out' ≡ lay out s.at p.new)) m r

-- such a snapshot may stand before the walk
pub record Snappable (bytes lists : List ℕ) (node : ℕ) (old : List ℤ) (end : ℕ) (s : Reached) : Type 0 where
  pub named : Named bytes lists node
  pub sound : Sound old end s

abbrev pub SnapsTo : List ℕ → List ℕ → ℕ → List ℤ → ℕ → Reached → Result Reached Refusal → List ℤ → List ℤ → Type 0
SnapsTo bytes lists node old end s r out out' =
    SnapAs (length (list_at lists node)) (patched (types_of bytes) (list_at lists node) s.changes.values (part old s.from end)) s r out out'

abbrev pub TurnTo : Script → ℕ → ℕ → List ℤ → ℕ → Reached → Result Reached Refusal → List ℤ → List ℤ → Type 0
TurnTo script node body old end s r out out' = (b : Statement) → part_at script.checked.table.now body ≡ some (statement b) → (was new : List ℤ)
    → TurnAs script node 1 0 (turn_of (types_of script.checked.table.now) (visit b (walk (types_of script.checked.table.now) b) false) (listed script node) (turn_at s old end was new)) s r old end out out'

abbrev pub TurnsTo : Script → ℕ → ℕ → ℕ → List ℤ → ℕ → Reached → Result Reached Refusal → List ℤ → List ℤ → Type 0
TurnsTo script node body count old end s r out out' = (b : Statement) → part_at script.checked.table.now body ≡ some (statement b)
    → (first : ℕ) (was new : List ℤ) → LastAt script node old first (turn_at s old end was new)
    → TurnAs script node count first (turns_of (types_of script.checked.table.now) (visit b (walk (types_of script.checked.table.now) b) false) (listed script node) count (turn_at s old end was new)) s r old end out out'

-- ---- the iterations that come anew or fall away

-- the walk stands behind the iterations that stay, and the last old snapshot stands here
pub record Endable (script : Script) (node body last : ℕ) (old : List ℤ) (end : ℕ) (s : Reached) : Type 0 where
  pub turnable : Turnable script node body old end s
  pub was : List ℤ
  pub new : List ℤ
  pub lastly : LastAt script node old last (turn_at s old end was new)

-- the same of what falls away, whatever the body is
pub record Shrinkable (script : Script) (node last : ℕ) (old : List ℤ) (end : ℕ) (s : Reached) : Type 0 where
  pub known : Node script node
  pub sound : Sound old end s
  pub was : List ℤ
  pub new : List ℤ
  pub lastly : LastAt script node old last (turn_at s old end was new)

abbrev pub EndsTo : Script → ℕ → ℕ → ℕ → ℕ → ℕ → List ℤ → ℕ → Reached → Result Reached Refusal → List ℤ → List ℤ → Type 0
EndsTo script node body dropped more last old end s r out out' = (b : Statement) → part_at script.checked.table.now body ≡ some (statement b)
    → (was new : List ℤ) → LastAt script node old last (turn_at s old end was new)
    → WalkAs (loop (types_of script.checked.table.now) (visit b (walk (types_of script.checked.table.now) b) false) (run b) (listed script node) dropped more (turn_at s old end was new)) s r old end out out'

abbrev pub ShrinksTo : Script → ℕ → ℕ → List ℤ → ℕ → Reached → Result Reached Refusal → Type 0
ShrinksTo script node last old end s r = (out was new : List ℤ) → LastAt script node old last (turn_at s old end was new)
    → WalkAs (shrunk (types_of script.checked.table.now) (listed script node) (turn_at s old end was new)) s r old end out out
