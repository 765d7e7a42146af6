-- A repeat: the answer of its head becomes a refusal of the whole, or the iterations go on.
-- Assumes nothing.
use mathlib.Core.Path.{◌≡◌, sym, ap, ◌∙◌, subst}
use Prim.Native.Nat.{ℕ}
use mathlib.Core.Option.{some}
use mathlib.Core.List.{List}
use lib.IntN.{ℤ}
use Rattle.std.specs.Prelude.{Result, Ok, Err}
use Rattle.rules.specs.Outcome.{◌>>=◌}
use Rattle.rules.specs.Outcome as Paper
use Rattle.rules.specs.Value.{Ty}
use Rattle.rules.specs.Tree.{Statement, mentions}
use Rattle.rules.specs.Table.{types_of, statement}
use Rattle.rules.specs.Patch.{Walked, walk}
use Rattle.rules.proofs.Laws.Parts.{part_at}
use Rattle.table.specs.Agrees.{Accepts, accepts, handed_up}
use Rattle.table.specs.declared.answer.Refusal.{Refusal}
use Rattle.table.specs.declared.script.Script.{Script}
use Rattle.run.specs.Laws.Loops.{AsRepeat, as_repeat}
use Rattle.pieces.specs.Old.{part}
use Rattle.patch.specs.Laws.Turns.{walk_repeat}
use Rattle.pieces.specs.Entry.{WalkAs}
use Rattle.patch.specs.Statement.{Enterable, WalksTo}
use Rattle.patch.specs.Loop.{Count, count_of, CountedAs, CountAs, CountsTo, Counted, repeated, IteratesTo}
use Rattle.pieces.specs.declared.entry.Reached.{Reached}
use Rattle.patch.proofs.Agreed.{agrees_then}
use Rattle.patch.proofs.Nodes.{for_tree, as_run}

module _ {script : Script} {node : ℕ} {old : List ℤ} {end : ℕ} {s : Reached} (h : Enterable script node old end s 20) where
  abbrev types : List Ty
  types = types_of script.checked.table.now

  abbrev its : AsRepeat script.checked.table.now node h.known.tree
  its = as_repeat (as_run h.known h.kinded)

  abbrev own : Statement
  own = Statement.repeat node its.e its.s

  own_here : part_at script.checked.table.now node ≡ some (statement own)
  own_here = h.known.here ∙ ap (λ (t : Statement). some (statement t)) its.is

  abbrev counts : Paper.Outcome Count
  counts = count_of types (mentions own) its.e s.changes.values (part old s.from end)

  abbrev going : Count → Paper.Outcome Walked
  going c = repeated types (mentions own) its.s c s.left s.changes.values

  each_repeat : (r : Result Reached Refusal) (out after : List ℤ) → WalkAs (counts >>= going) s r old end out after → WalksTo script node old end s r out after
  each_repeat r out after w = for_tree h.known (λ t. WalkAs (walk types t s.left s.changes.values (part old s.from end)) s r old end out after)
      (subst (λ (t : Statement). WalkAs (walk types t s.left s.changes.values (part old s.from end)) s r old end out after) (sym its.is)
      (subst (λ (m : Paper.Outcome Walked). WalkAs m s r old end out after) (sym (walk_repeat types node its.e its.s s.left s.changes.values (part old s.from end))) w))

  module _ {a : Result (ℤ × ℕ) Refusal} {out one : List ℤ} (f : CountsTo script node old end s a out one) where
    answered : CountAs (mentions own) counts a out s.at one
    answered = f node its.e its.s own_here

    pub looped_refused : {q : Refusal} → a ≡ Err q → (after : List ℤ) → WalksTo script node old end s (Err q) out after
    looped_refused {q} e after = each_repeat (Err q) out after (handed_up going answered e)

    module _ {p : ℤ × ℕ} (is : a ≡ Ok p) where
      told : Accepts (CountedAs (mentions own) out s.at one) counts p
      told = accepts answered is

      -- the new count may be passed as a word that says the same
      pub looped_counted : {z : ℤ} → z ≡ p.0 → Counted script node z p.1 old end s
      looped_counted e = record {
        entered = h;
        e = its.e;
        b = its.s;
        here = own_here;
        count = told.value;
        counts = told.comes;
        is = e ∙ told.holds.count;
        size = told.holds.long;
      }

      pub looped_answer : {z : ℤ} → z ≡ p.0 → (r : Result Reached Refusal) (after : List ℤ) → IteratesTo script node z old end s r one after
          → WalksTo script node old end s r out after
      looped_answer e r after g = each_repeat r out after (agrees_then going told.comes
          (g node its.e its.s own_here told.value told.comes (e ∙ told.holds.count) out told.holds.lays))
