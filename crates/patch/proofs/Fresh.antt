-- What is run fresh: the store that starts it is the last new snapshot and fine, and the walk behind it stands at the end, with changes
-- settled against a snapshot of the old record.
-- Assumes nothing.
use mathlib.Core.Path.{◌≡◌, sym, ap, ◌∙◌, subst}
use Prim.Native.Nat.{ℕ, ◌+◌, ◌*◌, ◌≤◌}
use native.Mathlib.Omega.{arith}
use mathlib.Core.List.{List, []}
use lib.ListN.{length}
use lib.IntN.{ℤ}
use Rattle.numbers.specs.Lay.{lay}
use Rattle.rules.specs.Outcome.{accepted}
use Rattle.rules.specs.Value.{zeros, most_variables, put, minus_all, snapshot}
use Rattle.rules.specs.Table.{statement, types_of}
use Rattle.rules.specs.Patch.{Visited, Turn, steps_of, all_fresh, moved_all}
use Rattle.rules.proofs.Laws.Entry.{Fine}
use Rattle.rules.proofs.Laws.Size.{weight}
use Rattle.rules.proofs.Laws.Store.{Good, length_put}
use Rattle.table.specs.declared.script.Script.{Script}
use Rattle.run.specs.Code.{farthest}
use Rattle.run.specs.Statement.{Known}
use Rattle.run.specs.declared.statement.Ran.{Ran}
use Rattle.pieces.specs.Change.{AllNear}
use Rattle.pieces.specs.Snapshot.{Standing, olds, started_from, settled_by}
use Rattle.pieces.specs.Laws.Old.{part_none}
use Rattle.pieces.specs.Laws.Snapshot.{good_near, olds_long, moved_plus, moved_long, started_fine, started_back, settled_near}
use Rattle.pieces.specs.Entry.{Sound, Came}
use Rattle.patch.specs.Statement.{listed, Node}
use Rattle.patch.specs.Fresh.{FreshAs}
use Rattle.patch.specs.Loop.{LastAt}
use Rattle.pieces.specs.declared.entry.Reached.{Reached}

-- ---- before the run

-- the store is the old snapshot that stands here plus the changes, and these are the new words
pub record Started (script : Script) (node : ℕ) (old : List ℤ) (from : ℕ) (changes news values : List ℤ) : Type 0 where
  pub moved : moved_all (types_of script.checked.table.now) (listed script node) (olds old from (listed script node)) changes ≡ accepted news
  pub standing : Standing script.checked.table.now script.lists.now.lists node old from
  pub is : values ≡ started_from script.checked.table.now script.lists.now.lists node old from changes

module _ {script : Script} {node : ℕ} {old : List ℤ} {from : ℕ} {changes news values : List ℤ}
    (h : Started script node old from changes news values) where
  pub store_is : values ≡ put (listed script node) news (zeros most_variables)
  store_is = h.is ∙ ap (λ (zs : List ℤ). put (listed script node) zs (zeros most_variables))
      (sym (moved_plus (types_of script.checked.table.now) (listed script node) (olds old from (listed script node)) changes news h.moved))

  pub store_fine : Fine (types_of script.checked.table.now) values
  store_fine = subst (Fine (types_of script.checked.table.now)) (sym store_is)
      (started_fine (types_of script.checked.table.now) (listed script node) (olds old from (listed script node)) changes news h.moved)

  pub store_near : AllNear values
  store_near = good_near (types_of script.checked.table.now) values store_fine.good

  -- a statement may run from it
  abbrev pub store_known : {i : ℕ} → Node script i → Known script i values
  store_known k = record { tree = k.tree; here = k.here; small = k.small; fine = store_fine }

  pub news_long : length news ≡ length (listed script node)
  news_long = moved_long (types_of script.checked.table.now) (listed script node) (olds old from (listed script node)) changes news
      (olds_long script.checked.table.now script.lists.now.lists node old from h.standing) h.moved

  -- its snapshot is the new one
  pub store_back : Node script node → snapshot (listed script node) values ≡ news
  store_back k = ap (snapshot (listed script node)) store_is
      ∙ started_back script.checked.table.now script.lists.now.lists script.listed node (statement k.tree) k.here news news_long

-- behind the iterations that stay: from the last old snapshot
pub from_last : {script : Script} {node last : ℕ} {old : List ℤ} {t : Turn} {values : List ℤ} → LastAt script node old last t
    → values ≡ started_from script.checked.table.now script.lists.now.lists node old last t.changes
    → Started script node old last t.changes t.new values
from_last {script} {node} {t = t} l is = record {
  moved = ap (λ (ws : List ℤ). moved_all (types_of script.checked.table.now) (listed script node) ws t.changes) (sym l.was) ∙ l.moved;
  standing = l.standing;
  is = is;
}

-- ---- behind it

-- what it comes to: so many fresh steps and these words
abbrev pub settled_as : Script → ℕ → List ℤ → ℕ → Reached → List ℤ → ℕ → List ℤ → Visited
settled_as script node old place s store steps words = record {
  changes = settled_by script.checked.table.now script.lists.now.lists node store old place s.changes.values;
  counts = all_fresh steps;
  words = words;
  rest = [];
}

module _ {script : Script} {node : ℕ} {old : List ℤ} {end : ℕ} {s : Reached} (h : Sound old end s) {place : ℕ}
    (standing : Standing script.checked.table.now script.lists.now.lists node old place) where
  -- its words are no more than its steps and the old words up to the end allow
  pub fresh_came : {ran : Ran} {r : Reached} → FreshAs script node old place end ran s r → Good (types_of script.checked.table.now) ran.store.values
      → (steps : ℕ) (words : List ℤ) → ran.left + steps ≡ s.left → ran.at ≡ s.at + length words → s.from + length words ≤ weight * steps + end
      → {out after : List ℤ} → after ≡ lay out s.at words
      → Came (settled_as script node old place s ran.store.values steps words) s r old end out after
  unfolding steps_of all_fresh
  fresh_came {ran} {r} f good steps words left ends short lays =
      let vs = listed script node in
      let ordered : r.from ≤ end = omega (arith, f.from) in
      let place' : r.at + weight * r.left + length old + 60_000_000 ≤ farthest + r.from = omega (arith, f.from, f.at, f.left, h.place) in
      let few : r.walked + r.reused + r.left ≤ 1_000_000 = omega (arith, h.few, f.left, f.walked, f.reused) in
      let leaves : r.left + (0 + 0 + steps) ≡ s.left = omega (arith, f.left) in
      let walks : r.walked ≡ s.walked + 0 = omega (arith, f.walked) in
      let reuses : r.reused ≡ s.reused + 0 = omega (arith, f.reused) in
      let onward : s.from ≤ r.from = omega (arith, f.from, h.inside.ordered) in
      let past : end ≤ r.from = omega (arith, f.from) in
      record {
        sound = record {
          long = ap length f.changes ∙ length_put vs (minus_all (types_of script.checked.table.now) vs (snapshot vs ran.store.values) (olds old place vs))
              s.changes.values ∙ h.long;
          near = subst AllNear (sym f.changes) (settled_near script.checked.table.now script.lists.now.lists node old place standing ran.store.values good s.changes.values h.near);
          inside = record { ordered = ordered; ends = h.inside.ends };
          place = place';
          few = few;
        };
        changes = f.changes;
        leaves = leaves;
        walks = walks;
        reuses = reuses;
        rest = sym (part_none old r.from end past);
        onward = onward;
        ends = f.at ∙ ends;
        lays = lays;
      }
