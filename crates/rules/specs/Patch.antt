-- "Patching": the differential walk through an old record, whatever words it holds.
-- A walk gets the steps that are left of the limit, the changes so far and the words that are left of the parent's entry. It
-- reads front to back and never looks ahead: it knows a word when it has read it and a change when it has computed it.
-- A statement is walked in three steps: `meet` tests the entry's opening words, `visit` applies the skip rule or pays a step,
-- and `walk` goes through the parts by the statement's kind.
-- Every refusal is `broken` (12) but two: an operator's new result (8), and fuel (9).
-- Assumes nothing.
use Rattle.std.specs.Prelude.{ℕ, zero, suc, ◌+◌, ◌-◌, Bool, true, false, List, [], ◌∷◌, ◌++◌, length, set, drop, leb, ℤ, pos, nat_abs}
use Rattle.std.specs.Int.Signed.{le_z}
use Rattle.numbers.specs.Signed.{eq_z, between}
use Rattle.rules.specs.Outcome.{Outcome, accepted, refused, ◌>>=◌, need, choose, out_of_range, fuel_spent, broken}
use Rattle.rules.specs.Value.{Ty, at, type_of, zeros, most_variables, in_type, plus, minus, snapshot, put, minus_all, unchanged}
use Rattle.rules.specs.Tree.{Expression, constant, variable, operation, Statement, skip, assign, sequence, if, repeat, gives, node_of, mentions}
use Rattle.rules.specs.Run.{compute, opening, entry, most_steps, Done, holds, times, iterate, if_words, repeat_words, run}

-- ---- reading words

-- a word, and the words behind it
pub record Read : Type 0 where
  pub word : ℤ
  pub rest : List ℤ

-- the next word; "parts that do not fit" are found here
unfoldable pub read : List ℤ → Outcome Read
read [] = refused broken
read (w ∷ ws) = accepted (record { word = w; rest = ws })

-- the next word, which is in its type
unfoldable pub read_in : Ty → List ℤ → Outcome Read
read_in t ws = do
  r ← read ws
  _ ← need (in_type t r.word) broken
  accepted r

-- an old value plus its change, which is in its type too
unfoldable pub moved : Ty → ℤ → ℤ → Outcome ℤ
moved t old change = do
  _ ← need (in_type t (plus t old change)) broken
  accepted (plus t old change)

-- nothing is left: the last part ends where its parent ends
unfoldable pub finished : List ℤ → Outcome (Unit {0})
finished [] = accepted tt
finished (w ∷ ws) = refused broken

-- the first n words and those behind
pub record Cut : Type 0 where
  pub front : List ℤ
  pub behind : List ℤ

unfoldable pub cut : ℕ → List ℤ → Outcome Cut
cut zero ws = accepted (record { front = []; behind = ws })
cut (suc n) [] = refused broken
cut (suc n) (w ∷ ws) = do
  c ← cut n ws
  accepted (record { front = w ∷ c.front; behind = c.behind })

-- ---- expressions

-- an expression's change, its new record, and the words behind its old one
pub record Shifted : Type 0 where
  pub change : ℤ
  pub words : List ℤ
  pub rest : List ℤ

-- "An operator's new operands are old plus change; its change is new result minus old result." In record order: left word,
-- right word, old result, left record, left sum, right record, right sum, new result.
unfoldable pub shift : Expression → List ℤ → List ℤ → Outcome Shifted
shift (constant n z) changes ws = accepted (record { change = pos 0; words = []; rest = ws })
shift (variable n v) changes ws = accepted (record { change = at changes v; words = []; rest = ws })
shift (operation n o a b) changes ws = do
  l ← read_in Ty.number ws
  r ← read_in Ty.number l.rest
  old ← compute broken o l.word r.word
  x ← shift a changes r.rest
  left ← moved Ty.number l.word x.change
  y ← shift b changes x.rest
  right ← moved Ty.number r.word y.change
  new ← compute out_of_range o left right
  accepted (record { change = minus (gives o) new old; words = left ∷ right ∷ (x.words ++ y.words); rest = y.rest })

-- ---- counts

pub record Counts : Type 0 where
  pub walked : ℕ
  pub reused : ℕ
  pub fresh : ℕ

-- "Steps = walked + reused + fresh."
unfoldable pub steps_of : Counts → ℕ
steps_of c = c.walked + c.reused + c.fresh

unfoldable pub no_steps : Counts
no_steps = record { walked = 0; reused = 0; fresh = 0 }

unfoldable pub both : Counts → Counts → Counts
both c d = record { walked = c.walked + d.walked; reused = c.reused + d.reused; fresh = c.fresh + d.fresh }

unfoldable pub one_walked : Counts → Counts
one_walked c = record { walked = suc c.walked; reused = c.reused; fresh = c.fresh }

unfoldable pub all_reused : ℕ → Counts
all_reused n = record { walked = 0; reused = n; fresh = 0 }

unfoldable pub all_fresh : ℕ → Counts
all_fresh n = record { walked = 0; reused = 0; fresh = n }

-- ---- an entry met

-- its steps, all its words, those behind the three opening ones, and what stands behind it in its parent
pub record Entry : Type 0 where
  pub steps : ℕ
  pub words : List ℤ
  pub parts : List ℤ
  pub behind : List ℤ

-- an entry that is a last part leaves nothing behind
unfoldable pub ends : Bool → List ℤ → Bool
ends false ws = true
ends true [] = true
ends true (w ∷ ws) = false

-- "An entry met: under 3 words left, wrong node, size under 3 or past its parent, steps outside 1..1,000,000"; and "an entry
-- that is a last part is tested against its parent's end when its size is read".
unfoldable pub meet : ℕ → Bool → List ℤ → Outcome Entry
meet node last [] = refused broken
meet node last (n ∷ []) = refused broken
meet node last (n ∷ size ∷ []) = refused broken
meet node last (n ∷ size ∷ steps ∷ ws) = do
  _ ← need (eq_z n (pos node)) broken
  _ ← need (le_z (pos opening) size) broken
  c ← cut (nat_abs size - opening) ws
  _ ← need (ends last c.behind) broken
  _ ← need (between (pos 1) most_steps steps) broken
  accepted
      (record { steps = nat_abs steps; words = n ∷ size ∷ steps ∷ c.front; parts = c.front; behind = c.behind })

-- ---- the skip rule, or a walked step

-- what a walk through an entry's parts ends with: the changes behind it, its counts, the new words of the parts
pub record Walked : Type 0 where
  pub changes : List ℤ
  pub counts : Counts
  pub words : List ℤ

-- the same of a whole entry, with the words behind it in its parent
pub record Visited : Type 0 where
  pub changes : List ℤ
  pub counts : Counts
  pub words : List ℤ
  pub rest : List ℤ

-- a walk through parts: steps left, changes so far, the parts' old words
abbrev pub Walk : Type 0
Walk = ℕ → List ℤ → List ℤ → Outcome Walked

-- "Copy the entry; its steps go to reused; changes pass through. If steps so far plus its steps exceed the limit: 9."
unfoldable pub skipped : Entry → ℕ → List ℤ → Outcome Visited
skipped e fuel changes = do
  _ ← need (leb e.steps fuel) fuel_spent
  accepted (record { changes = changes; counts = all_reused e.steps; words = e.words; rest = e.behind })

-- "Otherwise walked grows by one (9 if the limit is used up) and its kind decides."
unfoldable pub paid : ℕ → Walk → Entry → ℕ → List ℤ → Outcome Visited
paid node inside e zero changes = refused fuel_spent
paid node inside e (suc left) changes = do
  w ← inside left changes e.parts
  let counts = one_walked w.counts in accepted
      (record {
        changes = w.changes;
        counts = counts;
        words = entry node (steps_of counts) w.words;
        rest = e.behind;
      })

-- a statement's entry: "If all mentioned variables have change 0, copy the entry", else walk it
unfoldable pub visit : Statement → Walk → Bool → ℕ → List ℤ → List ℤ → Outcome Visited
visit s inside last fuel changes ws = do
  e ← meet (node_of s) last ws
  choose (unchanged (mentions s) changes) skipped (paid (node_of s) inside) e fuel changes

-- ---- by the statement's kind

-- a snapshot's words, each in its type, and the words behind them
pub record Snapshot : Type 0 where
  pub values : List ℤ
  pub rest : List ℤ

-- what an if's walk has read and computed when its branch begins: steps left, changes, the variables mentioned, the old
-- condition, the new snapshot before, the old snapshot after, the condition's shift
pub record Fork : Type 0 where
  pub left : ℕ
  pub changes : List ℤ
  pub vs : List ℕ
  pub condition : ℤ
  pub before : List ℤ
  pub after : List ℤ
  pub test : Shifted

-- where a repeat's walk stands between two iterations: steps left, changes, the last old and new snapshot, the words behind
pub record Turn : Type 0 where
  pub left : ℕ
  pub changes : List ℤ
  pub old : List ℤ
  pub new : List ℤ
  pub rest : List ℤ

module _ (types : List Ty) where
  unfoldable pub read_snapshot : List ℕ → List ℤ → Outcome Snapshot
  read_snapshot [] ws = accepted (record { values = []; rest = ws })
  read_snapshot (v ∷ vs) ws = do
    r ← read_in (type_of types v) ws
    s ← read_snapshot vs r.rest
    accepted (record { values = r.word ∷ s.values; rest = s.rest })

  -- a snapshot plus the changes; it has a word for each of the variables
  unfoldable pub moved_all : List ℕ → List ℤ → List ℤ → Outcome (List ℤ)
  moved_all [] olds changes = accepted []
  moved_all (v ∷ vs) [] changes = accepted []
  moved_all (v ∷ vs) (o ∷ os) changes = do
    z ← moved (type_of types v) o (at changes v)
    zs ← moved_all vs os changes
    accepted (z ∷ zs)

  -- "If, condition kept: the branch is patched; both snapshots take the changes before and after it."
  unfoldable pub kept : (Bool → ℕ → List ℤ → List ℤ → Outcome Visited) → Fork → Outcome Walked
  kept branch f = do
    b ← branch true f.left f.changes f.test.rest
    after ← moved_all f.vs f.after b.changes
    accepted
        (record {
          changes = b.changes;
          counts = b.counts;
          words = if_words f.condition f.before after f.test.words b.words;
        })

  -- "If, condition flipped: the other branch is run fresh from the old snapshot plus changes; each mentioned variable's change
  -- is its new value minus its old snapshot after; others pass."
  unfoldable pub flipped : (ℕ → List ℤ → Outcome Done) → Fork → Outcome Walked
  flipped branch f = do
    d ← branch f.left (put f.vs f.before (zeros most_variables))
    let after = snapshot f.vs d.store in accepted
        (record {
          changes = put f.vs (minus_all types f.vs after f.after) f.changes;
          counts = all_fresh d.steps;
          words =
              if_words (plus Ty.truth f.condition f.test.change) f.before after f.test.words d.words;
        })

  -- "Of a dropped tail only the last snapshot is read: it is the entry's last words and must lie behind the walked parts."
  unfoldable pub last_snapshot : List ℕ → List ℤ → Outcome Snapshot
  last_snapshot vs ws = do
    _ ← need (leb (length vs) (length ws)) broken
    read_snapshot vs (drop (length ws - length vs) ws)

  -- no iteration is left on either side
  unfoldable pub complete : Turn → Outcome Walked
  complete t = do
    _ ← finished t.rest
    accepted (record { changes = t.changes; counts = no_steps; words = [] })

  -- "If k' > k the rest run fresh from the last old snapshot plus changes", and "each mentioned variable's change is new value
  -- minus old last snapshot"
  unfoldable pub grown : (ℕ → List ℤ → Outcome Done) → List ℕ → Turn → Outcome Walked
  grown more vs t = do
    _ ← finished t.rest
    d ← more t.left (put vs t.new (zeros most_variables))
    accepted
        (record {
          changes = put vs (minus_all types vs (snapshot vs d.store) t.old) t.changes;
          counts = all_fresh d.steps;
          words = d.words;
        })

  -- the iterations that are left are dropped: again "new value minus old last snapshot"
  unfoldable pub shrunk : List ℕ → Turn → Outcome Walked
  shrunk vs t = do
    tail ← last_snapshot vs t.rest
    accepted
        (record { changes = put vs (minus_all types vs t.new tail.values) t.changes; counts = no_steps; words = [] })

  -- "Repeat with old iterations k and new k': the first min(k, k') are patched": `body` visits the body, `fresh` runs it; each
  -- kept snapshot takes its changes
  unfoldable pub loop : (ℕ → List ℤ → List ℤ → Outcome Visited) → (ℕ → List ℤ → Outcome Done) → List ℕ → ℕ → ℕ → Turn → Outcome Walked
  loop body fresh vs zero zero t = complete t
  loop body fresh vs zero (suc more) t = grown (iterate fresh vs (suc more)) vs t
  loop body fresh vs (suc dropped) zero t = shrunk vs t
  loop body fresh vs (suc k) (suc k') t = do
    b ← body t.left t.changes t.rest
    old ← read_snapshot vs b.rest
    new ← moved_all vs old.values b.changes
    w ← loop body fresh vs k k'
        (record {
          left = t.left - steps_of b.counts;
          changes = b.changes;
          old = old.values;
          new = new;
          rest = old.rest;
        })
    accepted (record { changes = w.changes; counts = both b.counts w.counts; words = b.words ++ (new ++ w.words) })

  unfoldable pub walk : Statement → Walk
  walk (skip n) left changes ws = do
    _ ← finished ws
    accepted (record { changes = changes; counts = no_steps; words = [] })
  walk (assign n v e) left changes ws = do
    x ← shift e changes ws
    _ ← finished x.rest
    accepted (record { changes = set changes v x.change; counts = no_steps; words = x.words })
  walk (sequence n s t) left changes ws = do
    a ← visit s (walk s) false left changes ws
    b ← visit t (walk t) true (left - steps_of a.counts) a.changes a.rest
    accepted (record { changes = b.changes; counts = both a.counts b.counts; words = a.words ++ b.words })
  walk (if n e s t) left changes ws =
      let vs = mentions (if n e s t) in do
        old ← read_in Ty.truth ws
        b ← read_snapshot vs old.rest
        before ← moved_all vs b.values changes
        a ← read_snapshot vs b.rest
        x ← shift e changes a.rest
        let f : Fork = record {
          left = left;
          changes = changes;
          vs = vs;
          condition = old.word;
          before = before;
          after = a.values;
          test = x;
        } in choose (eq_z x.change (pos 0))
            (kept (choose (holds old.word) (visit s (walk s)) (visit t (walk t))))
            (flipped (choose (holds old.word) (run t) (run s))) f
  walk (repeat n e s) left changes ws =
      let vs = mentions (repeat n e s) in do
        old ← read_in Ty.number ws
        b ← read_snapshot vs old.rest
        before ← moved_all vs b.values changes
        x ← shift e changes b.rest
        count ← moved Ty.number old.word x.change
        w ← loop (visit s (walk s) false) (run s) vs (times old.word) (times count)
            (record { left = left; changes = changes; old = b.values; new = before; rest = x.rest })
        accepted
            (record {
              changes = w.changes;
              counts = w.counts;
              words = repeat_words count before x.words w.words;
            })
