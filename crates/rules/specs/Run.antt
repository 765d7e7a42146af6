-- "Running" and "The record": what a run of a statement does, and the words that it leaves.
-- A run gets the steps that are left of the limit and a store, and ends with a store, its steps and its words.
-- The words of an entry are wrapped round those of its parts, so size and steps are computed and stand nowhere twice.
-- Assumes nothing.
use Rattle.std.specs.Prelude.{ℕ, zero, suc, ◌+◌, ◌-◌, Bool, not, List, [], ◌∷◌, ◌++◌, length, set, ℤ, pos, negsuc}
use Rattle.numbers.specs.Signed.{eq_z}
use Rattle.rules.specs.Outcome.{Refusal, Outcome, accepted, refused, ◌>>=◌, need, choose, out_of_range, fuel_spent}
use Rattle.rules.specs.Value.{at, in_type, snapshot}
use Rattle.rules.specs.Tree.{Operator, Expression, constant, variable, operation, Statement, skip, assign, sequence, if, repeat, gives, apply, mentions}

-- ---- expressions

-- an operator's result, or this refusal where it is no value of its type
unfoldable pub compute : Refusal → Operator → ℤ → ℤ → Outcome ℤ
compute reason o x y = do
  _ ← need (in_type (gives o) (apply o x y)) reason
  accepted (apply o x y)

-- an expression's value and its record
pub record Valued : Type 0 where
  pub value : ℤ
  pub words : List ℤ

-- "Constants and variables have an empty record. An operator's record is its two operand values, then the left record, then
-- the right."
unfoldable pub evaluate : Expression → List ℤ → Outcome Valued
evaluate (constant n z) store = accepted (record { value = z; words = [] })
evaluate (variable n v) store = accepted (record { value = at store v; words = [] })
evaluate (operation n o a b) store = do
  l ← evaluate a store
  r ← evaluate b store
  z ← compute out_of_range o l.value r.value
  accepted (record { value = z; words = l.value ∷ r.value ∷ (l.words ++ r.words) })

-- ---- entries

-- "Every entry opens with node number, size in words with all its parts, steps with all its parts."
abbrev pub opening : ℕ
opening = 3

unfoldable pub entry : ℕ → ℕ → List ℤ → List ℤ
entry node steps parts = pos node ∷ pos (opening + length parts) ∷ pos steps ∷ parts

-- what a statement, or a part of one, ends with: the store, the steps that it took, and its words
pub record Done : Type 0 where
  pub store : List ℤ
  pub steps : ℕ
  pub words : List ℤ

-- "Each statement costs one step on entry, before its expressions: with the limit already used up, refusal 9."
unfoldable pub enter : ℕ → ℕ → (ℕ → Outcome Done) → Outcome Done
enter node zero inside = refused fuel_spent
enter node (suc left) inside = do
  d ← inside left
  accepted (record { store = d.store; steps = suc d.steps; words = entry node (suc d.steps) d.words })

-- ---- statements

-- the condition says then
unfoldable pub holds : ℤ → Bool
holds z = not (eq_z z (pos 0))

-- "A count below 1 runs nothing."
unfoldable pub times : ℤ → ℕ
times (pos n) = n
times (negsuc n) = 0

-- n iterations: each runs the body and leaves its entry and a snapshot after it
unfoldable pub iterate : (ℕ → List ℤ → Outcome Done) → List ℕ → ℕ → ℕ → List ℤ → Outcome Done
iterate body vs zero left store = accepted (record { store = store; steps = 0; words = [] })
iterate body vs (suc n) left store = do
  d ← body left store
  r ← iterate body vs n (left - d.steps) d.store
  accepted (record { store = r.store; steps = d.steps + r.steps; words = d.words ++ (snapshot vs d.store ++ r.words) })

-- the words of an if and of a repeat behind the three opening ones
unfoldable pub if_words : ℤ → List ℤ → List ℤ → List ℤ → List ℤ → List ℤ
if_words condition before after test branch = condition ∷ (before ++ (after ++ (test ++ branch)))

unfoldable pub repeat_words : ℤ → List ℤ → List ℤ → List ℤ → List ℤ
repeat_words count before expression iterations = count ∷ (before ++ (expression ++ iterations))

unfoldable pub run : Statement → ℕ → List ℤ → Outcome Done
run (skip n) fuel store = enter n fuel λ left. accepted (record { store = store; steps = 0; words = [] })
run (assign n v e) fuel store = enter n fuel λ left. do
  x ← evaluate e store
  accepted (record { store = set store v x.value; steps = 0; words = x.words })
run (sequence n s t) fuel store = enter n fuel λ left. do
  d ← run s left store
  f ← run t (left - d.steps) d.store
  accepted (record { store = f.store; steps = d.steps + f.steps; words = d.words ++ f.words })
run (if n e s t) fuel store = enter n fuel λ left. do
  x ← evaluate e store
  d ← choose (holds x.value) (run s) (run t) left store
  let vs = mentions (if n e s t) in accepted
      (record {
        store = d.store;
        steps = d.steps;
        words = if_words x.value (snapshot vs store) (snapshot vs d.store) x.words d.words;
      })
run (repeat n e s) fuel store = enter n fuel λ left. do
  x ← evaluate e store
  let vs = mentions (repeat n e s) in do
    d ← iterate (run s) vs (times x.value) left store
    accepted
        (record {
          store = d.store;
          steps = d.steps;
          words = repeat_words x.value (snapshot vs store) x.words d.words;
        })

-- ---- the whole record

-- "fuel limit outside 1..1,000,000" is refused; no entry has more steps
unfoldable pub most_steps : ℤ
most_steps = pos 1_000_000

-- "Header: length L, fuel limit, steps, V inputs, V outputs; then the root's entry."
abbrev pub headed : ℕ
headed = 3

unfoldable pub record_of : ℕ → ℕ → List ℤ → List ℤ → List ℤ → List ℤ
record_of limit steps inputs outputs root =
    let body = inputs ++ (outputs ++ root) in pos (headed + length body) ∷ pos limit ∷ pos steps ∷ body
