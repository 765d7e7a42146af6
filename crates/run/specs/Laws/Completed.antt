-- A record completed: the header, the inputs and the outputs come to stand in front of the root's entry, and zeros behind it.
-- Assumes nothing.
use Rattle.std.proofs.Math.Path.{◌≡◌, refl, sym, ap, ap₂}
use Rattle.std.proofs.Common.{◌∙◌, arith, length-append, length-take-le}
use Rattle.std.specs.Prelude.{ℕ, ◌+◌, ◌-◌, ◌*◌, ◌≤◌, drop, ℤ, pos}
use mathlib.Core.List.{List, ◌∷◌, ◌++◌}
use Rattle.std.proofs.Math.ListN.{length, take, set}
use Rattle.std.proofs.Math.Seq.{take-append_seam}
use Rattle.numbers.specs.Lay.{lay, length_lay, lay_append, lay_before, set_lay, lay_inside}
use Rattle.rules.specs.Outcome.{accepted}
use Rattle.rules.specs.Value.{zeros, most_variables, padded}
use Rattle.rules.specs.Patch.{Counts, steps_of, all_fresh}
use Rattle.rules.specs.Run.{Done, headed, record_of}
use Rattle.rules.specs.Call.{Answer as PaperAnswer, answered}
use Rattle.table.specs.Paper.{number_of, answer_of}
use Rattle.table.specs.declared.answer.Outcome.{Outcome}
use Rattle.table.specs.declared.answer.Outcome.TheVariants.{Accepted}
use Rattle.table.specs.declared.answer.Answer.{Answer}
use Rattle.run.specs.declared.statement.Ran.{Ran}
use Rattle.run.specs.Statement.{EndedAs}
use Rattle.run.specs.Call.{finished, Completable}

-- ---- the words of a record, whatever the order they are laid in

pub record_laid : (out inputs outputs words : List ℤ) (x y z : ℤ) (v : ℕ) → length inputs ≡ v → length outputs ≡ v
    → lay (lay (set (set (set (lay out (3 + 2 * v) words) 0 x) 1 y) 2 z) 3 inputs) (3 + v) outputs ≡ lay out 0 (x ∷ y ∷ z ∷ (inputs ++ (outputs ++ words)))
unfolding lay
record_laid out inputs outputs words x y z v e f =
    let header = set (set (set out 0 x) 1 y) 2 z in
    let second : 3 + v ≡ 3 + length inputs = omega arith in
    let third : 3 + 2 * v ≡ 3 + v + length outputs = omega arith in
    ap (λ (l : List ℤ). lay (lay (set (set l 1 y) 2 z) 3 inputs) (3 + v) outputs) (set_lay out 0 (3 + 2 * v) x words (omega arith))
    ∙ ap (λ (l : List ℤ). lay (lay (set l 2 z) 3 inputs) (3 + v) outputs) (set_lay (set out 0 x) 1 (3 + 2 * v) y words (omega arith))
    ∙ ap (λ (l : List ℤ). lay (lay l 3 inputs) (3 + v) outputs) (set_lay (set (set out 0 x) 1 y) 2 (3 + 2 * v) z words (omega arith))
    ∙ ap (λ (l : List ℤ). lay l (3 + v) outputs) (lay_before header 3 (3 + 2 * v) inputs words (omega arith))
    ∙ lay_before (lay header 3 inputs) (3 + v) (3 + 2 * v) outputs words (omega arith)
    ∙ ap (λ (i : ℕ). lay (lay (lay header 3 inputs) (3 + v) outputs) i words) third
    ∙ sym (lay_append (lay header 3 inputs) (3 + v) outputs words)
    ∙ ap (λ (i : ℕ). lay (lay header 3 inputs) i (outputs ++ words)) second
    ∙ sym (lay_append header 3 inputs (outputs ++ words))

-- laid from the start, and zeros behind them
pub cut_laid : (out words : List ℤ) → length words ≤ length out → take (length words) (lay out 0 words) ≡ words
cut_laid out words fits =
    let all : 0 + length words ≤ length out = omega arith in
    ap (take (length words)) (lay_inside out 0 words all) ∙ take-append_seam words (drop (0 + length words) out)

pub record_long : (limit steps : ℕ) (inputs outputs root : List ℤ)
    → length (record_of limit steps inputs outputs root) ≡ 3 + length inputs + length outputs + length root
unfolding record_of
record_long limit steps inputs outputs root = omega (arith, length-append inputs (outputs ++ root), length-append outputs root)

-- ---- a record completed

all_fresh_lem : (n : ℕ) → steps_of (all_fresh n) ≡ n
unfolding steps_of all_fresh
all_fresh_lem n = omega arith

module _ {inputs : List ℤ} {limit : ℕ} {ran : Ran} {now : List ℤ} (h : Completable inputs limit ran now) where
  abbrev v : ℕ
  v = length inputs

  -- the first of the values are few enough
  pub outputs_few : length (take v ran.store.values) ≤ most_variables
  unfolding most_variables
  outputs_few = omega (arith, h.few, h.long, length-take-le v ran.store.values (omega (arith, h.few, h.long)))

  module _ (d : Done) (out : List ℤ) (e : EndedAs out limit (3 + 2 * v) now d ran) where
    abbrev outputs : List ℤ
    outputs = take v d.store

    outputs_long : length outputs ≡ v
    outputs_long = length-take-le v d.store (omega (arith, h.few, h.long, ap length e.stores))

    steps_are : limit - ran.left ≡ d.steps
    steps_are = omega (arith, e.leaves)

    abbrev words : List ℤ
    words = record_of limit d.steps inputs outputs d.words

    long : ran.at ≡ length words
    long = omega (arith, e.ends, record_long limit d.steps inputs outputs d.words, outputs_long)

    long_body : ran.at ≡ headed + length (inputs ++ (outputs ++ d.words))
    long_body = omega (arith, e.ends, outputs_long, length-append inputs (outputs ++ d.words), length-append outputs d.words)

    out_long : length now ≡ length out
    out_long = ap length e.lays ∙ length_lay out (3 + 2 * v) d.words

    pub buffer_is : {three four five after : List ℤ} {behind : ℕ}
        → three ≡ set (set (set now 0 (pos ran.at)) 1 (pos limit)) 2 (pos (limit - ran.left)) → four ≡ lay three 3 inputs → behind ≡ 3 + v
        → five ≡ lay four behind (take v ran.store.values) → after ≡ take ran.at five ++ zeros (length five - ran.at)
        → after ≡ (answered (length now) (accepted (finished v inputs limit d))).buffer
    unfolding answered record_of
    buffer_is {five = five} {behind = behind} a₃ a₄ place a₅ a₆ =
        let laid : five ≡ lay out 0 words
        = a₅ ∙ ap₂ {C = List ℤ} (λ (l ws : List ℤ). lay l behind ws)
        (a₄ ∙ ap (λ (l : List ℤ). lay l 3 inputs) (a₃ ∙ ap₂ {C = List ℤ} (λ (l : List ℤ) (n : ℕ). set l 2 (pos n)) (ap (λ (l : List ℤ). set l 1 (pos limit))
        (ap₂ {C = List ℤ} (λ (l : List ℤ) (n : ℕ). set l 0 (pos n)) e.lays long_body)) steps_are)) (ap (take v) e.stores)
        ∙ ap (λ (i : ℕ). lay (lay (set (set (set (lay out (3 + 2 * v) d.words) 0 (pos (headed + length (inputs ++ (outputs ++ d.words))))) 1 (pos limit)) 2 (pos d.steps)) 3 inputs) i outputs) place
        ∙ record_laid out inputs outputs d.words (pos (headed + length (inputs ++ (outputs ++ d.words)))) (pos limit) (pos d.steps) v refl outputs_long in
        let fits : length words ≤ length out = omega (arith, h.room, long, out_long) in
        let same : length five ≡ length now = ap length laid ∙ length_lay out 0 words ∙ sym out_long in
        a₆ ∙ ap₂ {C = List ℤ} (λ (n m : ℕ). take n five ++ zeros (m - n)) long same
        ∙ ap (λ (l : List ℤ). l ++ zeros (length now - length words)) (ap (take (length words)) laid ∙ cut_laid out words fits)

    pub answer_is : (r : Answer) → r.outcome ≡ Accepted → r.steps ≡ limit - ran.left → r.walked ≡ 0 → r.reused ≡ 0 → r.fresh ≡ limit - ran.left
        → r.length ≡ ran.at
        → r.values ≡ padded (take v ran.store.values) → r.changes ≡ zeros most_variables
        → answer_of r ≡ (answered (length now) (accepted (finished v inputs limit d))).answer
    unfolding answered all_fresh
    answer_is r a b w u f l vs cs =
        ap₂ {C = PaperAnswer} (λ (o : Outcome) (n : ℕ). record { number = number_of o; steps = n; counts = record { walked = r.walked; reused = r.reused; fresh = r.fresh }; length = r.length; values = r.values; changes = r.changes }) a (b ∙ steps_are ∙ sym (all_fresh_lem d.steps))
        ∙ ap₂ {C = PaperAnswer} (λ (c : Counts) (n : ℕ). record { number = 0; steps = steps_of (all_fresh d.steps); counts = c; length = n; values = r.values; changes = r.changes }) counts (l ∙ long)
        ∙ ap₂ {C = PaperAnswer} (λ (ws zs : List ℤ). record { number = 0; steps = steps_of (all_fresh d.steps); counts = all_fresh d.steps; length = length words; values = ws; changes = zs }) (vs ∙ ap (λ (l : List ℤ). padded (take v l)) e.stores) cs
      where
        counts : ◌≡◌ {A = Counts} (record { walked = r.walked; reused = r.reused; fresh = r.fresh }) (all_fresh d.steps)
        counts = ap₂ {C = Counts} (λ (x y : ℕ). record { walked = x; reused = y; fresh = r.fresh }) w u
            ∙ ap {B = Counts} (λ (n : ℕ). record { walked = 0; reused = 0; fresh = n }) (f ∙ steps_are)

-- ---- a refused call

pub cleared_whole : (out : List ℤ) {after : List ℤ} → after ≡ take 0 out ++ zeros (length out - 0) → after ≡ zeros (length out)
cleared_whole out e = let all : length out - 0 ≡ length out = omega arith in e ∙ ap zeros all
