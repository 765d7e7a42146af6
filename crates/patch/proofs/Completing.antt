-- The end of a patch: the header comes to stand in front of the root's entry, and zeros behind it.
-- Assumes nothing.
use mathlib.Core.Path.{◌≡◌, sym, ap, ap₂, ◌∙◌}
use Prim.Native.Nat.{ℕ, ◌+◌, ◌-◌, ◌*◌, ◌≤◌}
use native.Mathlib.Omega.{arith}
use mathlib.Core.List.{List, ◌++◌}
use lib.ListN.{length, take, set, length-append}
use lib.Seq.{take_at}
use lib.IntN.{ℤ, pos}
use Rattle.std.proofs.Common.{length-take-le}
use Rattle.numbers.specs.Lay.{lay, length_lay}
use Rattle.rules.specs.Outcome.{accepted}
use Rattle.rules.specs.Value.{zeros, most_variables, padded}
use Rattle.rules.specs.Patch.{Counts, Visited, steps_of}
use Rattle.rules.specs.Run.{headed, record_of}
use Rattle.rules.specs.Call.{Answer as PaperAnswer, answered}
use Rattle.table.specs.Paper.{number_of, answer_of}
use Rattle.table.specs.declared.answer.Outcome.{Outcome}
use Rattle.table.specs.declared.answer.Outcome.TheVariants.{Accepted}
use Rattle.table.specs.declared.answer.Store.{Store}
use Rattle.table.specs.declared.answer.Answer.{Answer}
use Rattle.run.specs.Laws.Completed.{record_laid, cut_laid, record_long}
use Rattle.pieces.specs.declared.entry.Reached.{Reached}
use Rattle.patch.specs.Call.{Completable, finished}

-- the first words of what is padded
pub padded_front : (v : ℕ) (words : List ℤ) → length words ≡ v → take v (padded words) ≡ words
unfolding padded
padded_front v words e = take_at words (zeros (most_variables - length words)) v e

module _ {v limit : ℕ} {inputs outputs : Store} {r : Reached} {now : List ℤ} (h : Completable v limit inputs outputs r now) where
  abbrev w : Visited
  w = h.visited

  abbrev steps : ℕ
  steps = steps_of w.counts

  -- the changes are those of the table's variables
  pub moved_few : length (take v r.changes.values) ≤ most_variables
  unfolding most_variables
  moved_few = omega (arith, length-take-le v r.changes.values (omega (arith, h.few, h.long)), h.few)

  pub counted : r.walked + r.reused + r.left ≤ limit
  unfolding steps_of
  counted = omega (arith, h.leaves, h.walks, h.reuses)

  steps_are : limit - r.left ≡ steps
  steps_are = omega (arith, h.leaves)

  fresh_are : limit - r.left - r.walked - r.reused ≡ w.counts.fresh
  unfolding steps_of
  fresh_are = omega (arith, h.leaves, h.walks, h.reuses)

  abbrev words : List ℤ
  words = record_of limit steps h.ins h.outs w.words

  long : r.at ≡ length words
  long = omega (arith, h.ends, record_long limit steps h.ins h.outs w.words, h.each_in, h.each_out)

  long_body : r.at ≡ headed + length (h.ins ++ (h.outs ++ w.words))
  long_body = omega (arith, h.ends, h.each_in, h.each_out, length-append h.ins (h.outs ++ w.words), length-append h.outs w.words)

  out_long : length now ≡ length h.before
  out_long = ap length h.lays ∙ length_lay h.before (3 + 2 * v) w.words

  ins_are : take v inputs.values ≡ h.ins
  ins_are = ap (take v) h.holds_in ∙ padded_front v h.ins h.each_in

  outs_are : take v outputs.values ≡ h.outs
  outs_are = ap (take v) h.holds_out ∙ padded_front v h.outs h.each_out

  pub buffer_is : {three four five after : List ℤ} {second : ℕ}
      → three ≡ set (set (set now 0 (pos r.at)) 1 (pos limit)) 2 (pos (limit - r.left)) → four ≡ lay three 3 (take v inputs.values)
      → second ≡ 3 + length (take v inputs.values) → five ≡ lay four second (take v outputs.values) → after ≡ take r.at five ++ zeros (length five - r.at)
      → after ≡ (answered (length now) (accepted (finished v limit h.ins h.outs w))).buffer
  unfolding answered record_of
  buffer_is {three = three} {four = four} {five = five} a₃ a₄ at a₅ a₆ =
      let second : 3 + length (take v inputs.values) ≡ 3 + v = ap (λ (ws : List ℤ). 3 + length ws) ins_are ∙ ap (λ (n : ℕ). 3 + n) h.each_in in
      let front = ap₂ {C = List ℤ} (λ (l : List ℤ) (n : ℕ). set (set l 0 (pos n)) 1 (pos limit)) h.lays long_body in
      let laid : five ≡ lay h.before 0 words =
      a₅ ∙ ap (λ (n : ℕ). lay four n (take v outputs.values)) (at ∙ second)
      ∙ ap₂ {C = List ℤ} (λ (l ws : List ℤ). lay l (3 + v) ws)
      (a₄ ∙ ap₂ {C = List ℤ} (λ (l ws : List ℤ). lay l 3 ws) (a₃ ∙ ap₂ {C = List ℤ} (λ (l : List ℤ) (n : ℕ). set l 2 (pos n)) front steps_are) ins_are) outs_are
      ∙ record_laid h.before h.ins h.outs w.words (pos (headed + length (h.ins ++ (h.outs ++ w.words)))) (pos limit) (pos steps) v
      h.each_in h.each_out in
      let fits : length words ≤ length h.before = omega (arith, h.room, long, out_long) in
      let same : length five ≡ length now = ap length laid ∙ length_lay h.before 0 words ∙ sym out_long in
      a₆ ∙ ap₂ {C = List ℤ} (λ (n m : ℕ). take n five ++ zeros (m - n)) long same
      ∙ ap (λ (l : List ℤ). l ++ zeros (length now - length words)) (ap (take (length words)) laid ∙ cut_laid h.before words fits)

  pub answer_is : (a : Answer) → a.outcome ≡ Accepted → a.steps ≡ limit - r.left → a.walked ≡ r.walked → a.reused ≡ r.reused
      → a.fresh ≡ limit - r.left - r.walked - r.reused
      → a.length ≡ r.at → a.values ≡ outputs.values → a.changes ≡ padded (take v r.changes.values)
      → answer_of a ≡ (answered (length now) (accepted (finished v limit h.ins h.outs w))).answer
  unfolding answered
  answer_is a o s u x f l vs cs =
      ap₂ {C = PaperAnswer} (λ (q : Outcome) (n : ℕ). record { number = number_of q; steps = n; counts = record { walked = a.walked; reused = a.reused; fresh = a.fresh }; length = a.length; values = a.values; changes = a.changes }) o (s ∙ steps_are)
      ∙ ap₂ {C = PaperAnswer} (λ (c : Counts) (n : ℕ). record { number = 0; steps = steps; counts = c; length = n; values = a.values; changes = a.changes }) counts (l ∙ long)
      ∙ ap₂ {C = PaperAnswer} (λ (ws zs : List ℤ). record { number = 0; steps = steps; counts = w.counts; length = length words; values = ws; changes = zs }) (vs ∙ h.holds_out) (cs ∙ ap (λ (ws : List ℤ). padded (take v ws)) h.changes)
    where
      counts : ◌≡◌ {A = Counts} (record { walked = a.walked; reused = a.reused; fresh = a.fresh }) w.counts
      counts = ap₂ {C = Counts} (λ (i j : ℕ). record { walked = i; reused = j; fresh = a.fresh }) (u ∙ h.walks) (x ∙ h.reuses)
          ∙ ap {B = Counts} (λ (n : ℕ). record { walked = w.counts.walked; reused = w.counts.reused; fresh = n }) (f ∙ fresh_are)
