-- Laws of sessions: the tests of the header in a row, how many words there are, and the record that a patch hands on.
-- Assumes nothing.
use mathlib.Core.Path.{◌≡◌, refl, sym, ap, ap₂, ◌∙◌}
use mathlib.Core.Bool.{Bool, true, false, ◌&&◌, true≢false, false≢true}
use mathlib.Core.List.{List, [], ◌∷◌, ◌++◌}
use Prim.Native.Nat.{ℕ, zero, suc, ◌+◌, ◌-◌, ◌*◌, ◌≤◌}
use native.Mathlib.Omega.{arith}
use lib.ListN.{length, take, drop, length-drop}
use lib.Dec.{leb, eqb}
use lib.Seq.{take_all, take-suc}
use lib.IntN.{ℤ, pos}
use borrow.Author.Tests.{ne_eqb, eq-eqb, leb-true}
use Rattle.numbers.specs.Laws.{and_left, and_right}
use Rattle.rules.specs.Table.{u16, check}
use Rattle.std.specs.Prelude.{Result, Ok, Err, ⊤}
use Rattle.rules.specs.Outcome.{accepted, refused, choose}
use Rattle.rules.specs.Outcome as Paper
use Rattle.rules.specs.Value.{at}
use Rattle.rules.specs.Call.{Called, IsCheck, call_check, IsRun, call_run, IsPatch, call_patch}
use Rattle.rules.proofs.Laws.Answer.{number_some}
use Rattle.rules.proofs.Laws.Header.{Sized, sized}
use Rattle.table.specs.Paper.{number_of, reason_of, outcome_of, answer_of}
use Rattle.table.specs.declared.answer.Answer.{Answer}
use Rattle.table.specs.declared.answer.Refusal.{Refusal}
use Rattle.table.specs.declared.answer.Outcome.{Outcome}
use Rattle.table.specs.declared.answer.Outcome.TheVariants.{Accepted, Refused}
use Rattle.text.specs.Words.{Decoded}
use Rattle.patchlist.specs.Session.{opens, kept, handed, handed_on, words_of, calls_end, words_end, table_end, session_end}

-- ---- the header

module _ (s : List ℕ) where
  -- what a session that opens has
  pub opened : opens s ≡ true → (8 ≤ length s) × (u16 s 6 ≤ 64) × (8 + u16 s 2 ≤ length s)
  unfolding opens
  opened o =
      let first : (eqb (u16 s 0) 8 && (eqb (u16 s 4) (8 + u16 s 2) && (leb (u16 s 6) 64 && leb (8 + u16 s 2) (length s)))) ≡ true
      = and_right (leb 8 (length s)) _ o in
      let last : (leb (u16 s 6) 64 && leb (8 + u16 s 2) (length s)) ≡ true = and_right (eqb (u16 s 4) (8 + u16 s 2)) _ (and_right (eqb (u16 s 0) 8) _ first) in
      (leb-true _ _ (and_left (leb 8 (length s)) _ o), leb-true _ _ (and_left (leb (u16 s 6) 64) _ last), leb-true _ _ (and_right (leb (u16 s 6) 64) _ last))

-- ---- the number of an outcome

-- a call that is refused has a number above 0
refused_some : {r : Outcome} (q : Refusal) → r ≡ Refused q → number_of r ≡ 0 → ⊥
refused_some q e z = omega (arith, number_some (reason_of q), ap number_of e, z)

accepted_of : {A : Type 0} (m : Paper.Outcome A) → 0 ≡ Paper.number_of m → (a : A) × (m ≡ accepted a)
unfolding Paper.number_of
accepted_of (accepted a) e = (a, refl)
accepted_of (refused r) e = absurd (omega (arith, number_some r, e))

-- ---- an accepted table

pub table_sized : (t : List ℕ) (r : Result ⊤ Refusal) {u : ⊤} → r ≡ Ok u → IsCheck t (number_of (outcome_of r)) → Sized t
unfolding IsCheck call_check
table_sized t r e h = let p = accepted_of (check t) (sym (ap (λ m. number_of (outcome_of m)) e) ∙ h) in sized t p.0 p.1

-- ---- the record that a patch hands on

kept_new : (n : ℕ) (old new : List ℤ) → n ≡ 0 → new ≡ kept n old new
kept_new zero old new e = refl
kept_new (suc n) old new e = absurd (omega (arith, e))

kept_old : (n : ℕ) (old new : List ℤ) → (n ≡ 0 → ⊥) → old ≡ kept n old new
kept_old zero old new e = absurd (e refl)
kept_old (suc n) old new e = refl

module _ (t : List ℕ) (old changes : List ℤ) (a : Answer) (new : List ℤ) (is : IsPatch t old changes (answer_of a) new) (long : length new ≡ 2048) where
  number_is : number_of a.outcome ≡ (call_patch t old changes 2048).answer.number
  number_is = rw (sym long) (ap (λ x. x.number) is.answers)

  new_is : new ≡ (call_patch t old changes 2048).buffer
  new_is = is.leaves ∙ ap (λ (n : ℕ). (call_patch t old changes n).buffer) long

  -- an accepted patch hands on the new record
  pub handed_new : a.outcome ≡ Accepted → new ≡ handed t old changes
  unfolding handed
  handed_new e = new_is ∙ kept_new _ old _ (sym number_is ∙ ap number_of e)

  -- a refused one keeps the old record
  pub handed_old : (q : Refusal) → a.outcome ≡ Refused q → old ≡ handed t old changes
  unfolding handed
  handed_old q e = kept_old _ old _ (λ z. refused_some q e (number_is ∙ z))

-- one patch after the other
module _ (t : List ℕ) (v : ℕ) (lists first : List ℤ) where
  pub none_handed : first ≡ handed_on t v lists first 0
  unfolding handed_on
  none_handed = refl

  pub next_handed : (i n : ℕ) (old : List ℤ) {after : List ℤ} → n ≡ v → old ≡ handed_on t v lists first i
      → after ≡ handed t old (take n (drop (i * v) lists)) → after ≡ handed_on t v lists first (i + 1)
  unfolding handed_on
  next_handed i n old w e f =
      let next : suc i ≡ i + 1 = omega arith in
      f ∙ ap (λ (m : ℕ). handed t old (take m (drop (i * v) lists))) w ∙ ap (λ (l : List ℤ). handed t l (take v (drop (i * v) lists))) e
      ∙ ap (handed_on t v lists first) next

-- ---- the last record of a session

chosen : (b : Bool) (one other : List ℤ) → b ≡ true → one ≡ choose b one other
chosen true one other e = refl
chosen false one other e = absurd (false≢true e)

passed_over : (b : Bool) (one other : List ℤ) → b ≡ false → other ≡ choose b one other
passed_over true one other e = absurd (true≢false e)
passed_over false one other e = refl

-- a part that goes to the end is all that is left
pub to_the_end : {A : Type 0} (xs : List A) (n : ℕ) → take (length xs - n) (drop n xs) ≡ drop n xs
to_the_end xs n = take_all (length xs - n) (drop n xs) (omega (arith, length-drop n xs))

pub first_words : (bytes : List ℕ) (words : List ℤ) (n : ℕ) → n ≤ length words → Decoded bytes n words → take n words ≡ words_of bytes n
unfolding words_of
first_words bytes words zero h d = refl
first_words bytes words (suc n) h d =
    let before : Decoded bytes n words = λ k l. d k (omega (arith, l)) in
    take-suc words n (pos 0) (omega (arith, h))
    ∙ ap₂ {C = List ℤ} (λ (xs : List ℤ) (w : ℤ). xs ++ (w ∷ [])) (first_words bytes words n (omega (arith, h)) before) (d n (omega arith))

-- words that were decoded are those of the bytes
pub words_are : (bytes : List ℕ) (words : List ℤ) (n : ℕ) → length words ≡ n → Decoded bytes (length words) words → words ≡ words_of bytes n
words_are bytes words n long d =
    sym (take_all (length words) words (omega arith)) ∙ first_words bytes words (length words) (omega arith) d ∙ ap (words_of bytes) long

module _ (t : List ℕ) (v k : ℕ) (words : List ℤ) (n : ℕ) (limit : ℤ) (a : Answer) (first : List ℤ) (width : n ≡ v) (limit_is : limit ≡ at words 0)
    (is : IsRun t (take n (drop 1 words)) limit (answer_of a) first) (long : length first ≡ 2048) where
  same_call : call_run t (take n (drop 1 words)) limit (length first) ≡ call_run t (take v (drop 1 words)) (at words 0) 2048
  same_call =
      ap (λ (m : ℕ). call_run t (take m (drop 1 words)) limit (length first)) width ∙ ap (λ (z : ℤ). call_run t (take v (drop 1 words)) z (length first)) limit_is
      ∙ ap (call_run t (take v (drop 1 words)) (at words 0)) long

  run_number : number_of a.outcome ≡ (call_run t (take v (drop 1 words)) (at words 0) 2048).answer.number
  run_number = ap (λ x. x.number) is.answers ∙ ap (λ (c : Called). c.answer.number) same_call

  run_buffer : first ≡ (call_run t (take v (drop 1 words)) (at words 0) 2048).buffer
  run_buffer = is.leaves ∙ ap (λ (c : Called). c.buffer) same_call

  pub calls_accepted : {after : List ℤ} (lists : List ℤ) → a.outcome ≡ Accepted → lists ≡ drop (1 + v) words → after ≡ handed_on t v lists first k
      → after ≡ calls_end t v k words
  unfolding calls_end
  calls_accepted lists e same f =
      f ∙ ap (λ (l : List ℤ). handed_on t v l first k) same ∙ ap (λ (b : List ℤ). handed_on t v (drop (1 + v) words) b k) run_buffer
      ∙ kept_new _ (call_run t (take v (drop 1 words)) (at words 0) 2048).buffer _ (sym run_number ∙ ap number_of e)

  pub calls_refused : (q : Refusal) → a.outcome ≡ Refused q → first ≡ calls_end t v k words
  unfolding calls_end
  calls_refused q e = run_buffer ∙ kept_old _ (call_run t (take v (drop 1 words)) (at words 0) 2048).buffer _ (λ z. refused_some q e (run_number ∙ z))

module _ (t : List ℕ) (v k : ℕ) (behind : List ℕ) (last : List ℤ) where
  pub words_wrong : (count : ℕ) → count ≡ 1 + v + k * v → (length behind ≡ 8 * count → ⊥) → last ≡ words_end t v k behind last
  unfolding words_end
  words_wrong count c e = passed_over (eqb (length behind) (8 * (1 + v + k * v))) _ last
      (ne_eqb (length behind) (8 * (1 + v + k * v)) (λ q. e (q ∙ ap (8 *◌) (sym c))))

  pub words_right : (count : ℕ) → count ≡ 1 + v + k * v → length behind ≡ 8 * count
      → {after words : List ℤ} → words ≡ words_of behind count → after ≡ calls_end t v k words → after ≡ words_end t v k behind last
  unfolding words_end
  words_right count c e w f =
      f ∙ ap (calls_end t v k) (w ∙ ap (words_of behind) c)
      ∙ chosen (eqb (length behind) (8 * (1 + v + k * v))) _ last (eq-eqb (length behind) (8 * (1 + v + k * v)) (e ∙ ap (8 *◌) c))

module _ (t : List ℕ) (k : ℕ) (behind : List ℕ) (last : List ℤ) (r : Result ⊤ Refusal) (is : IsCheck t (number_of (outcome_of r))) where
  pub table_refused : (q : Refusal) → r ≡ Err q → last ≡ table_end t k behind last
  unfolding table_end IsCheck
  table_refused q e = kept_old _ last _ (λ z. refused_some q (ap outcome_of e) (is ∙ z))

  pub table_accepted : (v : ℕ) → v ≡ u16 t 4 → {u : ⊤} → r ≡ Ok u → {after : List ℤ} → after ≡ words_end t v k behind last → after ≡ table_end t k behind last
  unfolding table_end IsCheck
  table_accepted v w e f = f ∙ ap (λ (n : ℕ). words_end t n k behind last) w ∙ kept_new _ last _ (sym is ∙ ap (λ m. number_of (outcome_of m)) e)

module _ (s : List ℕ) (last : List ℤ) where
  pub session_refused : opens s ≡ false → last ≡ session_end s last
  unfolding session_end
  session_refused e = passed_over (opens s) _ last e

  pub session_opened : opens s ≡ true → (n end k : ℕ) → n ≡ u16 s 2 → end ≡ 8 + u16 s 2 → k ≡ u16 s 6
      → {after : List ℤ} → after ≡ table_end (take n (drop 8 s)) k (take (length s - end) (drop end s)) last → after ≡ session_end s last
  unfolding session_end
  session_opened o n end k a b c f =
      f ∙ ap (λ (l : List ℕ). table_end (take n (drop 8 s)) k l last) (to_the_end s end)
      ∙ ap (λ (m : ℕ). table_end (take m (drop 8 s)) k (drop end s) last) a ∙ ap (λ (m : ℕ). table_end (take (u16 s 2) (drop 8 s)) k (drop m s) last) b
      ∙ ap (λ (m : ℕ). table_end (take (u16 s 2) (drop 8 s)) m (drop (8 + u16 s 2) s) last) c ∙ chosen (opens s) _ last o
