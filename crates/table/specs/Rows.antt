-- A node's list is written into its row: the flagged variables one by one, and their count before them. Rows below stay as they are.
-- Assumes nothing.
use Rattle.std.specs.Prelude.{◌≡◌, ℕ, zero, suc, ◌+◌, ◌*◌, ◌≤◌, ◌<◌, Bool, true, false}
use Rattle.std.proofs.Math.Path.{refl, sym, ap, ap₂}
use Rattle.std.proofs.Common.{◌∙◌, add-zero, zero-add, suc-add, length-set, length-append, get_or-take, length-take-le}
use native.Mathlib.Omega.{arith}
use mathlib.Core.List.{List, [], ◌∷◌, ◌++◌, append_assoc, append-nil}
use Rattle.std.proofs.Math.ListN.{length, get_or, take, drop, set}
use Rattle.std.proofs.lemmas.List.Edits.{sets, sets-eq}
use Rattle.std.proofs.Math.Seq.{length-sets, get_or-set_same, take-take, take-nil, take_at, drop_at, take-set-le, drop-set-lt}
use Rattle.rules.proofs.Laws.Rising.{rising, rising_take, alone}
use Rattle.table.specs.Lists.{list_at}

-- the list of a node written into its row
unfoldable pub laid : List ℕ → ℕ → List ℕ → List ℕ
laid lists n vs = set (sets lists (33 * n + 1) vs) (33 * n) (length vs)

take_sets : (k : ℕ) (l : List ℕ) (i : ℕ) (vs : List ℕ) → k ≤ i → take k (sets l i vs) ≡ take k l
take_sets k l i [] h = refl
take_sets k l i (v ∷ vs) h = take_sets k (set l i v) (suc i) vs (omega arith) ∙ take-set-le k l i v h

take_of_drop : (k c : ℕ) (l : List ℕ) → take c (drop k l) ≡ drop k (take (k + c) l)
take_of_drop zero c l = ap (λ (n : ℕ). take n l) (sym (zero-add c))
take_of_drop (suc k) c [] = take-nil c ∙ sym (ap (drop (suc k)) (take-nil (suc k + c)))
take_of_drop (suc k) c (x ∷ l) = take_of_drop k c l ∙ ap (λ (n : ℕ). drop (suc k) (take n (x ∷ l))) (sym (suc-add k c))

-- ---- a list is written

-- the flagged variables below v are written behind the row's first byte
pub record Laying (before : List ℕ) (n : ℕ) (flags : List Bool) (bound : ℕ) (lists : List ℕ) (count v : ℕ) : Type 0 where
  pub within : v ≤ bound
  pub few : count ≤ v
  pub counted : count ≡ length (rising 0 (take v flags))
  pub lain : lists ≡ sets before (33 * n + 1) (rising 0 (take v flags))

sets_more : (l : List ℕ) (i : ℕ) (vs : List ℕ) (x : ℕ) → set (sets l i vs) (i + length vs) x ≡ sets l i (vs ++ x ∷ [])
sets_more l i [] x = ap (λ (k : ℕ). set l k x) (add-zero i)
sets_more l i (v ∷ vs) x = ap (λ (k : ℕ). set (sets (set l i v) (suc i) vs) k x) (omega arith) ∙ sets_more (set l i v) (suc i) vs x

module _ (before : List ℕ) (n : ℕ) (flags : List Bool) (bound : ℕ) (enough : bound ≤ length flags) where
  pub laying_none : Laying before n flags bound before 0 0
  unfolding rising
  laying_none = record { within = omega arith; few = omega arith; counted = refl; lain = refl }

  module _ (lists : List ℕ) (count v : ℕ) (so_far : Laying before n flags bound lists count v) where
    more : v < bound → rising 0 (take (v + 1) flags) ≡ rising 0 (take v flags) ++ alone (get_or flags v false) v
    more h = rising_take flags v (omega arith)

    pub laying_set : v < bound → get_or flags v false ≡ true → Laying before n flags bound (set lists (33 * n + 1 + count) v) (count + 1) (v + 1)
    laying_set h on =
        let e : rising 0 (take (v + 1) flags) ≡ rising 0 (take v flags) ++ v ∷ [] = more h ∙ ap (λ (f : Bool). rising 0 (take v flags) ++ alone f v) on in
        record {
          within = omega arith;
          few = omega (arith, so_far.few);
          counted = ap (λ (k : ℕ). k + 1) so_far.counted ∙ sym (ap length e ∙ length-append (rising 0 (take v flags)) (v ∷ []));
          lain = ap₂ (λ (l : List ℕ) (k : ℕ). set l (33 * n + 1 + k) v) so_far.lain so_far.counted
              ∙ sets_more before (33 * n + 1) (rising 0 (take v flags)) v ∙ ap (sets before (33 * n + 1)) (sym e);
        }

    pub laying_pass : v < bound → get_or flags v false ≡ false → Laying before n flags bound lists count (v + 1)
    laying_pass h off =
        let e : rising 0 (take (v + 1) flags) ≡ rising 0 (take v flags)
        = more h ∙ ap (λ (f : Bool). rising 0 (take v flags) ++ alone f v) off ∙ append-nil (rising 0 (take v flags)) in
        record {
          within = omega arith;
          few = omega (arith, so_far.few);
          counted = so_far.counted ∙ ap length (sym e);
          lain = so_far.lain ∙ ap (sets before (33 * n + 1)) (sym e);
        }

    pub laying_done : bound ≤ v → set lists (33 * n) count ≡ laid before n (rising 0 (take bound flags))
    unfolding laid
    laying_done h =
        let e : v ≡ bound = omega (arith, so_far.within) in
        ap₂ (λ (l : List ℕ) (k : ℕ). set l (33 * n) k) so_far.lain so_far.counted
        ∙ ap (λ (k : ℕ). set (sets before (33 * n + 1) (rising 0 (take k flags))) (33 * n) (length (rising 0 (take k flags)))) e

-- ---- what a written list is

module _ (lists : List ℕ) (n : ℕ) (vs : List ℕ) (long : 33 * n + 1 + length vs ≤ length lists) where
  pub laid_count : get_or (laid lists n vs) (33 * n) 0 ≡ length vs
  unfolding laid
  laid_count = get_or-set_same (sets lists (33 * n + 1) vs) (33 * n) (length vs) 0 (rw (length-sets lists (33 * n + 1) vs) (omega arith))

  laid_behind : drop (33 * n + 1) (laid lists n vs) ≡ vs ++ drop (33 * n + 1 + length vs) lists
  unfolding laid
  laid_behind =
      drop-set-lt (33 * n + 1) (sets lists (33 * n + 1) vs) (33 * n) (length vs) (omega arith)
      ∙ ap (drop (33 * n + 1)) (sets-eq vs lists (33 * n + 1) long ∙ append_assoc (take (33 * n + 1) lists) vs (drop (33 * n + 1 + length vs) lists))
      ∙ drop_at (take (33 * n + 1) lists) (vs ++ drop (33 * n + 1 + length vs) lists) (33 * n + 1) (length-take-le (33 * n + 1) lists (omega arith))

  pub laid_list : list_at (laid lists n vs) n ≡ vs
  unfolding list_at
  laid_list =
      ap₂ (λ (c : ℕ) (l : List ℕ). take c l) laid_count laid_behind
      ∙ take_at vs (drop (33 * n + 1 + length vs) lists) (length vs) refl

  pub laid_kept : take (33 * n) (laid lists n vs) ≡ take (33 * n) lists
  unfolding laid
  laid_kept = take-set-le (33 * n) (sets lists (33 * n + 1) vs) (33 * n) (length vs) (omega arith) ∙ take_sets (33 * n) lists (33 * n + 1) vs (omega arith)

pub laid_long : (lists : List ℕ) (n : ℕ) (vs : List ℕ) → length (laid lists n vs) ≡ length lists
unfolding laid
laid_long lists n vs = length-set (sets lists (33 * n + 1) vs) (33 * n) (length vs) ∙ length-sets lists (33 * n + 1) vs

-- lists that are alike up to a row agree on the nodes below it
module _ (before after : List ℕ) (n : ℕ) (alike : take (33 * n) after ≡ take (33 * n) before) (m : ℕ) (below : m < n) where
  pub same_count : get_or after (33 * m) 0 ≡ get_or before (33 * m) 0
  same_count =
      let h : 33 * m < 33 * n = omega arith in
      sym (get_or-take (33 * n) after (33 * m) 0 h) ∙ ap (λ (l : List ℕ). get_or l (33 * m) 0) alike ∙ get_or-take (33 * n) before (33 * m) 0 h

  pub same_list : get_or before (33 * m) 0 ≤ 32 → list_at after m ≡ list_at before m
  unfolding list_at
  same_list few =
      let c = get_or before (33 * m) 0 in
      let k = 33 * m + 1 in
      let h : k + c ≤ 33 * n = omega arith in
      ap (λ (d : ℕ). take d (drop k after)) same_count
      ∙ take_of_drop k c after
      ∙ ap (drop k) (sym (take-take (k + c) (33 * n) after h) ∙ ap (take (k + c)) alike ∙ take-take (k + c) (33 * n) before h)
      ∙ sym (take_of_drop k c before)
