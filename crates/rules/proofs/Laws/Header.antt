-- What the header of an accepted table says: how many variables and nodes there are at most, and the exact byte count.
-- Assumes nothing.
use Rattle.std.specs.Prelude.{◌≡◌, refl, ℕ, ◌+◌, ◌*◌, ◌≤◌, Bool, true, false, List, length, take, drop, leb, eqb}
use Rattle.std.proofs.Common.{◌∙◌, subst, arith, length-drop, length-take-le, leb-true, eqb-true}
use Rattle.std.proofs.lemmas.List.{length-map}
use Rattle.rules.specs.Outcome.{Refusal, accepted, need, header_wrong}
use Rattle.rules.specs.Value.{most_variables}
use Rattle.rules.specs.Table.{u16, header_length, most_nodes, marked, variables, nodes, nodes_at, total, check_header, type_bytes, ty_of, types_of, Program, check}
use Rattle.rules.proofs.Laws.Outcome.{Holds, value, vacant, holds_need, holds_of}
use Rattle.rules.proofs.Laws.Parts.{through}

pub record Sized (bytes : List ℕ) : Type 0 where
  pub few : variables bytes ≤ 32
  pub small : nodes bytes ≤ 512
  pub whole : length bytes ≡ 16 + variables bytes + 8 * nodes bytes

last_need : {Q : Unit {0} → Type 0} (b : Bool) (r : Refusal) → (b ≡ true → Q tt) → Holds Q (need b r)
last_need true r h = value (h refl)
last_need false r h = vacant

header_sized : (bytes : List ℕ) → Holds (λ u. Sized bytes) (check_header bytes)
unfolding check_header header_length most_variables most_nodes total nodes_at
header_sized bytes =
    holds_need (leb 16 (length bytes)) header_wrong _ λ long.
    holds_need (marked bytes) header_wrong _ λ mark.
    holds_need (leb 1 (variables bytes)) header_wrong _ λ one.
    holds_need (leb (variables bytes) 32) header_wrong _ λ few.
    holds_need (leb 1 (nodes bytes)) header_wrong _ λ some.
    holds_need (leb (nodes bytes) 512) header_wrong _ λ small.
    holds_need (eqb (u16 bytes 8) 16) header_wrong _ λ types.
    holds_need (eqb (u16 bytes 10) (16 + variables bytes)) header_wrong _ λ start.
    holds_need (eqb (u16 bytes 12) (16 + variables bytes + 8 * nodes bytes)) header_wrong _ λ end.
    holds_need (eqb (u16 bytes 14) 0) header_wrong _ λ zero.
    last_need (eqb (length bytes) (16 + variables bytes + 8 * nodes bytes)) header_wrong λ whole.
    record {
      few = leb-true (variables bytes) 32 few;
      small = leb-true (nodes bytes) 512 small;
      whole = eqb-true (length bytes) (16 + variables bytes + 8 * nodes bytes) whole;
    }

types_of_lem : (bytes : List ℕ) → Sized bytes → length (types_of bytes) ≡ variables bytes
unfolding types_of type_bytes header_length
types_of_lem bytes s =
    length-map (take (variables bytes) (drop 16 bytes)) ty_of
    ∙ length-take-le (variables bytes) (drop 16 bytes) (rw (length-drop 16 bytes) (omega (arith, s.whole)))

pub sized : (bytes : List ℕ) (p : Program) → check bytes ≡ accepted p → Sized bytes
sized bytes p checked = holds_of (subst (Holds (λ u. Sized bytes)) (through bytes p checked).header (header_sized bytes))

-- each variable has its type
pub types_long : (bytes : List ℕ) (p : Program) → check bytes ≡ accepted p → length (types_of bytes) ≡ variables bytes
types_long bytes p checked = types_of_lem bytes (sized bytes p checked)
