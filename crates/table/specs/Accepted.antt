-- A table that the check accepts, and that there is one program at most that it is.
-- Assumes nothing.
use Rattle.std.specs.Prelude.{◌≡◌, ℕ, List}
use Rattle.std.proofs.Math.Path.{refl, sym, ap, ◌∙◌}
use mathlib.Core.Path.{subst⁻¹, subst⁻¹_refl, path_j', contract}
use Rattle.rules.specs.Outcome.{Outcome, accepted, refused}
use Rattle.rules.specs.Table.{Program, check}

-- these bytes are the table of a program
abbrev pub AcceptedTable : List ℕ → Type 0
AcceptedTable bytes = (p : Program) × (check bytes ≡ accepted p)

-- ---- it is the table of one program alone, in one way: a struct may carry the fact

-- the programs that an outcome has, by cases
Having : Outcome Program → Type 0
Having (accepted p) = (q : Program) × (p ≡ q)
Having (refused r) = ⊥

having_once : (o : Outcome Program) → IsProp (Having o)
unfolding Having
having_once (accepted p) x y = sym (contract x.1) ∙ contract y.1
having_once (refused r) x y = absurd x

back : (o : Outcome Program) → Having o → (p : Program) × (o ≡ accepted p)
unfolding Having
back (accepted p) x = (x.0, ap accepted x.1)
back (refused r) x = absurd x

there : (o : Outcome Program) → (p : Program) × (o ≡ accepted p) → Having o
unfolding Having
there o x = subst⁻¹ Having x.1 (x.0, refl)

round : (o : Outcome Program) (p : Program) (e : o ≡ accepted p) → back o (there o (p, e)) ≡ (p, e)
unfolding Having back there
round o p e =
    path_j' (λ (m : Outcome Program) (d : m ≡ accepted p). ◌≡◌ {A = (q : Program) × (m ≡ accepted q)} (back m (there m (p, d))) (p, d))
    (ap (back (accepted p)) (subst⁻¹_refl Having {x = accepted p} (p, refl))) e

pub accepted_once : (bytes : List ℕ) → IsProp (AcceptedTable bytes)
accepted_once bytes x y =
    sym (round (check bytes) x.0 x.1) ∙ ap (back (check bytes)) (having_once (check bytes) (there (check bytes) x) (there (check bytes) y)) ∙ round (check bytes) y.0 y.1
