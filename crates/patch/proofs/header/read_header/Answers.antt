-- `patch::header::read_header` meets its contract: a record that fails a test is no whole header; one that passes all of them names this.
-- Assumes nothing.
use mathlib.Core.Path.{◌≡◌, refl, sym, ap, ◌∙◌}
use Prim.Native.Nat.{ℕ, ◌+◌, ◌*◌, ◌≤◌}
use native.Mathlib.Omega.{arith}
use mathlib.Core.Bool.{true, true≢false}
use lib.ListN.{length, take, drop}
use mathlib.Core.List.{List}
use lib.IntN.{ℤ, pos, nat_abs}
use mir.Syntax.{w64}
use mir.ValLaws.{to_z-of_z, to_z_pos}
use borrow.Author.Rules.{rules}
use Rattle.numbers.specs.Signed.{between}
use Rattle.rules.specs.Value.{at, fit}
use Rattle.rules.specs.Table.{types_of}
use Rattle.rules.specs.Run.{most_steps}
use Rattle.rules.specs.Call.{length_of, limit_of, steps_in, inputs_of, outputs_of}
use Rattle.run.specs.Laws.Fitting.{count_is}
use Rattle.pieces.specs.Laws.Changes.{chosen_in, kept}
use Rattle.patch.proofs.Inputs.{many, types_inside}
use Rattle.patch.proofs.Headers.{between_as, broken_header, whole_header, inputs_are, outputs_are, size_count, size_cast}
use Rattle.patch.proofs.header.read_header.Goals as goal
use Rattle.patch.proofs.header.read_header.Goals.{After-pair-v, After-within, In-Some, After-within-2, After-fits, then-fits, else-fits}

-- the count that was read is the header's
count : (c : After-pair-v) → c.pair-v.result ≡ length (types_of c.args.t.now)
count c = count_is c.args.t.now c.pair-v.ensures.0 ∙ sym (many c.requires)

-- each test as the definition has it
sizes : (c : After-within) → c.within.result ≡ between (pos (3 + 2 * length (types_of c.args.t.now))) (pos (length c.args.old.now)) (length_of c.args.old.now)
unfolding length_of
sizes c =
    c.within.ensures ∙ between_as (to_z_pos w64 (3 + 2 * c.pair-v.result) (omega (arith, c.pair-v.ensures.1)) ∙ ap (λ (i : ℕ). pos (3 + 2 * i)) (count (goal.at-After-within c).After-pair-v))
    (to_z_pos w64 _ (omega arith)) (to_z-of_z w64 _ (search rules))

limits : (c : In-Some) → (between (pos 1) most_steps (limit_of c.args.old.now) ≡ true) × (c.in-Some.limit ≡ nat_abs (limit_of c.args.old.now))
unfolding limit_of
limits c =
    let word : kept (at c.args.old.now 1) ≡ at c.args.old.now 1 = to_z-of_z w64 _ (search rules) in
    chosen_in _ _ (rw word at (sym c.read_limit.ensures ∙ c.in-Some.is))

steps : (c : After-within-2) → c.within-2.result ≡ between (pos 1) (limit_of c.args.old.now) (steps_in c.args.old.now)
unfolding limit_of steps_in
steps c = c.within-2.ensures ∙ between_as refl (to_z-of_z w64 _ (search rules)) (to_z-of_z w64 _ (search rules))

pub returns-then-old-least : goal.returns-then-old-least
returns-then-old-least c =
    broken_header c.requires c.args.old.now λ h w. omega (arith, w.room, count (goal.at.returns-then-old-least c).After-pair-v, c.if-old-least.true)

pub returns-then-not-within : goal.returns-then-not-within
returns-then-not-within c =
    broken_header c.requires c.args.old.now λ h w.
    true≢false (sym w.sized ∙ sym (sizes (goal.at.returns-then-not-within c).After-within) ∙ c.if-not-within.true)

pub returns-in_default : goal.returns-in_default
unfolding limit_of
returns-in_default c = broken_header c.requires c.args.old.now λ h w.
    let word : kept (at c.args.old.now 1) ≡ at c.args.old.now 1 = to_z-of_z w64 _ (search rules) in
    c.in_default.not-Some _ (rw (word, w.limited) at c.read_limit.ensures)

pub returns-then-not-within-2 : goal.returns-then-not-within-2
returns-then-not-within-2 c =
    broken_header c.requires c.args.old.now λ h w.
    true≢false (sym w.stepped ∙ sym (steps (goal.at.returns-then-not-within-2 c).After-within-2) ∙ c.if-not-within-2.true)

pub fits-requires : goal.fits-requires
fits-requires c = types_inside c.requires

pub fits-requires-then-fits : goal.fits-requires-then-fits
fits-requires-then-fits c = types_inside c.requires

-- both tests of values, by whether the first was passed
inputs : (c : After-fits) → c.fits.result ≡ fit (types_of c.args.t.now) (inputs_of (types_of c.args.t.now) c.args.old.now)
inputs c = c.fits.ensures ∙ ap (fit (types_of c.args.t.now)) (inputs_are c.requires c.args.old.now (count_is c.args.t.now c.pair-v.ensures.0))

pub returns-then-not-fits : goal.returns-then-not-fits
returns-then-not-fits c =
    let types = types_of c.args.t.now in
    let old : List ℤ = c.args.old.now in
    let first = inputs (goal.at.returns-then-not-fits c).After-fits in
    let place : take _ (drop _ old) ≡ outputs_of types old = outputs_are c.requires old (count_is c.args.t.now c.pair-v.ensures.0) in
    broken_header c.requires old λ h w.
    elim c.if-fits.branch [
      | then-fits b ↦ true≢false (sym w.outputs ∙ sym (b.fits-then-fits.ensures ∙ ap (fit types) place) ∙ sym b.value-is ∙ c.if-not-fits.true)
      | else-fits b ↦ true≢false (sym w.inputs ∙ sym first ∙ b.if-fits.false)
    ]

-- what a record that passed every test before the last two is
passed : (c : After-fits) → between (pos (3 + 2 * length (types_of c.args.t.now))) (pos (length c.args.old.now)) (length_of c.args.old.now) ≡ true
passed c = sym (sizes (goal.at-After-fits c).After-within) ∙ c.if-not-within.false

pub overflow_cast-result : goal.overflow_cast-result
unfolding length_of
overflow_cast-result c =
    let n = size_count (at c.args.old.now 0) (passed (goal.at.overflow_cast-result c).After-fits) in
    size_cast (at c.args.old.now 0) (length c.args.old.now) (search rules) n.0 n.1.1 (omega arith)

pub returns : goal.returns
unfolding length_of
returns c =
    let types = types_of c.args.t.now in
    let old : List ℤ = c.args.old.now in
    let first = inputs (goal.at.returns c).After-fits in
    let place : take _ (drop _ old) ≡ outputs_of types old = outputs_are c.requires old (count_is c.args.t.now c.pair-v.ensures.0) in
    let room : 3 + 2 * length types ≤ length old = omega (arith, count (goal.at.returns c).After-pair-v, c.if-old-least.false) in
    let limit = limits (goal.at.returns c).In-Some in
    let stepped = sym (steps (goal.at.returns c).After-within-2) ∙ c.if-not-within-2.false in
    let word : kept (at old 0) ≡ at old 0 = to_z-of_z w64 _ (search rules) in
    elim c.if-fits.branch [
      | then-fits b ↦ whole_header c.requires old room (passed (goal.at.returns c).After-fits) limit.0 stepped (sym first ∙ b.if-fits.true)
          (sym (b.fits-then-fits.ensures ∙ ap (fit types) place) ∙ sym b.value-is ∙ c.if-not-fits.false)
          (record { length = ap nat_abs word; limit = limit.1 })
      | else-fits b ↦ absurd (true≢false (sym c.if-not-fits.false ∙ b.value-is ∙ b.if-fits.false))
    ]
