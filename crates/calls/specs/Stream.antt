-- What the contracts of `calls` cite: the numbers of a call, and their limits.
-- Assumes nothing.
use Rattle.std.specs.Prelude.{◌≡◌, List, ℕ, ◌<◌, ◌≤◌, Option, IfSome, Result, IfOk, MatchResult}
use Rattle.text.specs.Words.{u32}
use Rattle.calls.specs.declared.stream.Call.{Call}
use Rattle.calls.specs.declared.stream.CallError.{CallError}
use Rattle.calls.specs.declared.stream.CallError.TheVariants.{Unknown}
use Rattle.calls.specs.declared.stream.Kind.{Kind}
use Rattle.calls.specs.declared.stream.Kind.TheVariants.{Check, Run, Patch}

-- the number that stands for a kind
abbrev pub code_of : Kind → ℕ
code_of Check = 0
code_of Run = 1
code_of Patch = 2

-- the kind of a number, or why it has none
abbrev pub Decodes : ℕ → Result Kind CallError → Type 0
Decodes code r = MatchResult r (λ kind. code_of kind ≡ code) (λ e. (e ≡ Unknown) × (2 < code))

-- the sizes of a call are within their limits, its old words are among its words, and a run has a word, its limit
pub record Within (c : Call) : Type 0 where
  pub bytes : c.bytes ≤ 8192
  pub words : c.words ≤ 4096
  pub old : c.old ≤ c.words
  pub room : c.room ≤ 4096
  pub some : c.kind ≡ Run → 1 ≤ c.words

-- a call's numbers are those of the bytes that open it
pub record Opens (head : List ℕ) (c : Call) : Type 0 where
  pub kind : code_of c.kind ≡ u32 head 0
  pub bytes : c.bytes ≡ u32 head 4
  pub words : c.words ≡ u32 head 8
  pub old : c.old ≡ u32 head 12
  pub room : c.room ≡ u32 head 16

-- the call that some bytes open, or why they open none
abbrev pub Opened : List ℕ → Result Call CallError → Type 0
Opened head r = MatchResult r (Opens head) (λ e. (e ≡ Unknown) × (2 < u32 head 0))

-- where a call stands next, it is within its limits
abbrev pub Fitting : Result (Option Call) CallError → Type 0
Fitting asked = IfOk asked (λ next. IfSome next Within)
