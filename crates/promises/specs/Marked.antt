-- The marked cases of "Numbers to hold it to", as one table with one theorem: what the definitions compute, beside what the
-- document says.
-- Assumes nothing.
use Rattle.std.specs.Prelude.{◌≡◌, refl, ℕ, List, [], ◌∷◌, map, take, ℤ, pos, negsuc}
use Rattle.rules.specs.Computing.{computing}
use Rattle.rules.specs.Call.{Called, call_run, call_patch}

-- "Program P: variables n, s (numbers); nodes 0 n, 1 s, 2 n, 3 = 1+2, 4 s := 3, 5 repeat 0: 4."
unfoldable pub program_p : List ℕ
program_p =
    0x49 ∷ 0x4d ∷ 0x50 ∷ 0x54 ∷ 2 ∷ 0 ∷ 6 ∷ 0 ∷ 16 ∷ 0 ∷ 18 ∷ 0 ∷ 66 ∷ 0 ∷ 0 ∷ 0
    ∷ 0 ∷ 0
    ∷ 3 ∷ 0 ∷ 0 ∷ 0 ∷ 0 ∷ 0 ∷ 0 ∷ 0
    ∷ 3 ∷ 1 ∷ 0 ∷ 0 ∷ 0 ∷ 0 ∷ 0 ∷ 0
    ∷ 3 ∷ 0 ∷ 0 ∷ 0 ∷ 0 ∷ 0 ∷ 0 ∷ 0
    ∷ 4 ∷ 0 ∷ 1 ∷ 0 ∷ 2 ∷ 0 ∷ 0 ∷ 0
    ∷ 17 ∷ 1 ∷ 3 ∷ 0 ∷ 0 ∷ 0 ∷ 0 ∷ 0
    ∷ 20 ∷ 0 ∷ 0 ∷ 0 ∷ 4 ∷ 0 ∷ 0 ∷ 0 ∷ []

-- a run of P, and a patch from its inputs 2 10 or others
unfoldable pub ran : ℤ → ℤ → ℤ → ℕ → Called
ran n s limit room = call_run program_p (n ∷ s ∷ []) limit room

unfoldable pub patched : ℤ → ℤ → ℤ → ℤ → Called
patched n s dn ds = call_patch program_p (ran n s (pos 100) 40).buffer (dn ∷ ds ∷ []) 40

-- what is looked at: the outcome's number, two variables' changes, reused steps, the buffer's first words
unfoldable pub outcome : Called → List ℤ
outcome c = pos c.answer.number ∷ []

unfoldable pub changes : Called → List ℤ
changes c = take 2 c.answer.changes

unfoldable pub reused : Called → List ℤ
reused c = pos c.answer.counts.reused ∷ []

unfoldable pub words : ℕ → Called → List ℤ
words n c = take n c.buffer

pub record Row : Type 0 where
  pub computed : List ℤ
  pub document : List ℤ

-- "27 100 3 2 10 2 14 5 20 3 2 2 10 4 5 1 10 2 2 12 4 5 1 12 2 2 14"
unfoldable pub record_p : List ℤ
record_p =
    pos 27 ∷ pos 100 ∷ pos 3 ∷ pos 2 ∷ pos 10 ∷ pos 2 ∷ pos 14
    ∷ pos 5 ∷ pos 20 ∷ pos 3 ∷ pos 2 ∷ pos 2 ∷ pos 10
    ∷ pos 4 ∷ pos 5 ∷ pos 1 ∷ pos 10 ∷ pos 2 ∷ pos 2 ∷ pos 12
    ∷ pos 4 ∷ pos 5 ∷ pos 1 ∷ pos 12 ∷ pos 2 ∷ pos 2 ∷ pos 14 ∷ []

-- "13 100 1 0 10 0 10 5 6 1 0 0 10"
unfoldable pub shrunk_p : List ℤ
shrunk_p = pos 13 ∷ pos 100 ∷ pos 1 ∷ pos 0 ∷ pos 10 ∷ pos 0 ∷ pos 10 ∷ pos 5 ∷ pos 6 ∷ pos 1 ∷ pos 0 ∷ pos 0 ∷ pos 10 ∷ []

-- "count -1": the document gives the count and the changes; the other words are those of (-2 0), with n below 0
unfoldable pub negative_p : List ℤ
negative_p =
    pos 13 ∷ pos 100 ∷ pos 1 ∷ negsuc 0 ∷ pos 10 ∷ negsuc 0 ∷ pos 10 ∷ pos 5 ∷ pos 6 ∷ pos 1 ∷ negsuc 0 ∷ negsuc 0 ∷ pos 10 ∷ []

unfoldable pub table : List Row
table =
    record { computed = words 27 (ran (pos 2) (pos 10) (pos 100) 40); document = record_p }
    ∷ record { computed = outcome (ran (pos 2) (pos 10) (pos 100) 27); document = pos 0 ∷ [] }
    ∷ record { computed = outcome (ran (pos 2) (pos 10) (pos 100) 26); document = pos 10 ∷ [] }
    ∷ record { computed = outcome (ran (pos 2) (pos 10) (pos 3) 40); document = pos 0 ∷ [] }
    ∷ record { computed = outcome (ran (pos 2) (pos 10) (pos 2) 40); document = pos 9 ∷ [] }
    ∷ record { computed = changes (patched (pos 2) (pos 10) (pos 1) (pos 0)); document = pos 1 ∷ pos 5 ∷ [] }
    ∷ record { computed = changes (patched (pos 2) (pos 10) (negsuc 1) (pos 0)); document = negsuc 1 ∷ negsuc 3 ∷ [] }
    ∷ record { computed = words 13 (patched (pos 2) (pos 10) (negsuc 1) (pos 0)); document = shrunk_p }
    ∷ record { computed = changes (patched (pos 2) (pos 10) (negsuc 2) (pos 0)); document = negsuc 2 ∷ negsuc 3 ∷ [] }
    ∷ record { computed = words 13 (patched (pos 2) (pos 10) (negsuc 2) (pos 0)); document = negative_p }
    ∷ record { computed = words 27 (patched (pos 2) (pos 10) (pos 0) (pos 0)); document = record_p }
    ∷ record { computed = reused (patched (pos 2) (pos 10) (pos 0) (pos 0)); document = pos 3 ∷ [] }
    ∷ record { computed = outcome (patched (pos 2) (pos 2_147_483_640) (pos 0) (pos 3)); document = pos 0 ∷ [] }
    ∷ record { computed = outcome (patched (pos 2) (pos 2_147_483_640) (pos 0) (pos 4)); document = pos 8 ∷ [] }
    ∷ []

abbrev pub computed : Row → List ℤ
computed r = r.computed

abbrev pub document : Row → List ℤ
document r = r.document

pub marked_cases : map computed table ≡ map document table
unfolding computing program_p ran patched outcome changes reused words record_p shrunk_p negative_p table
marked_cases = refl
