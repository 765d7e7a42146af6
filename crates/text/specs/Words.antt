-- What the contracts of words cite: numbers of 32 bits, and signed words of 64, in bytes.
-- Assumes nothing.
use Rattle.std.specs.Prelude.{◌≡◌, List, ℕ, ◌+◌, ◌*◌, ◌<◌, get_or, ℤ, pos}
use Rattle.std.specs.Int.{w64}
use Rattle.std.proofs.Common.{to_z}
use Rattle.rules.specs.Table.{u16}

-- the 32 bits at a place
abbrev pub u32 : List ℕ → ℕ → ℕ
u32 s at = u16 s at + 65536 * u16 s (at + 2)

-- the signed word of the 64 bits at a place
abbrev pub word_at : List ℕ → ℕ → ℤ
word_at s at = to_z w64 (u32 s at + 4294967296 * u32 s (at + 4))

-- the first n words are those of the bytes
abbrev pub Decoded : List ℕ → ℕ → List ℤ → Type 0
Decoded bytes n words = (k : ℕ) → k < n → get_or words k (pos 0) ≡ word_at bytes (8 * k)
