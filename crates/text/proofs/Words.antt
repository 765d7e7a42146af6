-- Numbers and words from their bytes: what the bytes are worth together is what their pairs are worth.
-- Assumes nothing.
use Rattle.std.proofs.Common.{◌≡◌, ℕ, suc, ◌+◌, ◌*◌, ◌∷◌, [], List, arith, ap, ◌∙◌}
use Rattle.std.specs.Int.{w32, w64, from_le_bytes}
use Rattle.rules.specs.Table.{byte, u16}
use Rattle.text.specs.Words.{u32}

of_four : (a b c d : ℕ) → from_le_bytes w32 (a ∷ b ∷ c ∷ d ∷ []) ≡ a + 256 * b + 65536 * (c + 256 * d)
of_four a b c d =
    let sum : a + b * 256 + c * 65536 + d * 16777216 ≡ a + 256 * b + 65536 * (c + 256 * d) = omega arith in
    sum

of_eight : (a b c d e f g h : ℕ)
    → from_le_bytes w64 (a ∷ b ∷ c ∷ d ∷ e ∷ f ∷ g ∷ h ∷ [])
    ≡ a + 256 * b + 65536 * (c + 256 * d) + 4294967296 * (e + 256 * f + 65536 * (g + 256 * h))
of_eight a b c d e f g h =
    let sum : a + b * 256 + c * 65536 + d * 16777216 + e * 4294967296 + f * 1099511627776 + g * 281474976710656 + h * 72057594037927936
    ≡ a + 256 * b + 65536 * (c + 256 * d) + 4294967296 * (e + 256 * f + 65536 * (g + 256 * h)) = omega arith in
    sum

module _ (s : List ℕ) where
  -- the 32 bits at a place, by their four places
  four : (at i j k : ℕ) → i ≡ at + 1 → j ≡ at + 2 → k ≡ at + 3 → byte s at + 256 * byte s i + 65536 * (byte s j + 256 * byte s k) ≡ u32 s at
  unfolding u16
  four at i j k e f g = rw (e, f, g) (omega (arith, ap (byte s) one, ap (byte s) three))
    where
      one : at + 1 ≡ suc at
      one = omega arith

      three : at + 3 ≡ suc (at + 2)
      three = omega arith

  pub number_is : (at : ℕ) → from_le_bytes w32 (byte s at ∷ byte s (at + 1) ∷ byte s (at + 2) ∷ byte s (at + 3) ∷ []) ≡ u32 s at
  number_is at = of_four _ _ _ _ ∙ four at (at + 1) (at + 2) (at + 3) (omega arith) (omega arith) (omega arith)

  pub word_is : (at : ℕ)
      → from_le_bytes w64 (byte s at ∷ byte s (at + 1) ∷ byte s (at + 2) ∷ byte s (at + 3) ∷ byte s (at + 4) ∷ byte s (at + 5) ∷ byte s (at + 6) ∷ byte s (at + 7) ∷ [])
      ≡ u32 s at + 4294967296 * u32 s (at + 4)
  word_is at =
      of_eight _ _ _ _ _ _ _ _
      ∙ omega (
        arith,
        four at (at + 1) (at + 2) (at + 3) (omega arith) (omega arith) (omega arith),
        four (at + 4) (at + 5) (at + 6) (at + 7) (omega arith) (omega arith) (omega arith),
      )
