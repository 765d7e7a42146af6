-- A list of one value.
-- Assumes nothing.
use Rattle.std.specs.Prelude.{◌≡◌, refl, ℕ, zero, suc, get_or, replicate}

-- it has the value everywhere, past the end too where that is given
pub alike : {A : Type 0} (n : ℕ) (a : A) (k : ℕ) → get_or (replicate n a) k a ≡ a
alike zero a k = refl
alike (suc n) a zero = refl
alike (suc n) a (suc k) = alike n a k
