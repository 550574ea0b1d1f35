-- What the answer of a certificate says of c as the pattern of the cube root of the normal
-- double with the pattern b. Definitions only.
use Rattle.std.specs.Prelude.{◌≡◌, Bool, true, ℕ, ◌+◌, ◌-◌, ◌*◌, ◌/◌, ◌%◌, ◌^◌, ◌<◌}
use Rattle.std.specs.Float.{binary64}
use Rattle.std.specs.Float.Ieee.{of_bits}
use Rattle.elementary.specs.Functions.{cbrt_of}
use Rattle.midpoints.specs.Cubic.{WellBetween}

-- what is left of c without the exponent of the root
abbrev pub significand_of : ℕ → ℕ → ℕ
significand_of b c = c - (b / 2 ^ 52 + 2043) / 3 * 2 ^ 52

-- the cube of the root in half units of its last place, in units of 2 ^ 54
abbrev pub target_of : ℕ → ℕ
target_of b = (b % 2 ^ 52 + 2 ^ 52) * 2 ^ ((b / 2 ^ 52 + 2043) % 3) * 2 ^ 53

pub record RootBy (b c : ℕ) (r : Bool) : Type 0 where
  pub yes : r ≡ true → of_bits binary64 c ≡ cbrt_of (of_bits binary64 b)
  pub sure : 2 ^ 52 < significand_of b c → significand_of b c < 2 ^ 53
      → WellBetween 0 (2 * significand_of b c) (target_of b) → r ≡ true
