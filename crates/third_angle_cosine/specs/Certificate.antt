-- What the answer of a certificate says of c as the pattern of the cosine for the t with this
-- sign bit and this pattern of its magnitude.
-- Definitions only.
use Rattle.std.specs.Prelude.{◌≡◌, Bool, true, ℕ, ◌+◌, ◌-◌, ◌*◌, ◌^◌, ◌≤◌, ◌<◌}
use Rattle.std.specs.Float.{binary64}
use Rattle.std.specs.Float.Ieee.{of_bits}
use Rattle.elementary.specs.Functions.{third_angle_cosine_of}
use Rattle.midpoints.specs.Cubic.{WellBetween}
use Rattle.third_angle_cosine.specs.Scaled.{size_at, IsOnePlus}

pub record CosineBy (sign m c : ℕ) (r : Bool) : Type 0 where
  pub yes : r ≡ true → of_bits binary64 c ≡ third_angle_cosine_of (of_bits binary64 (sign * 2 ^ 63 + m))
  pub sure : 0x3c90_0000_0000_0000 ≤ m → 0x3fe0_0000_0000_0000 < c → c ≤ 0x3ff0_0000_0000_0000
      → (e : ℕ) → IsOnePlus sign (size_at m) e → WellBetween 3 (2 * (c - 0x3fe0_0000_0000_0000)) e → r ≡ true
