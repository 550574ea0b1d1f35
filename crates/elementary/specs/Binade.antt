-- The rounding of a real that lies in one binade, where the significands of 53 digits are the
-- whole numbers of units. Definitions only.
use Rattle.std.specs.Prelude.{◌≡◌, ℕ, ◌+◌, ◌*◌, ◌^◌, ◌≤◌, ◌<◌}
use Rattle.std.specs.Float.Ieee.{nearest}
use Rattle.elementary.specs.Nearest.{Real, AtMost, Above, Monotone}

-- the real lies from 2 ^ 52 units up to 2 ^ 53 units
pub record InBinade (real : Real) : Type 0 where
  pub monotone : Monotone real
  pub start : AtMost (2 ^ 53) real
  pub end : Above (2 ^ 54) real

-- r units are the whole number nearest to the real, a tie to the even one: q is the floor in
-- units, and 2q + 1 half units the midpoint of q and q + 1
pub record RoundsTo (real : Real) (r : ℕ) : Type 0 where
  pub q : ℕ
  pub normal : 2 ^ 52 ≤ q
  pub fits : q < 2 ^ 53
  pub lower : AtMost (2 * q) real
  pub upper : Above (2 * q + 2) real
  pub is : r ≡ nearest q (real (2 * q + 1))
