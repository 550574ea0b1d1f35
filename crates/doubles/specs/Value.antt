-- The exact value of a finite float of either format: a whole number of its format's smallest
-- positive value, 2 ^ -low, which is 2 ^ -1074 for an f64.
-- These whole numbers are called units below. A NaN and an infinity have the value 0, and no
-- law says more of it. Definitions only.
use Rattle.std.specs.Prelude.{ℕ, ◌*◌, ◌/◌, ◌^◌, ◌≤◌, ◌≡◌, Bool, true, false, not, T, Float}
use Rattle.std.specs.Float.{nan, inf, fin, Format, binary64}
use Rattle.std.specs.Float.Ieee.{low, up, down, fits}
use Rattle.std.specs.Float.Ieee.Scale.{finite}
use Rattle.doubles.specs.Operators.{◌≤ᶠ◌}
use Rattle.doubles.specs.Constants.{0ᶠ}
use Rattle.doubles.specs.Signed.{Signed, zeroˢ, ◌⊕◌, minus, size}

-- n, or -n where the sign is set
abbrev pub signed : Bool → ℕ → Signed
signed false n = record { plus = n; less = 0 }
signed true n = record { plus = 0; less = n }

-- the size in units. A value that the format holds is a whole number of them, so the division is exact
unfoldable pub magnitude : Format → Float → ℕ
magnitude f nan = 0
magnitude f (inf s) = 0
magnitude f (fin s m e) = m * up e * 2 ^ low f / down e

unfoldable pub value : Format → Float → Signed
unfolding magnitude
value f nan = zeroˢ
value f (inf s) = zeroˢ
value f (fin s m e) = signed s (magnitude f (fin s m e))

-- no NaN, not -∞, and if finite not below 0
abbrev pub NotNegative : Format → Float → Type 0
NotNegative f nan = ⊥
NotNegative f (inf s) = T (not s)
NotNegative f (fin s m e) = (value f (fin s m e)).less ≡ 0

-- ---- at binary64

-- the value of a double, in units of 2 ^ -1074
abbrev pub val : Float → Signed
val x = value binary64 x

-- it is a double
abbrev pub Fits : Float → Type 0
Fits x = T (fits binary64 x)

abbrev pub Finite : Float → Type 0
Finite x = T (finite x)

-- at least 0: +∞ and -0 are, a NaN isn't
abbrev pub AtLeastZero : Float → Type 0
AtLeastZero x = (0ᶠ ≤ᶠ x) ≡ true

-- x and y are finite and at most d apart
pub record Close (x y d : Float) : Type 0 where
  pub x_finite : Finite x
  pub y_finite : Finite y
  pub apart : size (val x ⊕ minus (val y)) ≤ size (val d)
