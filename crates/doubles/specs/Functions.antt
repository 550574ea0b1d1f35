-- Rust's small functions on doubles. Definitions only.
use Rattle.std.specs.Prelude.{false, cond, Float}
use Rattle.std.specs.Float.{nan, inf, fin}
use Rattle.std.specs.Float.Ieee.{is_nan}
use Rattle.doubles.specs.Operators.{◌<ᶠ◌}

-- `f64::abs`: the sign cleared, also that of -0
unfoldable pub absᶠ : Float → Float
absᶠ nan = nan
absᶠ (inf s) = inf false
absᶠ (fin s m e) = fin false m e

-- `f64::min` and `f64::max`: where one is a NaN, the other; of two that are equal, as 0 and -0, the first
unfoldable pub minᶠ : Float → Float → Float
minᶠ x y = cond (is_nan x) y (cond (y <ᶠ x) y x)

unfoldable pub maxᶠ : Float → Float → Float
maxᶠ x y = cond (is_nan x) y (cond (x <ᶠ y) y x)
