-- A square root with the sign of the jerk, as two of the two-step families have it. Definitions only.
use Rattle.std.specs.Prelude.{Float}
use Rattle.doubles.specs.Operators.{◌*ᶠ◌, ◌/ᶠ◌}
use Rattle.doubles.specs.Functions.{absᶠ}
use Rattle.profile.specs.declared.Limits.{Limits}

module _ (m : Limits) where
  open m use {j_max as j-max}

  -- not a choice of sign: the product can overflow, and a j_max of 0 gives a NaN
  unfoldable pub scaled_root : Float → Float
  scaled_root root = root *ᶠ absᶠ j-max /ᶠ j-max
