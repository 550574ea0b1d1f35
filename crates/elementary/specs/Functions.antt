-- Square root, cube root, and the cosine and sine of a third of an angle on doubles: the
-- nearest double, a tie to the even significand. A double's unit is 2 ^ -1074, so 2 ^ 1075
-- half units make 1. Definitions only.
use Rattle.std.specs.Prelude.{zero, suc, ◌*◌, ◌^◌, false, cond, leb, Float}
use Rattle.std.specs.Float.{nan, inf, fin, binary64}
use Rattle.std.specs.Float.Ieee.{up, down}
use Rattle.elementary.specs.Nearest.{nearest_to}
use Rattle.elementary.specs.Reals.{sqrt_real, cbrt_real, third_angle_cosine_real, third_angle_sine_real}

-- IEEE 754's square root: -0 gives -0, other numbers below 0 give NaN
unfoldable pub sqrt_of : Float → Float
unfolding nearest_to
sqrt_of nan = nan
sqrt_of (inf s) = cond s nan (inf s)
sqrt_of (fin s zero e) = fin s zero e
sqrt_of (fin s (suc m) e) = cond s nan (nearest_to binary64 false (sqrt_real (2 ^ 1075) (suc m * up e) (down e)) 1600)

-- the cube root, with the sign of its argument: zeros, infinities and NaN give themselves
unfoldable pub cbrt_of : Float → Float
unfolding nearest_to
cbrt_of nan = nan
cbrt_of (inf s) = inf s
cbrt_of (fin s zero e) = fin s zero e
cbrt_of (fin s (suc m) e) = nearest_to binary64 s (cbrt_real (2 ^ 1075) (suc m * up e) (down e)) 1600

-- the c from 1/2 to 1 with 4c³ - 3c = t, for t from -1 to 1, and NaN for other t
unfoldable pub third_angle_cosine_of : Float → Float
unfolding nearest_to
third_angle_cosine_of nan = nan
third_angle_cosine_of (inf s) = nan
third_angle_cosine_of (fin s m e) =
    cond (leb (m * up e) (down e))
    (nearest_to binary64 false (third_angle_cosine_real (2 ^ 1075) s (m * up e) (down e)) 1077) nan

-- √(1 - c²) of the exact c, for t from -1 to 1, and NaN for other t
unfoldable pub third_angle_sine_of : Float → Float
unfolding nearest_to
third_angle_sine_of nan = nan
third_angle_sine_of (inf s) = nan
third_angle_sine_of (fin s m e) =
    cond (leb (m * up e) (down e))
    (nearest_to binary64 false (third_angle_sine_real (2 ^ 1075) s (m * up e) (down e)) 1077) nan
