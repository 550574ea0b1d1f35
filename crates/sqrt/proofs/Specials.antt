-- The square root of a NaN. Assumes nothing.
use Rattle.std.proofs.Common.{◌≡◌, true, refl}
use lib.Ieee.{Float, nan, inf, fin, is_nan}
use Rattle.elementary.specs.Functions.{sqrt_of}

pub at_nan : (x : Float) → is_nan x ≡ true → x ≡ sqrt_of x
unfolding sqrt_of is_nan
at_nan nan h = refl
at_nan (inf s) h = cc
at_nan (fin s m e) h = cc
