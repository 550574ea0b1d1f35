-- The constants of the code, by computation. Assumes nothing.
use mathlib.Core.Path.{◌≡◌, refl}
use lib.Ieee.{binary64, of_bits, mul}
use Rattle.doubles.specs.Constants.{3ᶠ}
use Rattle.elementary.specs.Functions.{sqrt_of}
use Rattle.roots.specs.Quartic.{16eps}

-- SQRT_3
pub sqrt_three : sqrt_of 3ᶠ ≡ of_bits binary64 0x3ffb_b67a_e858_4caa
unfolding sqrt_of of_bits
sqrt_three = refl

-- EPS_M_BY_16, which is exact: 2 ^ -48
pub eps_by_16 : 16eps ≡ of_bits binary64 0x3cf0_0000_0000_0000
unfolding mul of_bits
eps_by_16 = refl
