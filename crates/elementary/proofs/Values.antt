-- Worked values of the four functions, by computation. Assumes nothing.
use mathlib.Core.Path.{◌≡◌, refl}
use lib.Ieee.{nan, binary64, of_bits}
use Rattle.elementary.specs.Functions.{sqrt_of, cbrt_of, third_angle_cosine_of, third_angle_sine_of}

-- √9 = 3
pub sqrt_nine : sqrt_of (of_bits binary64 0x4022_0000_0000_0000) ≡ of_bits binary64 0x4008_0000_0000_0000
unfolding sqrt_of of_bits
sqrt_nine = refl

pub sqrt_two : sqrt_of (of_bits binary64 0x4000_0000_0000_0000) ≡ of_bits binary64 0x3FF6_A09E_667F_3BCD
unfolding sqrt_of of_bits
sqrt_two = refl

pub sqrt_minus_one : sqrt_of (of_bits binary64 0xBFF0_0000_0000_0000) ≡ nan
unfolding sqrt_of of_bits
sqrt_minus_one = refl

-- ∛-27 = -3
pub cbrt_minus_27 : cbrt_of (of_bits binary64 0xC03B_0000_0000_0000) ≡ of_bits binary64 0xC008_0000_0000_0000
unfolding cbrt_of of_bits
cbrt_minus_27 = refl

-- t = 1: the cosine is 1, the sine 0
pub cosine_one : third_angle_cosine_of (of_bits binary64 0x3FF0_0000_0000_0000) ≡ of_bits binary64 0x3FF0_0000_0000_0000
unfolding third_angle_cosine_of of_bits
cosine_one = refl

pub sine_one : third_angle_sine_of (of_bits binary64 0x3FF0_0000_0000_0000) ≡ of_bits binary64 0
unfolding third_angle_sine_of of_bits
sine_one = refl

-- t = -1: the cosine is 1/2, the sine SIN_120, the double nearest to √3 / 2
pub cosine_minus_one : third_angle_cosine_of (of_bits binary64 0xBFF0_0000_0000_0000)
    ≡ of_bits binary64 0x3FE0_0000_0000_0000
unfolding third_angle_cosine_of of_bits
cosine_minus_one = refl

pub sine_minus_one : third_angle_sine_of (of_bits binary64 0xBFF0_0000_0000_0000) ≡ of_bits binary64 0x3FEB_B67A_E858_4CAA
unfolding third_angle_sine_of of_bits
sine_minus_one = refl
