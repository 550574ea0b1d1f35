-- Worked values of the resolvent and the quartic, one through each branch, by computation. Assumes nothing.
use mathlib.Core.Path.{◌≡◌, refl}
use mathlib.Core.List.{[], ◌∷◌}
use lib.Ieee.{nan, binary64, of_bits, add, sub, mul, div, neg, lt, le, eq, is_nan}
use Rattle.doubles.specs.Constants.{0ᶠ, 1ᶠ, 2ᶠ, 3ᶠ, 4ᶠ, 6ᶠ, 8ᶠ}
use Rattle.doubles.specs.Functions.{absᶠ, minᶠ, maxᶠ}
use Rattle.elementary.specs.Functions.{sqrt_of, cbrt_of, third_angle_cosine_of, third_angle_sine_of}
use Rattle.roots.specs.declared.list.Roots.{Roots}
use Rattle.roots.specs.declared.resolvent.Zeros.TheVariants.{One, Two, Three}
use Rattle.roots.specs.List.{inserted, placed, sorted_from, ascending_of, reading}
use Rattle.roots.specs.Resolvent.{zero_numbers, clamped_ratio, three_zeros, cube_root, quotient, few_zeros}
use Rattle.roots.specs.Resolvent.{resolvent_of}
use Rattle.roots.specs.Quartic.{with_quadratic, larger, largest_zero, equal_constants, factors_of, roots_by_factors}
use Rattle.roots.specs.Quartic.{quartic_of}

-- ---- the resolvent: 1, 2 and 3 zeros, zeros that are 0, and a NaN; of two zeros the Rust's three numbers too

pub record Resolvents : Type 0 where
  -- x³ - 8 has the zero 2; -1 ± √3 i are the others
  pub one_zero : resolvent_of 0ᶠ 0ᶠ (neg 8ᶠ)
      ≡ One 2ᶠ (neg 1ᶠ) (of_bits binary64 0x3ffb_b67a_e858_4caa)
  -- x³ - 3x + 2 has the zero -2 and the double zero 1
  pub two_zeros : resolvent_of 0ᶠ (neg 3ᶠ) 2ᶠ ≡ Two (neg 2ᶠ) 1ᶠ
  pub two_zeros_numbers : zero_numbers (resolvent_of 0ᶠ (neg 3ᶠ) 2ᶠ) ≡ neg 2ᶠ ∷ 1ᶠ ∷ 1ᶠ ∷ []
  -- x³ - 3x has the zeros -√3, √3 and 0
  pub three_zeros_law : resolvent_of 0ᶠ (neg 3ᶠ) 0ᶠ
      ≡ Three (of_bits binary64 0xbffb_b67a_e858_4caa) (of_bits binary64 0x3ffb_b67a_e858_4caa) 0ᶠ
  -- x³ has the zero 0, and -0 twice
  pub at_zero : resolvent_of 0ᶠ 0ᶠ 0ᶠ ≡ Two 0ᶠ (neg 0ᶠ)
  pub at_zero_numbers : zero_numbers (resolvent_of 0ᶠ 0ᶠ 0ᶠ) ≡ 0ᶠ ∷ neg 0ᶠ ∷ neg 0ᶠ ∷ []
  -- a NaN makes all NaN, and one zero
  pub of_nan : resolvent_of nan 0ᶠ 0ᶠ ≡ One nan nan nan

pub resolvents : Resolvents
unfolding add sub mul div neg lt le eq is_nan of_bits absᶠ minᶠ maxᶠ sqrt_of cbrt_of third_angle_cosine_of third_angle_sine_of
    resolvent_of three_zeros clamped_ratio cube_root quotient few_zeros
resolvents =
    record {
      one_zero = refl;
      two_zeros = refl;
      two_zeros_numbers = refl;
      three_zeros_law = refl;
      at_zero = refl;
      at_zero_numbers = refl;
      of_nan = refl;
    }

-- ---- the list: what is full stays as it is, also for a value that would be read first

abbrev four : Roots
four = record { values = 1ᶠ ∷ 2ᶠ ∷ 3ᶠ ∷ 4ᶠ ∷ []; count = 4 }

pub full_list : inserted four 0ᶠ ≡ four
unfolding inserted le of_bits
full_list = refl

-- ---- the quartic where c and d are 0, and where a, b and d are

pub record SimpleQuartics : Type 0 where
  -- x⁴ - 2x³ + x², whose quadratic has the discriminant 0
  pub double_root : reading (quartic_of (neg 2ᶠ) 1ᶠ 0ᶠ 0ᶠ) ≡ 0ᶠ ∷ 1ᶠ ∷ []
  -- x⁴ - 3x³ + 2x²
  pub two_roots : reading (quartic_of (neg 3ᶠ) 2ᶠ 0ᶠ 0ᶠ) ≡ 0ᶠ ∷ 1ᶠ ∷ 2ᶠ ∷ []
  -- x⁴ + x²
  pub no_more_roots : reading (quartic_of 0ᶠ 1ᶠ 0ᶠ 0ᶠ) ≡ 0ᶠ ∷ []
  -- x⁴ - 8x
  pub cube_root_law : reading (quartic_of 0ᶠ 0ᶠ (neg 8ᶠ) 0ᶠ) ≡ 0ᶠ ∷ 2ᶠ ∷ []

pub simple_quartics : SimpleQuartics
unfolding add sub mul div neg lt le eq is_nan of_bits absᶠ minᶠ maxᶠ sqrt_of cbrt_of third_angle_cosine_of third_angle_sine_of
    resolvent_of three_zeros clamped_ratio cube_root quotient few_zeros quartic_of roots_by_factors with_quadratic largest_zero
    larger factors_of equal_constants inserted ascending_of sorted_from placed
simple_quartics =
    record {
      double_root = refl;
      two_roots = refl;
      no_more_roots = refl;
      cube_root_law = refl;
    }

-- ---- the quartic by its factors

-- x⁴ - 1, whose resolvent has one zero: no root of the one factor, two of the other, of which one is negative
pub factors_by_one_zero : reading (quartic_of 0ᶠ 0ᶠ 0ᶠ (neg 1ᶠ)) ≡ 1ᶠ ∷ []
unfolding add sub mul div neg lt le eq is_nan of_bits absᶠ minᶠ maxᶠ sqrt_of cbrt_of third_angle_cosine_of third_angle_sine_of
    resolvent_of three_zeros clamped_ratio cube_root quotient few_zeros quartic_of roots_by_factors with_quadratic largest_zero
    larger factors_of equal_constants inserted ascending_of sorted_from placed
factors_by_one_zero = refl

-- x⁴ - 3x² - 2x, whose resolvent has two zeros, the second the larger
pub factors_by_two_zeros : reading (quartic_of 0ᶠ (neg 3ᶠ) (neg 2ᶠ) 0ᶠ) ≡ 0ᶠ ∷ 2ᶠ ∷ []
unfolding add sub mul div neg lt le eq is_nan of_bits absᶠ minᶠ maxᶠ sqrt_of cbrt_of third_angle_cosine_of third_angle_sine_of
    resolvent_of three_zeros clamped_ratio cube_root quotient few_zeros quartic_of roots_by_factors with_quadratic largest_zero
    larger factors_of equal_constants inserted ascending_of sorted_from placed
factors_by_two_zeros = refl

-- x⁴ - 2x³ - x² + 2x, whose resolvent has three zeros
pub factors_by_three_zeros : reading (quartic_of (neg 2ᶠ) (neg 1ᶠ) 2ᶠ 0ᶠ) ≡ 0ᶠ ∷ 1ᶠ ∷ 2ᶠ ∷ []
unfolding add sub mul div neg lt le eq is_nan of_bits absᶠ minᶠ maxᶠ sqrt_of cbrt_of third_angle_cosine_of third_angle_sine_of
    resolvent_of three_zeros clamped_ratio cube_root quotient few_zeros quartic_of roots_by_factors with_quadratic largest_zero
    larger factors_of equal_constants inserted ascending_of sorted_from placed
factors_by_three_zeros = refl

-- x⁴ - x³ - x + 1, whose factors have the same constant
pub equal_constants_law : reading (quartic_of (neg 1ᶠ) 0ᶠ (neg 1ᶠ) 1ᶠ) ≡ 1ᶠ ∷ []
unfolding add sub mul div neg lt le eq is_nan of_bits absᶠ minᶠ maxᶠ sqrt_of cbrt_of third_angle_cosine_of third_angle_sine_of
    resolvent_of three_zeros clamped_ratio cube_root quotient few_zeros quartic_of roots_by_factors with_quadratic largest_zero
    larger factors_of equal_constants inserted ascending_of sorted_from placed
equal_constants_law = refl

-- x⁴ - 4x³ + 6x² - 4x + 1, whose factors are equal: a root of each, and both are kept
pub equal_factors : reading (quartic_of (neg 4ᶠ) 6ᶠ (neg 4ᶠ) 1ᶠ) ≡ 1ᶠ ∷ 1ᶠ ∷ []
unfolding add sub mul div neg lt le eq is_nan of_bits absᶠ minᶠ maxᶠ sqrt_of cbrt_of third_angle_cosine_of third_angle_sine_of
    resolvent_of three_zeros clamped_ratio cube_root quotient few_zeros quartic_of roots_by_factors with_quadratic largest_zero
    larger factors_of equal_constants inserted ascending_of sorted_from placed
equal_factors = refl
