-- The estimate of the cube root, operation by operation. Definitions only.
use Rattle.std.specs.Prelude.{ℕ, ◌+◌, ◌/◌, Float}
use Rattle.std.specs.Float.{binary64}
use Rattle.std.specs.Float.Ieee.{of_bits}
use Rattle.doubles.specs.Operators.{◌+ᶠ◌, ◌-ᶠ◌, ◌*ᶠ◌, ◌/ᶠ◌}
use Rattle.doubles.specs.Constants.{1ᶠ}
use Rattle.doubles.specs.Splitting.{leading_digits}

-- near the cube root, by the pattern b
unfoldable pub first_guess : ℕ → Float
first_guess b = of_bits binary64 (b / 3 + 0x2a9f_7893_782d_a1ce)

-- 1.87595182427177 - r (1.8849797954337717 - r 1.6214297201053545) + r³ (r 0.14599619288661245 - 0.758397934778766)
unfoldable pub factor_of : Float → Float
factor_of r =
    of_bits binary64 0x3ffe_03e6_0f61_e692
    -ᶠ r *ᶠ (of_bits binary64 0x3ffe_28e0_92f0_2420 -ᶠ r *ᶠ of_bits binary64 0x3ff9_f160_4a49_d6c2)
    +ᶠ r *ᶠ r *ᶠ r *ᶠ (r *ᶠ of_bits binary64 0x3fc2_b000_d4e4_edd7 -ᶠ of_bits binary64 0x3fe8_44cb_bee7_51d9)

-- 2 ^ 27 + 1 splits off 26 digits; the last two factors are 1/3 and 2/9
unfoldable pub refined_root : Float → Float → Float → Float
refined_root x inverse t =
    let square = t *ᶠ t in
    let s = leading_digits square (of_bits binary64 0x41a0_0000_0200_0000) in
    let z = (x -ᶠ s *ᶠ t -ᶠ (square -ᶠ s) *ᶠ t) *ᶠ inverse in
    t +ᶠ t *ᶠ (z *ᶠ (of_bits binary64 0x3fd5_5555_5555_5555 +ᶠ z *ᶠ of_bits binary64 0x3fcc_71c7_1c71_c71c))

-- 2 ^ 30 + 1 splits off 23 digits
unfoldable pub candidate_of : Float → ℕ → Float
unfolding first_guess factor_of refined_root
candidate_of x b =
    let inverse = 1ᶠ /ᶠ x in
    let g = first_guess b in
    refined_root x inverse
    (leading_digits (g *ᶠ factor_of (g *ᶠ g *ᶠ (g *ᶠ inverse))) (of_bits binary64 0x41d0_0000_0040_0000))
