-- The estimates of the cosine and the sine, operation by operation. Definitions only.
use Rattle.std.specs.Prelude.{◌≡◌, cond, Float}
use Rattle.std.specs.Int.Bits.{bit_and}
use Rattle.std.specs.Float.{binary64}
use Rattle.std.specs.Float.Ieee.{of_bits, to_bits, is_nan}
use Rattle.doubles.specs.Operators.{◌+ᶠ◌, ◌-ᶠ◌, ◌*ᶠ◌, ◌/ᶠ◌, ◌<ᶠ◌}
use Rattle.doubles.specs.Constants.{½ᶠ, 1ᶠ, 2ᶠ, 3ᶠ, 6ᶠ, 24ᶠ}
use Rattle.doubles.specs.Guess.{inverse_root_guess}
use Rattle.doubles.specs.Splitting.{leading_digits}

-- ---- 1 / √x

-- 1.5
unfoldable pub newton_step : Float → Float → Float
newton_step h y = y *ᶠ (of_bits binary64 0x3ff8_0000_0000_0000 -ᶠ h *ᶠ y *ᶠ y)

unfoldable pub inverse_root : Float → Float
unfolding newton_step
inverse_root x =
    cond (is_nan x) x
    (newton_step (x *ᶠ ½ᶠ)
    (newton_step (x *ᶠ ½ᶠ) (newton_step (x *ᶠ ½ᶠ) (inverse_root_guess (bit_and (to_bits binary64 x) 0x7fff_ffff_ffff_ffff)))))

-- ---- v = u + d

-- a polynomial of degree 7
unfoldable pub polynomial_of : Float → Float
polynomial_of z =
    z *ᶠ (of_bits binary64 0x3fef_ffff_7bd9_4534
    -ᶠ z *ᶠ (of_bits binary64 0x3fc5_54a4_aaa1_0bee
    -ᶠ z *ᶠ (of_bits binary64 0x3fb1_b330_b3b7_f269
    -ᶠ z *ᶠ (of_bits binary64 0x3fa2_15e9_b474_eb52
    -ᶠ z *ᶠ (of_bits binary64 0x3f91_caad_0cbb_3a5c
    -ᶠ z *ᶠ (of_bits binary64 0x3f79_b28c_316c_285d
    -ᶠ z *ᶠ of_bits binary64 0x3f52_3d20_9ba0_5e4f))))))

unfoldable pub excess_of : Float → Float → Float → Float → Float → Float
excess_of t w u square rest = 2ᶠ *ᶠ w -ᶠ 3ᶠ *ᶠ square -ᶠ u *ᶠ square -ᶠ (3ᶠ +ᶠ u) *ᶠ rest +ᶠ 2ᶠ *ᶠ (t -ᶠ (w -ᶠ 1ᶠ))

unfoldable pub correction_of : Float → Float → Float
correction_of u f = let slope = u *ᶠ (3ᶠ *ᶠ u +ᶠ 6ᶠ) in f *ᶠ slope /ᶠ (slope *ᶠ slope +ᶠ f *ᶠ (3ᶠ *ᶠ u +ᶠ 3ᶠ))

-- u: 2/3 of 1 + t is 3z² / 3 for the polynomial, and 2 ^ 30 + 1 splits off 23 digits
unfoldable pub lead_of : Float → Float
unfolding polynomial_of inverse_root
lead_of t =
    let x = (1ᶠ +ᶠ t) *ᶠ of_bits binary64 0x3fe5_5555_5555_5555 in
    leading_digits (polynomial_of (x *ᶠ inverse_root x)) (of_bits binary64 0x41d0_0000_0040_0000)

-- 2 ^ 27 + 1 splits off 26 digits
unfoldable pub split_square : Float → Float
split_square u = leading_digits (u *ᶠ u) (of_bits binary64 0x41a0_0000_0200_0000)

pub record Estimated (t u d square rest : Float) : Type 0 where
  pub lead : u ≡ lead_of t
  pub split : square ≡ split_square u
  pub remainder : rest ≡ u *ᶠ u -ᶠ square
  pub small : d ≡ correction_of u (excess_of t (1ᶠ +ᶠ t) u square rest)

-- ---- the candidates

abbrev pub cosine_candidate : Float → Float → Float
cosine_candidate u d = ½ᶠ +ᶠ ½ᶠ *ᶠ u +ᶠ ½ᶠ *ᶠ d

unfoldable pub near_root : Float → Float → Float → Float
near_root a e y =
    let s = leading_digits (y *ᶠ (a +ᶠ ½ᶠ *ᶠ e)) (of_bits binary64 0x41a0_0000_0200_0000) in
    let f = a -ᶠ s *ᶠ s +ᶠ e in
    s +ᶠ f /ᶠ (2ᶠ *ᶠ s +ᶠ f *ᶠ (½ᶠ *ᶠ y))

unfoldable pub large_sine : Float → Float → Float → Float → Float
unfolding near_root inverse_root
large_sine u d square rest =
    let b = 3ᶠ -ᶠ 2ᶠ *ᶠ u in
    let a = b -ᶠ square in
    ½ᶠ *ᶠ near_root a (b -ᶠ a -ᶠ square -ᶠ rest -ᶠ d *ᶠ (2ᶠ +ᶠ 2ᶠ *ᶠ u +ᶠ d)) (inverse_root a)

-- 1/3, 5/108, 0.0099; 9, 48, 16
unfoldable pub small_sine : Float → Float
unfolding inverse_root
small_sine t =
    let w = 1ᶠ -ᶠ t in
    let x = 2ᶠ *ᶠ w in
    let y = inverse_root x in
    let s = leading_digits
    (x *ᶠ y *ᶠ of_bits binary64 0x3fd5_5555_5555_5555
    *ᶠ (1ᶠ +ᶠ w *ᶠ (of_bits binary64 0x3fa7_b425_ed09_7b42 +ᶠ w *ᶠ of_bits binary64 0x3f84_4673_81d7_dbf5)))
    (of_bits binary64 0x41d0_0000_0040_0000) in
    let q = s *ᶠ s in
    let f = x -ᶠ of_bits binary64 0x4022_0000_0000_0000 *ᶠ q
    +ᶠ (24ᶠ *ᶠ q *ᶠ q -ᶠ w *ᶠ w -ᶠ of_bits binary64 0x4030_0000_0000_0000 *ᶠ q *ᶠ q *ᶠ q) in
    s +ᶠ f /ᶠ (2ᶠ *ᶠ s
    *ᶠ (of_bits binary64 0x4022_0000_0000_0000 -ᶠ of_bits binary64 0x4048_0000_0000_0000 *ᶠ q *ᶠ (1ᶠ -ᶠ q))
    +ᶠ f *ᶠ y *ᶠ (of_bits binary64 0x3ff8_0000_0000_0000 -ᶠ 24ᶠ *ᶠ q))

-- 1 - 2 ^ -7
unfoldable pub sine_candidate : Float → Float → Float → Float → Float → Float
unfolding small_sine large_sine
sine_candidate t u d square rest =
    cond (of_bits binary64 0x3fef_c000_0000_0000 <ᶠ t) (small_sine t) (large_sine u d square rest)
