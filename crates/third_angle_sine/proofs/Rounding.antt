-- The sine in its binade, from 2 ^ -(e + 1) to 2 ^ -e, in units of 2 ^ -(53 + e). Assumes nothing.
use mathlib.Core.Path.{◌≡◌, refl, sym, ap, ◌∙◌}
use Prim.Native.Nat.{ℕ, suc, ◌+◌, ◌-◌, ◌*◌, ◌^◌, ◌≤◌, ◌<◌, compare, Ordering}
use native.Mathlib.Nat.{zero-add, le_of_lt, le_trans, lt_of_lt_of_le, le-add_right, add-le-add, le_refl, mul-pos}
use native.Mathlib.Nat.{mul-le-mul_right}
use native.Mathlib.Omega.{arith}
use mathlib.Core.Bool.{false}
use lib.Dec.{T, lit<, lit≤}
use lib.Pow.{pow_pos, pow-add}
use lib.Ieee.{binary64, of_bits}
use Rattle.elementary.specs.Nearest.{Real, is_ge, AtMost, Above}
use Rattle.elementary.specs.Reals.{third_angle_sine_real, opposite}
use Rattle.elementary.specs.Functions.{third_angle_sine_of}
use Rattle.elementary.specs.Binade.{InBinade, RoundsTo}
use Rattle.elementary.proofs.Order.{Says, says, said, le→ge, square_le}
use Rattle.elementary.proofs.Fractions.{sine_scale}
use Rattle.elementary.proofs.Sine.{sine_monotone, sine_double_bounded, sine_of_value}
use Rattle.elementary.proofs.Binade.{binade_pattern}
use Rattle.algebraic.specs.Reals.{negative}
use Rattle.angle.specs.Arguments.{size_of}
use Rattle.angle.proofs.Values.{inside_value, size_lt}

abbrev pub scaled : ℕ → ℕ → ℕ → Real
scaled sign u e = third_angle_sine_real (2 ^ (54 + e)) (negative sign) u (2 ^ 128)

pub monotone : (sign u e : ℕ) → Rattle.elementary.specs.Nearest.Monotone (scaled sign u e)
monotone sign u e = sine_monotone (2 ^ (54 + e)) (negative sign) u (2 ^ 128) (pow_pos (54 + e)) (pow_pos 128)

-- ---- t above 0

-- the sides at q = n², with Q for one² and B for the denominator's square
abbrev L : ℕ → ℕ → ℕ → ℕ
L Q B q = (Q * Q * Q + 24 * q * q * Q) * B

abbrev R : ℕ → ℕ → ℕ → ℕ → ℕ
R Q B q u = (16 * q * q * q + 9 * q * Q * Q) * B + u * u * (Q * Q * Q)

-- the sine is below 1/2
pub below_half : (u : ℕ) → 0 < u → Above (2 ^ 54) (scaled 0 u 1)
below_half u h =
    said Ordering.lt (L (2 ^ 110) (2 ^ 256) (2 ^ 108)) (R (2 ^ 110) (2 ^ 256) (2 ^ 108) u)
    (lt_of_lt_of_le
    (lit< {m = L (2 ^ 110) (2 ^ 256) (2 ^ 108)}
    {n = (16 * 2 ^ 108 * 2 ^ 108 * 2 ^ 108 + 9 * 2 ^ 108 * 2 ^ 110 * 2 ^ 110) * 2 ^ 256 + 1} tt)
    (add-le-add (le_refl ((16 * 2 ^ 108 * 2 ^ 108 * 2 ^ 108 + 9 * 2 ^ 108 * 2 ^ 110 * 2 ^ 110) * 2 ^ 256))
    (mul-pos (mul-pos h h) (pow_pos 330))))

-- the least sine, of the largest double t below 1, is above 2 ^ -28
pub above_least : (u : ℕ) → u ≤ 2 ^ 128 - 2 ^ 75 → AtMost (2 ^ 53) (scaled 0 u 27)
above_least u h =
    le→ge (L (2 ^ 162) (2 ^ 256) (2 ^ 106)) (R (2 ^ 162) (2 ^ 256) (2 ^ 106) u)
    (le_trans (add-le-add (le_refl ((16 * 2 ^ 106 * 2 ^ 106 * 2 ^ 106 + 9 * 2 ^ 106 * 2 ^ 162 * 2 ^ 162) * 2 ^ 256))
    (mul-le-mul_right (2 ^ 162 * 2 ^ 162 * 2 ^ 162) (square_le u (2 ^ 128 - 2 ^ 75) h))) (lit≤ tt))

-- below 2 ^ -(e + 1): 2 ^ 54 in the next binade is 2 ^ 53 in this one
pub next_binade : (u e : ℕ) → Above (2 ^ 53) (scaled 0 u e) → Above (2 ^ 54) (scaled 0 u (suc e))
next_binade u e h =
    ap (λ (one : ℕ). third_angle_sine_real one false u (2 ^ 128) (2 ^ 54))
    (ap (λ (x : ℕ). 2 ^ x) (let z : 54 + suc e ≡ 54 + e + 1 = omega arith in z) ∙ pow-add 2 (54 + e) 1)
    ∙ sine_scale 2 (lit< tt) (2 ^ (54 + e)) u (2 ^ 128) (2 ^ 53) false
    ∙ h

-- ---- t below 0: the sine is from 1/2 to √3 / 2

opposite_of_le : (n m : ℕ) → n ≤ m → T (is_ge (opposite (compare n m)))
opposite_of_le n m h = go (compare n m) (says n m)
  where
    go : (o : Ordering) → Says o n m → T (is_ge (opposite o))
    go Ordering.lt x = tt
    go Ordering.eq x = tt
    go Ordering.gt x = absurd (let z : ⊥ = omega arith in z)

pub above_half : (u : ℕ) → InBinade (scaled 1 u 0)
above_half u = record {
  monotone = monotone 1 u 0;
  start = opposite_of_le (L (2 ^ 108) (2 ^ 256) (2 ^ 106)) (R (2 ^ 108) (2 ^ 256) (2 ^ 106) u)
      (le_trans (lit≤ tt)
      (le-add_right ((16 * 2 ^ 106 * 2 ^ 106 * 2 ^ 106 + 9 * 2 ^ 106 * 2 ^ 108 * 2 ^ 108) * 2 ^ 256)
      (u * u * (2 ^ 108 * 2 ^ 108 * 2 ^ 108))));
  end = refl;
}

-- ---- the pattern

module _ (sign m e : ℕ) (bit : sign < 2) (least : 0x3c80_0000_0000_0000 ≤ m) (below : m < 0x3ff0_0000_0000_0000)
    (small : e ≤ 1021) where
  same : (n : ℕ)
      → third_angle_sine_real (2 ^ 1075) (negative sign) (size_of m) (2 ^ 128) (n * 2 ^ (1021 - e))
      ≡ scaled sign (size_of m) e n
  same n =
      ap (λ (one : ℕ). third_angle_sine_real one (negative sign) (size_of m) (2 ^ 128) (n * 2 ^ (1021 - e)))
      (ap (λ (x : ℕ). 2 ^ x) (let z : 1075 ≡ 54 + e + (1021 - e) = omega arith in z)
      ∙ pow-add 2 (54 + e) (1021 - e))
      ∙ sine_scale (2 ^ (1021 - e)) (pow_pos (1021 - e)) (2 ^ (54 + e)) (size_of m) (2 ^ 128) n (negative sign)

  pub rounded_pattern : (r : ℕ) → RoundsTo (scaled sign (size_of m) e) r
      → of_bits binary64 ((1021 - e) * 2 ^ 52 + r) ≡ third_angle_sine_of (of_bits binary64 (sign * 2 ^ 63 + m))
  rounded_pattern r h =
      let most : size_of m ≤ 2 ^ 128 = le_of_lt (size_lt m least below) in
      ap (of_bits binary64) (sym (zero-add ((1021 - e) * 2 ^ 52 + r)))
      ∙ binade_pattern (third_angle_sine_real (2 ^ 1075) (negative sign) (size_of m) (2 ^ 128))
      (scaled sign (size_of m) e) 1077 (sine_double_bounded (negative sign) (size_of m) (2 ^ 128) (pow_pos 128) most)
      (1021 - e) (let z : 1021 - e < 2044 = omega arith in z) same false r h
      ∙ sym (sine_of_value (of_bits binary64 (sign * 2 ^ 63 + m)) (negative sign) (size_of m) (2 ^ 128)
      (inside_value m least below sign bit) (pow_pos 128) most)
