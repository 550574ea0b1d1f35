-- The value of t by its pattern: as a fraction of 2 ^ 1074 for every finite t, and of 2 ^ 128
-- for a t from 2 ^ -55 up to 1. Assumes nothing.
use mathlib.Core.Path.{◌≡◌, sym, ap, ◌∙◌, subst}
use Prim.Native.Nat.{ℕ, zero, suc, ◌+◌, ◌-◌, ◌*◌, ◌/◌, ◌%◌, ◌^◌, ◌≤◌, ◌<◌}
use native.Mathlib.Nat.{mul_assoc, mul-pos, le_trans, mul-le-mul_left, mul-le-mul_right, eq_of_mul-eq-mul_right}
use native.Mathlib.Omega.{arith}
use mathlib.Core.Bool.{Bool, true, false}
use lib.Dec.{lit≤}
use lib.Pow.{pow_pos, pow-add, pow_mono}
use lib.Ieee.{Float, nan, inf, fin, binary64, up, down, of_bits}
use lib.Ieee.Exact.{HasValue}
use Rattle.bits.specs.Fields.{pattern_units}
use Rattle.bits.proofs.Patterns.{pattern_value, units_at}
use Rattle.algebraic.specs.Reals.{negative}
use Rattle.angle.specs.Arguments.{size_of}

pub signed_value : (sign m : ℕ) → sign < 2 → m < 0x7ff0_0000_0000_0000
    → HasValue (of_bits binary64 (sign * 2 ^ 63 + m)) (negative sign) (pattern_units m) (2 ^ 1074)
signed_value zero m h l = pattern_value false m (0 * 2 ^ 63 + m) l (let z : 0 * 2 ^ 63 + m ≡ 0 + m = omega arith in z)
signed_value (suc zero) m h l =
    pattern_value true m (1 * 2 ^ 63 + m) l (let z : 1 * 2 ^ 63 + m ≡ 2 ^ 63 + m = omega arith in z)
signed_value (suc (suc s)) m h l = absurd (let z : ⊥ = omega arith in z)

-- a common factor of the fraction
reduced : (x : Float) (s : Bool) (a c k : ℕ) → 0 < k → HasValue x s (a * k) (c * k) → HasValue x s a c
reduced nan s a c k p h = absurd h
reduced (inf t) s a c k p h = absurd h
reduced (fin t m e) s a c k p h = (
  h.0,
  eq_of_mul-eq-mul_right k p (m * up e * c) (a * down e)
      (mul_assoc (m * up e) c k ∙ h.1 ∙ moved a k (down e)),
)
  where
    moved : (a k d : ℕ) → a * k * d ≡ a * d * k
    moved a k d = omega arith

module _ (m : ℕ) (least : 0x3c80_0000_0000_0000 ≤ m) (below : m < 0x3ff0_0000_0000_0000) where
  size_units : pattern_units m ≡ size_of m * 2 ^ 946
  size_units =
      units_at m (m / 2 ^ 52 - 1) (let z : m / 2 ^ 52 ≡ suc (m / 2 ^ 52 - 1) = omega arith in z)
      ∙ ap (λ (x : ℕ). (m % 2 ^ 52 + 2 ^ 52) * x)
      (ap (λ (x : ℕ). 2 ^ x) (let z : m / 2 ^ 52 - 1 ≡ m / 2 ^ 52 - 947 + 946 = omega arith in z)
      ∙ pow-add 2 (m / 2 ^ 52 - 947) 946)
      ∙ sym (mul_assoc (m % 2 ^ 52 + 2 ^ 52) (2 ^ (m / 2 ^ 52 - 947)) (2 ^ 946))

  pub inside_value : (sign : ℕ) → sign < 2
      → HasValue (of_bits binary64 (sign * 2 ^ 63 + m)) (negative sign) (size_of m) (2 ^ 128)
  inside_value sign h =
      reduced (of_bits binary64 (sign * 2 ^ 63 + m)) (negative sign) (size_of m) (2 ^ 128) (2 ^ 946) (pow_pos 946)
      (subst (λ (x : ℕ). HasValue (of_bits binary64 (sign * 2 ^ 63 + m)) (negative sign) x (2 ^ 1074)) size_units
      (signed_value sign m h (let z : m < 0x7ff0_0000_0000_0000 = omega arith in z)))

  pub size_pos : 0 < size_of m
  size_pos = mul-pos (let z : 0 < m % 2 ^ 52 + 2 ^ 52 = omega arith in z) (pow_pos (m / 2 ^ 52 - 947))

  -- a double below 1 is at most 1 - 2 ^ -53
  pub size_most : size_of m ≤ 2 ^ 128 - 2 ^ 75
  size_most = le_trans
      (mul-le-mul_right (2 ^ (m / 2 ^ 52 - 947)) (let z : m % 2 ^ 52 + 2 ^ 52 ≤ 2 ^ 53 - 1 = omega arith in z))
      (le_trans (mul-le-mul_left (2 ^ 53 - 1) (pow_mono (let z : m / 2 ^ 52 - 947 ≤ 75 = omega arith in z))) (lit≤ tt))

  pub size_lt : size_of m < 2 ^ 128
  size_lt = native.Mathlib.Nat.lt_of_le_of_lt size_most (lib.Dec.lit< tt)
