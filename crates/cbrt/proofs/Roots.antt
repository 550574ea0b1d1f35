-- The cube root of a double from its significand and exponent, and of a negative double. Assumes nothing.
use mathlib.Core.Path.{◌≡◌, refl, sym, ap, ap₂, ◌∙◌, subst}
use Prim.Native.Nat.{Ordering}
use Prim.Native.Nat.{ℕ, zero, suc, ◌+◌, ◌-◌, ◌*◌, ◌/◌, ◌%◌, ◌^◌, ◌≤◌, ◌<◌, compare}
use native.Mathlib.Nat.{zero-add, mul_assoc, mul-pos, le_trans, lt_of_lt_of_le, mul-le-mul_left, mul-le-mul_right}
use native.Mathlib.Nat.{mul-lt-mul_of_pos_right}
use native.Mathlib.Omega.{arith}
use mathlib.Core.Bool.{Bool, true, false, not, cond}
use lib.Dec.{ltb}
use lib.Pow.{pow_pos, pow-add, pow_mono}
use lib.Ieee.{Float, nan, inf, fin, binary64, units, odd, neg, of_bits}
use Rattle.bits.specs.Fields.{pattern_units, Normalized}
use Rattle.bits.proofs.Patterns.{pattern_value, pattern_units_pos, units_lt}
use Rattle.elementary.specs.Nearest.{Real, nearest_to, exponent_of, significand_of, Bounded}
use Rattle.elementary.specs.Reals.{cbrt_real}
use Rattle.elementary.specs.Functions.{cbrt_of}
use Rattle.elementary.specs.Binade.{InBinade, RoundsTo}
use Rattle.elementary.proofs.Order.{said, le→ge, compare_scaled}
use Rattle.elementary.proofs.Roots.{cbrt_bounded, cbrt_double_bounded, cbrt_of_value}
use Rattle.elementary.proofs.Binade.{binade_pattern, rounds_to_candidate}
use Rattle.midpoints.specs.Cubic.{cubic, Between}

-- ---- a negative double

pub neg_odd : (d : ℕ) (s : Bool) (q k l : ℕ) → neg (odd d s q k l) ≡ odd d (not s) q k l
unfolding neg odd
neg_odd d s zero k l = refl
neg_odd d s (suc q) k l = refl

neg_cond : (b s : Bool) (x y : Float) → neg x ≡ y → neg (cond b x (inf s)) ≡ cond b y (inf (not s))
unfolding neg
neg_cond true s x y e = e
neg_cond false s x y e = refl

neg_nearest : (s : Bool) (real : Real) (d : ℕ) → neg (nearest_to binary64 s real d) ≡ nearest_to binary64 (not s) real d
unfolding nearest_to units
neg_nearest s real d =
    let q = significand_of 53 real d in
    let k = exponent_of 53 real d in
    neg_cond (ltb (q * 2 ^ k) (2 ^ (1074 + 1024))) s (odd 54 s q k 1074) (odd 54 (not s) q k 1074)
    (neg_odd 54 s q k 1074)

pub cbrt_neg : (x : Float) → neg (cbrt_of x) ≡ cbrt_of (neg x)
unfolding neg cbrt_of
cbrt_neg nan = refl
cbrt_neg (inf s) = refl
cbrt_neg (fin s zero e) = refl
cbrt_neg (fin s (suc m) e) = neg_nearest s (cbrt_real (2 ^ 1075) (suc m * lib.Ieee.up e) (lib.Ieee.down e)) 1600

-- ---- the significand's root

-- the cube root of m * 2 ^ (107 + o)
abbrev pub root_of : ℕ → ℕ → Real
root_of m o = cbrt_real 1 (m * 2 ^ (107 + o)) 1

module _ (m o : ℕ) (normal : 2 ^ 52 ≤ m) (fits : m < 2 ^ 53) (third : o < 3) where
  bounded : Bounded (root_of m o) 54
  bounded = cbrt_bounded 1 (m * 2 ^ (107 + o)) 1 54 (let z : 0 < 1 = omega arith in z)
      (lt_of_lt_of_le
      (mul-lt-mul_of_pos_right (mul-lt-mul_of_pos_right fits (pow_pos (107 + o)))
      (let z : 0 < 1 = omega arith in z))
      (mul-le-mul_right 1 (mul-le-mul_left (2 ^ 53) (pow_mono (let z : 107 + o ≤ 109 = omega arith in z)))))

  pub in_binade : InBinade (root_of m o)
  in_binade = record {
    monotone = bounded.monotone;
    start = le→ge (m * 2 ^ (107 + o) * 1) (2 ^ 159 * 1)
        (mul-le-mul_right 1
        (le_trans (mul-le-mul_right (2 ^ 107) normal)
        (mul-le-mul_left m (pow_mono (let z : 107 ≤ 107 + o = omega arith in z)))));
    end = bounded.bound;
  }

  -- a candidate between whose midpoints the root lies
  pub certified : (n e : ℕ) → 2 ^ 52 < n → n < 2 ^ 53 → e * 2 ^ 54 ≡ m * 2 ^ (107 + o) → Between 0 (2 * n) e
      → RoundsTo (root_of m o) n
  certified n e lo hi is b =
      rounds_to_candidate (root_of m o) bounded.monotone n lo hi
      (said Ordering.gt (m * 2 ^ (107 + o) * 1) ((2 * n - 1) * (2 * n - 1) * (2 * n - 1) * 1)
      (times (cube_lt (2 * n - 1) (e * 2 ^ 54) (m * 2 ^ (107 + o)) is b.above)))
      (said Ordering.lt (m * 2 ^ (107 + o) * 1) ((2 * n + 1) * (2 * n + 1) * (2 * n + 1) * 1)
      (times (lt_cube (2 * n + 1) (e * 2 ^ 54) (m * 2 ^ (107 + o)) is b.below)))
    where
      times : {x y : ℕ} → x < y → x * 1 < y * 1
      times h = mul-lt-mul_of_pos_right h (let z : 0 < 1 = omega arith in z)

      same : (j : ℕ) → cubic 0 j ≡ j * j * j
      same j = ap (λ (x : ℕ). j * j * x) (let z : 0 * 2 ^ 53 + j ≡ j = omega arith in z)

      cube_lt : (j x y : ℕ) → x ≡ y → cubic 0 j < x → j * j * j < y
      cube_lt j x y e h = subst (λ (z : ℕ). z < y) (same j) (subst (λ (z : ℕ). cubic 0 j < z) e h)

      lt_cube : (j x y : ℕ) → x ≡ y → x < cubic 0 j → y < j * j * j
      lt_cube j x y e h = subst (λ (z : ℕ). y < z) (same j) (subst (λ (z : ℕ). z < cubic 0 j) e h)

-- ---- the root of the pattern b

module _ (b m x : ℕ) (n : Normalized b m x) (some : 0 < b) (finite : b < 0x7ff0_0000_0000_0000) where
  -- the magnitude is the significand's number in units of 2 ^ k units
  power : pattern_units b * 2 ^ 2151
      ≡ m * 2 ^ (107 + (x + 1022) % 3) * (2 ^ ((x + 1022) / 3) * 2 ^ ((x + 1022) / 3) * 2 ^ ((x + 1022) / 3))
  power =
      let k = (x + 1022) / 3 in
      let o = (x + 1022) % 3 in
      ap (λ (z : ℕ). pattern_units b * z) (pow-add 2 1022 1129)
      ∙ sym (mul_assoc (pattern_units b) (2 ^ 1022) (2 ^ 1129))
      ∙ ap (λ (z : ℕ). z * 2 ^ 1129) (sym n.value)
      ∙ mul_assoc m (2 ^ x) (2 ^ 1129)
      ∙ ap (λ (z : ℕ). m * z)
      (sym (pow-add 2 x 1129) ∙ ap (λ (z : ℕ). 2 ^ z) (let z : x + 1129 ≡ 107 + o + (k + k + k) = omega arith in z)
      ∙ pow-add 2 (107 + o) (k + k + k)
      ∙ ap (λ (z : ℕ). 2 ^ (107 + o) * z) (pow-add 2 (k + k) k ∙ ap (λ (z : ℕ). z * 2 ^ k) (pow-add 2 k k)))
      ∙ sym (mul_assoc m (2 ^ (107 + o)) (2 ^ k * 2 ^ k * 2 ^ k))

  same : (j : ℕ)
      → cbrt_real (2 ^ 1075) (pattern_units b) (2 ^ 1074) (j * 2 ^ ((x + 1022) / 3)) ≡ root_of m ((x + 1022) % 3) j
  same j = scaled (pattern_units b) (2 ^ 2151) (2 ^ 1074) (m * 2 ^ (107 + (x + 1022) % 3)) (2 ^ ((x + 1022) / 3)) power
      (pow_pos ((x + 1022) / 3)) (pow_pos 1074)
    where
      scaled : (a P D c u : ℕ) → a * P ≡ c * (u * u * u) → 0 < u → 0 < D
          → compare (a * (P * D)) (j * u * (j * u) * (j * u) * D) ≡ compare (c * 1) (j * j * j * 1)
      scaled a P D c u e pu pd =
          ap₂ (λ (y z : ℕ). compare y z)
          (let y : a * P * D ≡ c * (u * u * u) * D = ap (λ (w : ℕ). w * D) e in
          let z : a * (P * D) ≡ c * 1 * (u * u * u * D) = omega arith in z)
          (let z : j * u * (j * u) * (j * u) * D ≡ j * j * j * 1 * (u * u * u * D) = omega arith in z)
          ∙ compare_scaled (u * u * u * D) (c * 1) (j * j * j * 1) (mul-pos (mul-pos (mul-pos pu pu) pu) pd)

  pub root_pattern : (r : ℕ) → RoundsTo (root_of m ((x + 1022) % 3)) r
      → of_bits binary64 ((x + 1022) / 3 * 2 ^ 52 + r) ≡ cbrt_of (of_bits binary64 b)
  root_pattern r h =
      ap (of_bits binary64) (sym (zero-add ((x + 1022) / 3 * 2 ^ 52 + r)))
      ∙ binade_pattern (cbrt_real (2 ^ 1075) (pattern_units b) (2 ^ 1074)) (root_of m ((x + 1022) % 3)) 1600
      (cbrt_double_bounded (pattern_units b) (2 ^ 1074) (pow_pos 1074)
      (units_lt b 2045 (let z : b < 2047 * 2 ^ 52 = omega arith in z)))
      ((x + 1022) / 3) (let z = n.most in let y : (x + 1022) / 3 < 2044 = omega arith in y) same false r h
      ∙ sym (cbrt_of_value (of_bits binary64 b) false (pattern_units b) (2 ^ 1074)
      (pattern_value false b b finite (sym (zero-add b))) (pattern_units_pos b some) (pow_pos 1074))
