-- The cosine and the sine of a t that is not from -1 to 1, of ±1, and of a t near 0. Assumes nothing.
use mathlib.Core.Path.{◌≡◌, refl, sym, ap, ◌∙◌, subst}
use mathlib.Core.Logic.{inl, inr}
use Prim.Native.Nat.{ℕ, zero, suc, ◌+◌, ◌*◌, ◌/◌, ◌%◌, ◌^◌, ◌≤◌, ◌<◌}
use native.Mathlib.Nat.{eq-or-lt_of_le, le_trans, le_of_lt}
use native.Mathlib.Omega.{arith}
use mathlib.Core.Bool.{true, not}
use lib.Dec.{T, lit≤}
use lib.Pow.{pow_pos}
use lib.Ieee.{Float, nan, inf, fin, binary64, of_bits, to_bits, fits, is_nan}
use lib.Ieee.Bits.{of_bits-to_bits, to_bits-lt}
use Rattle.bits.specs.Fields.{pattern_units}
use Rattle.bits.proofs.Patterns.{pattern_most, units_lt, units_above}
use Rattle.elementary.specs.Functions.{third_angle_cosine_of, third_angle_sine_of}
use Rattle.elementary.proofs.Cosine.{cosine_of_value, cosine_outside}
use Rattle.elementary.proofs.Sine.{sine_of_value, sine_outside}
use Rattle.elementary.proofs.Values.{cosine_one, sine_one, cosine_minus_one, sine_minus_one}
use Rattle.algebraic.specs.Reals.{negative}
use Rattle.angle.proofs.Near.{cosine_near, sine_near}
use Rattle.angle.proofs.Values.{signed_value}

-- the cosine and the sine of t are c and s
abbrev pub Both : Float → Float → Float → Type 0
Both t c s = (c ≡ third_angle_cosine_of t) × (s ≡ third_angle_sine_of t)

pub not_a_number : (t : Float) → is_nan t ≡ true → Both t t t
unfolding third_angle_cosine_of third_angle_sine_of is_nan
not_a_number nan h = (refl, refl)
not_a_number (inf s) h = cc
not_a_number (fin s m e) h = cc

-- ---- by the sign bit and the pattern of the magnitude

infinite : (sign : ℕ) → sign < 2 → Both (of_bits binary64 (sign * 2 ^ 63 + 0x7ff0_0000_0000_0000)) nan nan
unfolding third_angle_cosine_of third_angle_sine_of of_bits
infinite zero h = (refl, refl)
infinite (suc zero) h = (refl, refl)
infinite (suc (suc s)) h = absurd (let z : ⊥ = omega arith in z)

outside_pattern : (sign m : ℕ) → sign < 2 → 0x3ff0_0000_0000_0000 < m → m ≤ 0x7ff0_0000_0000_0000
    → Both (of_bits binary64 (sign * 2 ^ 63 + m)) nan nan
outside_pattern sign m h a b = elim (eq-or-lt_of_le b) [
  | inl e ↦ subst (λ (x : ℕ). Both (of_bits binary64 (sign * 2 ^ 63 + x)) nan nan) (sym e) (infinite sign h)
  | inr l ↦
      let v = signed_value sign m h l in (
        sym (cosine_outside (of_bits binary64 (sign * 2 ^ 63 + m)) (negative sign) (pattern_units m) (2 ^ 1074) v
            (units_above m 1022 a)),
        sym (sine_outside (of_bits binary64 (sign * 2 ^ 63 + m)) (negative sign) (pattern_units m) (2 ^ 1074) v
            (units_above m 1022 a)),
      )
]

near_pattern : (sign m : ℕ) → sign < 2 → m < 0x3c80_0000_0000_0000
    → Both (of_bits binary64 (sign * 2 ^ 63 + m)) (of_bits binary64 0x3feb_b67a_e858_4caa)
    (of_bits binary64 0x3fe0_0000_0000_0000)
near_pattern sign m h l =
    let v = signed_value sign m h (let z : m < 0x7ff0_0000_0000_0000 = omega arith in z) in
    let u : pattern_units m ≤ 2 ^ 1019 = le_of_lt (units_lt m 966 (let z : m < 968 * 2 ^ 52 = omega arith in z)) in
    let o : pattern_units m ≤ 2 ^ 1074 = le_trans u (lit≤ tt) in (
      sym (cosine_of_value (of_bits binary64 (sign * 2 ^ 63 + m)) (negative sign) (pattern_units m) (2 ^ 1074) v
          (pow_pos 1074) o ∙ cosine_near (negative sign) (pattern_units m) u),
      sym (sine_of_value (of_bits binary64 (sign * 2 ^ 63 + m)) (negative sign) (pattern_units m) (2 ^ 1074) v
          (pow_pos 1074) o ∙ sine_near (negative sign) (pattern_units m) u),
    )

-- ---- of a double

module _ (t : Float) (held : T (fits binary64 t)) where
  pub sign_lt : to_bits binary64 t / 2 ^ 63 < 2
  sign_lt = let l = to_bits-lt binary64 t held in omega arith

  pub by_sign : t ≡ of_bits binary64 (to_bits binary64 t / 2 ^ 63 * 2 ^ 63 + to_bits binary64 t % 2 ^ 63)
  by_sign =
      sym (ap (of_bits binary64)
      (let z : to_bits binary64 t / 2 ^ 63 * 2 ^ 63 + to_bits binary64 t % 2 ^ 63 ≡ to_bits binary64 t = omega arith in z)
      ∙ of_bits-to_bits binary64 t held)

  from_pattern : (c s : Float)
      → Both (of_bits binary64 (to_bits binary64 t / 2 ^ 63 * 2 ^ 63 + to_bits binary64 t % 2 ^ 63)) c s → Both t c s
  from_pattern c s h = subst (λ (y : Float). Both y c s) (sym by_sign) h

  pub outside : T (not (is_nan t)) → 0x3ff0_0000_0000_0000 < to_bits binary64 t % 2 ^ 63
      → Both t nan nan
  outside n h =
      from_pattern nan nan
      (outside_pattern (to_bits binary64 t / 2 ^ 63) (to_bits binary64 t % 2 ^ 63) sign_lt h (pattern_most t held n))

  pub near : to_bits binary64 t % 2 ^ 63 < 0x3c80_0000_0000_0000
      → Both t (of_bits binary64 0x3feb_b67a_e858_4caa) (of_bits binary64 0x3fe0_0000_0000_0000)
  near h = from_pattern (of_bits binary64 0x3feb_b67a_e858_4caa) (of_bits binary64 0x3fe0_0000_0000_0000)
      (near_pattern (to_bits binary64 t / 2 ^ 63) (to_bits binary64 t % 2 ^ 63) sign_lt h)

  pub one : to_bits binary64 t ≡ 0x3ff0_0000_0000_0000
      → Both t (of_bits binary64 0x3ff0_0000_0000_0000) (of_bits binary64 0)
  one e = subst (λ (y : Float). Both y (of_bits binary64 0x3ff0_0000_0000_0000) (of_bits binary64 0))
      (ap (of_bits binary64) (sym e) ∙ of_bits-to_bits binary64 t held) (sym cosine_one, sym sine_one)

  pub minus_one : to_bits binary64 t % 2 ^ 63 ≡ 0x3ff0_0000_0000_0000
      → (to_bits binary64 t ≡ to_bits binary64 t % 2 ^ 63 → ⊥)
      → Both t (of_bits binary64 0x3fe0_0000_0000_0000) (of_bits binary64 0x3feb_b67a_e858_4caa)
  minus_one e n =
      subst (λ (y : Float). Both y (of_bits binary64 0x3fe0_0000_0000_0000) (of_bits binary64 0x3feb_b67a_e858_4caa))
      (ap (of_bits binary64) (sym is) ∙ of_bits-to_bits binary64 t held) (sym cosine_minus_one, sym sine_minus_one)
    where
      split : (b : ℕ) → b < 2 ^ 64 → b % 2 ^ 63 ≡ 0x3ff0_0000_0000_0000 → (b ≡ b % 2 ^ 63 → ⊥)
          → b ≡ 0xbff0_0000_0000_0000
      split b l e n = elim (native.Mathlib.Decide.dec_le (2 ^ 63) b) [
        | yes g ↦ omega arith
        | no g ↦ absurd
            (n (let z : b < 2 ^ 63 = native.Mathlib.Nat.lt_of_not-le g in let y : b ≡ b % 2 ^ 63 = omega arith in y))
      ]

      is : to_bits binary64 t ≡ 0xbff0_0000_0000_0000
      is = split (to_bits binary64 t) (to_bits-lt binary64 t held) e n
