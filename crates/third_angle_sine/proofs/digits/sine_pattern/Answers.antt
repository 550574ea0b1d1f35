-- `third_angle_sine::digits::sine_pattern` meets its contract. Assumes nothing.
use mathlib.Core.Path.{◌≡◌, sym, subst, ◌∙◌}
use Prim.Native.Nat.{ℕ, ◌+◌, ◌-◌, ◌*◌, ◌^◌, ◌%◌, ◌≤◌, ◌<◌}
use native.Mathlib.Omega.{arith}
use lib.Ieee.{binary64, of_bits}
use Rattle.elementary.specs.Binade.{InBinade, RoundsTo}
use Rattle.elementary.specs.Functions.{third_angle_sine_of}
use Rattle.elementary.proofs.Binade.{rounds_fits}
use Rattle.angle.specs.Arguments.{size_of}
use Rattle.angle.proofs.Values.{size_pos, size_most}
use Rattle.third_angle_sine.proofs.Rounding.{scaled, above_half, rounded_pattern}
use Rattle.third_angle_sine.proofs.digits.sine_pattern.Goals as goal

-- what a significand r in the binade of e gives, where v is the size of t
module _ (sign m e v r : ℕ) (bit : sign < 2) (least : 0x3c80_0000_0000_0000 ≤ m) (below : m < 0x3ff0_0000_0000_0000)
    (small : e < 28) (size : v ≡ size_of m) (rounds : RoundsTo (scaled sign v e) r) where
  most : r ≤ 2 ^ 53
  most = rounds_fits (scaled sign v e) r rounds

  result : ((1021 - e) * 2 ^ 52 + r < 0x7ff0_0000_0000_0000)
      × (of_bits binary64 ((1021 - e) * 2 ^ 52 + r) ≡ third_angle_sine_of (of_bits binary64 (sign * 2 ^ 63 + m)))
  result = (
    let h = most in omega arith,
    rounded_pattern sign m e bit least below (let z : e ≤ 1021 = omega arith in z) r
        (subst (λ (u : ℕ). RoundsTo (scaled sign u e) r) size rounds),
  )

  shifted : ((1021 - e) * 2 ^ 52 % 2 ^ 64 + r < 0x7ff0_0000_0000_0000)
      × (of_bits binary64 ((1021 - e) * 2 ^ 52 % 2 ^ 64 + r) ≡ third_angle_sine_of (of_bits binary64 (sign * 2 ^ 63 + m)))
  shifted =
      subst (λ (x : ℕ). (x + r < 0x7ff0_0000_0000_0000)
      × (of_bits binary64 (x + r) ≡ third_angle_sine_of (of_bits binary64 (sign * 2 ^ 63 + m))))
      (let z : (1021 - e) * 2 ^ 52 ≡ (1021 - e) * 2 ^ 52 % 2 ^ 64 = omega arith in z) result

-- the binade, by the sign bit
is_zero : (s u e : ℕ) → s ≡ 0 → InBinade (scaled 0 u e) → InBinade (scaled s u e)
is_zero s u e z h = subst (λ (x : ℕ). InBinade (scaled x u e)) (sym z) h

is_one : (s u : ℕ) → s < 2 → (s ≡ 0 → ⊥) → InBinade (scaled s u 0)
is_one s u l n = subst (λ (x : ℕ). InBinade (scaled x u 0)) (let z : 1 ≡ s = omega arith in z) (above_half u)

-- the sign bit of the binade is that of t
same_sign : (s x u e r : ℕ) → s ≡ 0 → x ≡ 0 → RoundsTo (scaled x u e) r → RoundsTo (scaled s u e) r
same_sign s x u e r a b h = subst (λ (y : ℕ). RoundsTo (scaled y u e) r) (b ∙ sym a) h

pub rising_binade-binade-requires : goal.rising_binade-binade-requires
rising_binade-binade-requires c = (
  subst (λ (u : ℕ). 0 < u) (sym c.size-t.ensures)
      (size_pos c.args.t.m c.args.t.least c.args.t.below),
  subst (λ (u : ℕ). u ≤ 2 ^ 128 - 2 ^ 75) (sym c.size-t.ensures)
      (size_most c.args.t.m c.args.t.least c.args.t.below),
)

pub rounded_by_digits-requires : goal.rounded_by_digits-requires
rounded_by_digits-requires c =
    is_zero c.rising_binade-binade.result.sign.bit _ c.rising_binade-binade.result.e
    c.rising_binade-binade.ensures.rising c.rising_binade-binade.ensures.in_binade

pub overflow_add-result : goal.overflow_add-result
overflow_add-result c =
    omega (
      arith,
      (shifted c.args.t.sign.bit c.args.t.m c.rising_binade-binade.result.e _ c.rounded_by_digits.result
          c.args.t.sign.is_bit c.args.t.least c.args.t.below c.rising_binade-binade.result.e_bound
          c.size-t.ensures (same_sign _ _ _ _ _ c.if-sign-eq0.true
          c.rising_binade-binade.ensures.rising c.rounded_by_digits.ensures)).0,
    )

pub returns-then-sign-eq0 : goal.returns-then-sign-eq0
returns-then-sign-eq0 c =
    shifted c.args.t.sign.bit c.args.t.m c.rising_binade-binade.result.e _ c.rounded_by_digits.result
    c.args.t.sign.is_bit c.args.t.least c.args.t.below c.rising_binade-binade.result.e_bound
    c.size-t.ensures (same_sign _ _ _ _ _ c.if-sign-eq0.true
    c.rising_binade-binade.ensures.rising c.rounded_by_digits.ensures)

pub rounded_by_digits-requires-2 : goal.rounded_by_digits-requires-2
rounded_by_digits-requires-2 c = is_one c.args.t.sign.bit _ c.args.t.sign.is_bit c.if-sign-eq0.false

pub overflow_add-result-2 : goal.overflow_add-result-2
overflow_add-result-2 c =
    omega (
      arith,
      (result c.args.t.sign.bit c.args.t.m 0 _ c.rounded_by_digits-2.result c.args.t.sign.is_bit
          c.args.t.least c.args.t.below (omega arith) c.size-t.ensures c.rounded_by_digits-2.ensures).0,
    )

pub returns : goal.returns
returns c =
    result c.args.t.sign.bit c.args.t.m 0 _ c.rounded_by_digits-2.result c.args.t.sign.is_bit
    c.args.t.least c.args.t.below (omega arith) c.size-t.ensures c.rounded_by_digits-2.ensures
