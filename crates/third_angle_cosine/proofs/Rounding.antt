-- The cosine in its binade, from 1/2 to 1, in units of 2 ^ -53: by its digits, and by a
-- candidate's certificate. Assumes nothing.
use mathlib.Core.Path.{◌≡◌, refl, sym, ap, ◌∙◌, subst}
use mathlib.Core.Logic.{inl, inr}
use Prim.Native.Nat.{ℕ, zero, suc, ◌+◌, ◌-◌, ◌*◌, ◌/◌, ◌%◌, ◌^◌, ◌≤◌, ◌<◌, Ordering}
use native.Mathlib.Nat.{zero-add, mul_assoc, le_of_lt, eq-or-lt_of_le}
use native.Mathlib.Omega.{arith}
use mathlib.Core.Bool.{false}
use lib.Dec.{T, ltb, lit<}
use lib.Pow.{pow_pos, pow-add}
use borrow.Author.Tests.{le-ltb}
use lib.Ieee.{binary64, of_bits, nearest}
use Rattle.elementary.specs.Nearest.{Real, is_ge}
use Rattle.elementary.specs.Reals.{third_angle_cosine_real}
use Rattle.elementary.specs.Functions.{third_angle_cosine_of}
use Rattle.elementary.specs.Binade.{InBinade, RoundsTo}
use Rattle.elementary.proofs.Order.{gt→ge, at_most_le}
use Rattle.elementary.proofs.Fractions.{cosine_scale}
use Rattle.elementary.proofs.Cosine.{cond_false, cosine_monotone, cosine_double_bounded, cosine_of_value}
use Rattle.elementary.proofs.Binade.{binade_pattern, rounds_to_candidate}
use Rattle.algebraic.specs.Reals.{negative}
use Rattle.midpoints.specs.Cubic.{cubic, Between}
use Rattle.angle.specs.Arguments.{size_of}
use Rattle.angle.proofs.Values.{inside_value, size_lt}
use Rattle.third_angle_cosine.specs.Scaled.{size_at, IsOnePlus}
use Rattle.third_angle_cosine.proofs.Sides.{sides, greater_plus, less_plus, greater_minus, less_minus, at_half}
use Rattle.third_angle_cosine.proofs.Sides.{at_one}

abbrev pub scaled : ℕ → ℕ → Real
scaled sign u = third_angle_cosine_real (2 ^ 54) (negative sign) u (2 ^ 128)

-- from 1/2 on the comparison is that of the sides
from_half : (sign u n : ℕ) → 2 ^ 53 ≤ n → scaled sign u n ≡ sides (2 ^ 54) (negative sign) u (2 ^ 128) n
from_half sign u n h =
    cond_false (ltb (2 * n) (2 ^ 54)) Ordering.gt (sides (2 ^ 54) (negative sign) u (2 ^ 128) n)
    (le-ltb (2 * n) (2 ^ 54) (let z : 2 ^ 54 ≤ 2 * n = omega arith in z))

pub in_binade : (sign u : ℕ) → u < 2 ^ 128 → InBinade (scaled sign u)
in_binade sign u h = record {
  monotone = cosine_monotone (2 ^ 54) (negative sign) u (2 ^ 128) (pow_pos 128);
  start = subst (λ (o : Ordering). T (is_ge o)) (sym (from_half sign u (2 ^ 53) (lib.Dec.lit≤ tt)))
      (at_half (2 ^ 53) u (2 ^ 128) h (negative sign));
  end = from_half sign u (2 ^ 54) (lib.Dec.lit≤ tt) ∙ at_one (2 ^ 53) u (2 ^ 128) h (pow_pos 53) (negative sign);
}

-- ---- the candidate 2 ^ 52 + h, with 2h as the place between the midpoints

joined : (u x : ℕ) → u * 2 ^ 162 ≡ x → u * 2 ^ 54 * 2 ^ 54 * 2 ^ 54 ≡ x
joined u x e = mul_assoc (u * 2 ^ 54) (2 ^ 54) (2 ^ 54) ∙ mul_assoc u (2 ^ 54) (2 ^ 108) ∙ e

module _ (t u e i : ℕ) (size : u * 2 ^ 162 ≡ t * 2 ^ 54 * 2 ^ 130) where
  greater : (sign : ℕ) → sign < 2 → IsOnePlus sign t e → cubic 3 i < e * 2 ^ 54
      → scaled sign u (2 ^ 53 + i) ≡ Ordering.gt
  greater zero h p l =
      from_half 0 u (2 ^ 53 + i) (omega arith)
      ∙ greater_plus (2 ^ 53) (2 ^ 54) (2 ^ 106) t u (2 ^ 128) i (pow_pos 128)
      (joined u (t * 2 ^ 54 * 2 ^ 130) size) e refl p l
  greater (suc zero) h p l =
      from_half 1 u (2 ^ 53 + i) (omega arith)
      ∙ greater_minus (2 ^ 53) (2 ^ 54) (2 ^ 106) t u (2 ^ 128) i (pow_pos 128)
      (joined u (t * 2 ^ 54 * 2 ^ 130) size) e refl p l
  greater (suc (suc s)) h p l = absurd (let z : ⊥ = omega arith in z)

  less : (sign : ℕ) → sign < 2 → IsOnePlus sign t e → e * 2 ^ 54 < cubic 3 i → scaled sign u (2 ^ 53 + i) ≡ Ordering.lt
  less zero h p l =
      from_half 0 u (2 ^ 53 + i) (omega arith)
      ∙ less_plus (2 ^ 53) (2 ^ 54) (2 ^ 106) t u (2 ^ 128) i (pow_pos 128)
      (joined u (t * 2 ^ 54 * 2 ^ 130) size) e refl p l
  less (suc zero) h p l =
      from_half 1 u (2 ^ 53 + i) (omega arith)
      ∙ less_minus (2 ^ 53) (2 ^ 54) (2 ^ 106) t u (2 ^ 128) i (pow_pos 128)
      (joined u (t * 2 ^ 54 * 2 ^ 130) size) e refl p l
  less (suc (suc s)) h p l = absurd (let z : ⊥ = omega arith in z)

-- a real at most 2 ^ 54 that is above the last midpoint rounds to 2 ^ 53
rounds_to_end : (real : Real) → InBinade real → real (2 ^ 54 - 1) ≡ Ordering.gt → RoundsTo real (2 ^ 53)
rounds_to_end real f under = record {
  q = 2 ^ 53 - 1;
  normal = lib.Dec.lit≤ tt;
  fits = lit< tt;
  lower = at_most_le real f.monotone (2 * (2 ^ 53 - 1)) (2 ^ 54 - 1) (lib.Dec.lit≤ tt)
      (gt→ge (real (2 ^ 54 - 1)) under);
  upper = f.end;
  is = sym (ap (nearest (2 ^ 53 - 1)) under);
}

module _ (sign m : ℕ) (bit : sign < 2) (below : m < 0x3ff0_0000_0000_0000) where
  size_scaled : 0x3c90_0000_0000_0000 ≤ m → size_of m * 2 ^ 162 ≡ size_at m * 2 ^ 54 * 2 ^ 130
  size_scaled least =
      ap (λ (x : ℕ). (m % 2 ^ 52 + 2 ^ 52) * x * 2 ^ 162)
      (ap (λ (x : ℕ). 2 ^ x) (let z : m / 2 ^ 52 - 947 ≡ m / 2 ^ 52 - 969 + 22 = omega arith in z)
      ∙ pow-add 2 (m / 2 ^ 52 - 969) 22)
      ∙ ap (λ (x : ℕ). x * 2 ^ 162) (sym (mul_assoc (m % 2 ^ 52 + 2 ^ 52) (2 ^ (m / 2 ^ 52 - 969)) (2 ^ 22)))
      ∙ mul_assoc (size_at m) (2 ^ 22) (2 ^ 162)
      ∙ sym (mul_assoc (size_at m) (2 ^ 54) (2 ^ 130))

  pub certified : (e h : ℕ) → 0x3c90_0000_0000_0000 ≤ m → 0 < h → h ≤ 2 ^ 52 → IsOnePlus sign (size_at m) e
      → Between 3 (2 * h) e → RoundsTo (scaled sign (size_of m)) (2 ^ 52 + h)
  certified e h least some most one b = elim (eq-or-lt_of_le most) [
    | inl end ↦
        subst (λ (x : ℕ). RoundsTo (scaled sign (size_of m)) (2 ^ 52 + x)) (sym end)
        (rounds_to_end (scaled sign (size_of m)) (in_binade sign (size_of m) lt)
        (subst (λ (x : ℕ). scaled sign (size_of m) (2 ^ 53 + (2 * x - 1)) ≡ Ordering.gt) end under))
    | inr l ↦
        rounds_to_candidate (scaled sign (size_of m))
        (cosine_monotone (2 ^ 54) (negative sign) (size_of m) (2 ^ 128) (pow_pos 128)) (2 ^ 52 + h) (omega arith)
        (omega arith)
        (ap (scaled sign (size_of m)) (let z : 2 * (2 ^ 52 + h) - 1 ≡ 2 ^ 53 + (2 * h - 1) = omega arith in z) ∙ under)
        (ap (scaled sign (size_of m)) (let z : 2 * (2 ^ 52 + h) + 1 ≡ 2 ^ 53 + (2 * h + 1) = omega arith in z)
        ∙ less (size_at m) (size_of m) e (2 * h + 1) (size_scaled least) sign bit one b.below)
  ]
    where
      lt : size_of m < 2 ^ 128
      lt = size_lt m (let z : 0x3c80_0000_0000_0000 ≤ m = omega arith in z) below

      under : scaled sign (size_of m) (2 ^ 53 + (2 * h - 1)) ≡ Ordering.gt
      under = greater (size_at m) (size_of m) e (2 * h - 1) (size_scaled least) sign bit one b.above

  pub rounded_pattern : 0x3c80_0000_0000_0000 ≤ m → (r : ℕ) → RoundsTo (scaled sign (size_of m)) r
      → of_bits binary64 (0x3fd0_0000_0000_0000 + r) ≡ third_angle_cosine_of (of_bits binary64 (sign * 2 ^ 63 + m))
  rounded_pattern least r h =
      let small : size_of m ≤ 2 ^ 128 = le_of_lt (size_lt m least below) in
      ap (of_bits binary64) (sym (zero-add (0x3fd0_0000_0000_0000 + r)))
      ∙ binade_pattern (third_angle_cosine_real (2 ^ 1075) (negative sign) (size_of m) (2 ^ 128))
      (scaled sign (size_of m)) 1077
      (cosine_double_bounded (negative sign) (size_of m) (2 ^ 128) (pow_pos 128) small) 1021 (lit< tt)
      (λ n. cosine_scale (2 ^ 1021) (pow_pos 1021) (2 ^ 54) (size_of m) (2 ^ 128) n (negative sign)) false r h
      ∙ sym (cosine_of_value (of_bits binary64 (sign * 2 ^ 63 + m)) (negative sign) (size_of m) (2 ^ 128)
      (inside_value m least below sign bit) (pow_pos 128) small)
