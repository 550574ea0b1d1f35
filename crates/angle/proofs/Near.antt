-- A t of at most 2 ^ -55 in size: the cosine is the double nearest to √3 / 2, and the sine is 1/2. Assumes nothing.
use mathlib.Core.Path.{◌≡◌, refl, sym, ap, ◌∙◌, subst}
use mathlib.Core.Logic.{inl, inr}
use Prim.Native.Nat.{ℕ, suc, ◌+◌, ◌-◌, ◌*◌, ◌^◌, ◌≤◌, ◌<◌, compare, Ordering}
use native.Mathlib.Nat.{add-le-add, le_refl, le_trans, lt_of_le_of_lt, mul-le-mul_right}
use native.Mathlib.Omega.{arith}
use mathlib.Core.Bool.{Bool, true, false, cond}
use lib.Dec.{T, ltb, lit<, lit≤}
use lib.Pow.{pow_pos}
use lib.Ieee.{binary64, units, of_bits, nearest}
use Rattle.elementary.specs.Nearest.{is_ge, nearest_to}
use Rattle.elementary.specs.Reals.{third_angle_cosine_real, third_angle_sine_real, opposite}
use Rattle.elementary.proofs.Order.{said, square_le, ge_or_lt, above_le}
use Rattle.elementary.proofs.Cosine.{cond_false, cosine_double_bounded}
use Rattle.elementary.proofs.Sine.{sine_double_bounded}
use Rattle.elementary.proofs.Bracket.{nearest_of_bracket, nearest_of_midpoints}

-- a term of t, of at most M, on the left side or on the right
gt_both : (A C M P : ℕ) → P ≤ M → C + M < A → (s : Bool) → compare (A + cond s 0 P) (C + cond s P 0) ≡ Ordering.gt
gt_both A C M P h l false = said Ordering.gt (A + P) (C + 0) (let z : C + 0 < A + P = omega arith in z)
gt_both A C M P h l true = said Ordering.gt (A + 0) (C + P) (let z : C + P < A + 0 = omega arith in z)

lt_both : (A C M P : ℕ) → P ≤ M → A + M < C → (s : Bool) → compare (A + cond s 0 P) (C + cond s P 0) ≡ Ordering.lt
lt_both A C M P h l false = said Ordering.lt (A + P) (C + 0) (let z : A + P < C + 0 = omega arith in z)
lt_both A C M P h l true = said Ordering.lt (A + 0) (C + P) (let z : A + 0 < C + P = omega arith in z)

module _ (s : Bool) (X : ℕ) (h : X ≤ 2 ^ 1019) where
  at_most_one : X ≤ 2 ^ 1074
  at_most_one = le_trans h (lit≤ tt)

  -- ---- the cosine

  part : X * 2 ^ 1075 * 2 ^ 1075 * 2 ^ 1075 ≤ 2 ^ 1019 * 2 ^ 1075 * 2 ^ 1075 * 2 ^ 1075
  part = mul-le-mul_right (2 ^ 1075) (mul-le-mul_right (2 ^ 1075) (mul-le-mul_right (2 ^ 1075) h))

  abbrev sides : ℕ → Ordering
  sides n = compare (3 * n * 2 ^ 1075 * 2 ^ 1075 * 2 ^ 1074 + cond s 0 (X * 2 ^ 1075 * 2 ^ 1075 * 2 ^ 1075))
      (4 * n * n * n * 2 ^ 1074 + cond s (X * 2 ^ 1075 * 2 ^ 1075 * 2 ^ 1075) 0)

  greater : (n : ℕ) → ltb (2 * n) (2 ^ 1075) ≡ false
      → 4 * n * n * n * 2 ^ 1074 + 2 ^ 1019 * 2 ^ 1075 * 2 ^ 1075 * 2 ^ 1075 < 3 * n * 2 ^ 1075 * 2 ^ 1075 * 2 ^ 1074
      → third_angle_cosine_real (2 ^ 1075) s X (2 ^ 1074) n ≡ Ordering.gt
  greater n g l =
      cond_false (ltb (2 * n) (2 ^ 1075)) Ordering.gt (sides n) g
      ∙ gt_both (3 * n * 2 ^ 1075 * 2 ^ 1075 * 2 ^ 1074) (4 * n * n * n * 2 ^ 1074)
      (2 ^ 1019 * 2 ^ 1075 * 2 ^ 1075 * 2 ^ 1075) (X * 2 ^ 1075 * 2 ^ 1075 * 2 ^ 1075) part l s

  less : (n : ℕ) → ltb (2 * n) (2 ^ 1075) ≡ false
      → 3 * n * 2 ^ 1075 * 2 ^ 1075 * 2 ^ 1074 + 2 ^ 1019 * 2 ^ 1075 * 2 ^ 1075 * 2 ^ 1075 < 4 * n * n * n * 2 ^ 1074
      → third_angle_cosine_real (2 ^ 1075) s X (2 ^ 1074) n ≡ Ordering.lt
  less n g l =
      cond_false (ltb (2 * n) (2 ^ 1075)) Ordering.gt (sides n) g
      ∙ lt_both (3 * n * 2 ^ 1075 * 2 ^ 1075 * 2 ^ 1074) (4 * n * n * n * 2 ^ 1074)
      (2 ^ 1019 * 2 ^ 1075 * 2 ^ 1075 * 2 ^ 1075) (X * 2 ^ 1075 * 2 ^ 1075 * 2 ^ 1075) part l s

  root_three : units binary64 false 0x1b_b67a_e858_4caa 1021 ≡ of_bits binary64 0x3feb_b67a_e858_4caa
  unfolding units of_bits
  root_three = refl

  pub cosine_near : nearest_to binary64 false (third_angle_cosine_real (2 ^ 1075) s X (2 ^ 1074)) 1077
      ≡ of_bits binary64 0x3feb_b67a_e858_4caa
  cosine_near =
      nearest_of_midpoints binary64 false (third_angle_cosine_real (2 ^ 1075) s X (2 ^ 1074)) 1077
      (cosine_double_bounded s X (2 ^ 1074) (pow_pos 1074) at_most_one) 0x1b_b67a_e858_4ca9 1021
      (subst (λ (o : Ordering). T (is_ge o)) (sym (greater (2 ^ 52 * 2 ^ 1022) refl (lit< tt))) tt)
      (less (2 ^ 53 * 2 ^ 1022) refl (lit< tt))
      (greater ((2 * 0x1b_b67a_e858_4ca9 + 1) * 2 ^ 1021) refl (lit< tt))
      (less ((2 * 0x1b_b67a_e858_4caa + 1) * 2 ^ 1021) refl (lit< tt))
      ∙ root_three

  -- ---- the sine, by the sides of its equation

  abbrev L : ℕ → ℕ
  L n = (2 ^ 2150 * 2 ^ 2150 * 2 ^ 2150 + 24 * (n * n) * (n * n) * 2 ^ 2150) * (2 ^ 1074 * 2 ^ 1074)

  abbrev R : ℕ → ℕ → ℕ
  R x n = (16 * (n * n) * (n * n) * (n * n) + 9 * (n * n) * 2 ^ 2150 * 2 ^ 2150) * (2 ^ 1074 * 2 ^ 1074)
      + x * x * (2 ^ 2150 * 2 ^ 2150 * 2 ^ 2150)

  R-most : (n : ℕ) → R X n ≤ R (2 ^ 1019) n
  R-most n = add-le-add
      (le_refl ((16 * (n * n) * (n * n) * (n * n) + 9 * (n * n) * 2 ^ 2150 * 2 ^ 2150) * (2 ^ 1074 * 2 ^ 1074)))
      (mul-le-mul_right (2 ^ 2150 * 2 ^ 2150 * 2 ^ 2150) (square_le X (2 ^ 1019) h))

  -- below 1/2, and above it
  under_half : (n : ℕ) → ltb (2 * n) (2 ^ 1075) ≡ true → ltb (2 ^ 1075) (2 * n) ≡ false → R (2 ^ 1019) n < L n
      → third_angle_sine_real (2 ^ 1075) s X (2 ^ 1074) n ≡ Ordering.gt
  under_half n a b l = go s
    where
      go : (s : Bool) → third_angle_sine_real (2 ^ 1075) s X (2 ^ 1074) n ≡ Ordering.gt
      go false = cond_false (ltb (2 ^ 1075) (2 * n)) Ordering.lt (compare (L n) (R X n)) b
          ∙ said Ordering.gt (L n) (R X n) (lt_of_le_of_lt (R-most n) l)
      go true =
          ap (λ (x : Bool). cond x Ordering.gt
          (cond (ltb (3 * (2 ^ 1075 * 2 ^ 1075)) (4 * (n * n))) Ordering.lt (opposite (compare (L n) (R X n))))) a

  over_half : (n : ℕ) → ltb (2 * n) (2 ^ 1075) ≡ false → ltb (2 ^ 1075) (2 * n) ≡ true
      → ltb (3 * (2 ^ 1075 * 2 ^ 1075)) (4 * (n * n)) ≡ false → R (2 ^ 1019) n < L n
      → third_angle_sine_real (2 ^ 1075) s X (2 ^ 1074) n ≡ Ordering.lt
  over_half n a b c l = go s
    where
      go : (s : Bool) → third_angle_sine_real (2 ^ 1075) s X (2 ^ 1074) n ≡ Ordering.lt
      go false = ap (λ (x : Bool). cond x Ordering.lt (compare (L n) (R X n))) b
      go true =
          cond_false (ltb (2 * n) (2 ^ 1075)) Ordering.gt
          (cond (ltb (3 * (2 ^ 1075 * 2 ^ 1075)) (4 * (n * n))) Ordering.lt (opposite (compare (L n) (R X n)))) a
          ∙ cond_false (ltb (3 * (2 ^ 1075 * 2 ^ 1075)) (4 * (n * n))) Ordering.lt (opposite (compare (L n) (R X n))) c
          ∙ ap opposite (said Ordering.gt (L n) (R X n) (lt_of_le_of_lt (R-most n) l))

  one_half : units binary64 false (2 ^ 52) 1021 ≡ of_bits binary64 0x3fe0_0000_0000_0000
  unfolding units of_bits
  one_half = refl

  one_half_too : units binary64 false (2 ^ 53) 1020 ≡ of_bits binary64 0x3fe0_0000_0000_0000
  unfolding units of_bits
  one_half_too = refl

  pub sine_near : nearest_to binary64 false (third_angle_sine_real (2 ^ 1075) s X (2 ^ 1074)) 1077
      ≡ of_bits binary64 0x3fe0_0000_0000_0000
  sine_near =
      let real = third_angle_sine_real (2 ^ 1075) s X (2 ^ 1074) in
      let b = sine_double_bounded s X (2 ^ 1074) (pow_pos 1074) at_most_one in
      elim (ge_or_lt (third_angle_sine_real (2 ^ 1075) s X (2 ^ 1074) (2 ^ 52 * 2 ^ 1022))) [
        | inl l ↦
            nearest_of_bracket binary64 false real 1077 b (2 ^ 52) 1021
            (record {
              fits = lit< tt;
              normal = inr (lit≤ tt);
              lower = l;
              upper = over_half (suc (2 ^ 52) * 2 ^ 1022) refl refl refl (lit< tt);
            })
            ∙ ap (λ (o : Ordering). units binary64 false (nearest (2 ^ 52) o) 1021)
            (over_half ((2 * 2 ^ 52 + 1) * 2 ^ 1021) refl refl refl (lit< tt))
            ∙ one_half
        | inr g ↦
            nearest_of_midpoints binary64 false real 1077 b (2 ^ 53 - 1) 1020
            (subst (λ (o : Ordering). T (is_ge o)) (sym (under_half (2 ^ 52 * 2 ^ 1021) refl refl (lit< tt))) tt)
            g
            (under_half ((2 * (2 ^ 53 - 1) + 1) * 2 ^ 1020) refl refl (lit< tt))
            (above_le real b.monotone (2 ^ 52 * 2 ^ 1022) ((2 * suc (2 ^ 53 - 1) + 1) * 2 ^ 1020) (lit≤ tt) g)
            ∙ one_half_too
      ]
