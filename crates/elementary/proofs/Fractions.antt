-- The four reals depend only on the fraction that is their argument, and on n / one: numerator
-- and denominator may be multiplied, and so may n and one. Assumes nothing.
use mathlib.Core.Path.{◌≡◌, sym, ap, ap₂, ◌∙◌}
use Prim.Native.Nat.{ℕ, ◌+◌, ◌*◌, ◌≤◌, ◌<◌, compare, Ordering}
use native.Mathlib.Nat.{lt_of_not-le, mul-pos, mul-le-mul_right, mul-lt-mul_of_pos_right}
use native.Mathlib.Decide.{dec_le}
use native.Mathlib.Omega.{arith}
use mathlib.Core.Bool.{Bool, true, false, cond}
use lib.Dec.{ltb}
use borrow.Author.Tests.{lt-ltb, le-ltb}
use Rattle.elementary.specs.Reals.{sqrt_real, cbrt_real, third_angle_cosine_real, third_angle_sine_real, sine_sides}
use Rattle.elementary.specs.Reals.{opposite}
use Rattle.elementary.proofs.Order.{compare_scaled}

-- ---- the same fraction

-- a / b compared with N / P
compare_fraction : (a b c d P N : ℕ) → 0 < b → 0 < d → a * d ≡ c * b → compare (a * P) (N * b) ≡ compare (c * P) (N * d)
compare_fraction a b c d P N pb pd e =
    sym (compare_scaled d (a * P) (N * b) pd)
    ∙ ap₂ (λ (x y : ℕ). compare x y) (left (ap (λ (x : ℕ). x * P) e)) (let z : N * b * d ≡ N * d * b = omega arith in z)
    ∙ compare_scaled b (c * P) (N * d) pb
  where
    left : a * d * P ≡ c * b * P → a * P * d ≡ c * P * b
    left h = omega arith

module _ (one a b c d : ℕ) (pb : 0 < b) (pd : 0 < d) (e : a * d ≡ c * b) (n : ℕ) where
  pub sqrt_fraction : sqrt_real one a b n ≡ sqrt_real one c d n
  sqrt_fraction = compare_fraction a b c d (one * one) (n * n) pb pd e

  pub cbrt_fraction : cbrt_real one a b n ≡ cbrt_real one c d n
  cbrt_fraction = compare_fraction a b c d (one * one * one) (n * n * n) pb pd e

  -- the cosine's two sides, with t on the left or, where it is negative, on the right
  cosine_sides_law : (s : Bool)
      → compare (3 * n * one * one * b + cond s 0 (a * one * one * one))
      (4 * n * n * n * b + cond s (a * one * one * one) 0)
      ≡ compare (3 * n * one * one * d + cond s 0 (c * one * one * one))
      (4 * n * n * n * d + cond s (c * one * one * one) 0)
  cosine_sides_law false =
      sym (compare_scaled d (3 * n * one * one * b + a * one * one * one) (4 * n * n * n * b + 0) pd)
      ∙ ap₂ (λ (x y : ℕ). compare x y) (with_t (ap (λ (x : ℕ). x * (one * one * one)) e))
      (let z : (4 * n * n * n * b + 0) * d ≡ (4 * n * n * n * d + 0) * b = omega arith in z)
      ∙ compare_scaled b (3 * n * one * one * d + c * one * one * one) (4 * n * n * n * d + 0) pb
    where
      with_t : a * d * (one * one * one) ≡ c * b * (one * one * one)
          → (3 * n * one * one * b + a * one * one * one) * d ≡ (3 * n * one * one * d + c * one * one * one) * b
      with_t h = omega arith
  cosine_sides_law true =
      sym (compare_scaled d (3 * n * one * one * b + 0) (4 * n * n * n * b + a * one * one * one) pd)
      ∙ ap₂ (λ (x y : ℕ). compare x y)
      (let z : (3 * n * one * one * b + 0) * d ≡ (3 * n * one * one * d + 0) * b = omega arith in z)
      (with_t (ap (λ (x : ℕ). x * (one * one * one)) e))
      ∙ compare_scaled b (3 * n * one * one * d + 0) (4 * n * n * n * d + c * one * one * one) pb
    where
      with_t : a * d * (one * one * one) ≡ c * b * (one * one * one)
          → (4 * n * n * n * b + a * one * one * one) * d ≡ (4 * n * n * n * d + c * one * one * one) * b
      with_t h = omega arith

  pub cosine_fraction : (s : Bool) → third_angle_cosine_real one s a b n ≡ third_angle_cosine_real one s c d n
  cosine_fraction s = ap (λ (o : Ordering). cond (ltb (2 * n) one) Ordering.gt o) (cosine_sides_law s)

  -- the sine's sides, with G and H for what stands beside b² and C for one⁶
  squared_fraction : (G H C : ℕ)
      → compare (G * (b * b)) (H * (b * b) + a * a * C) ≡ compare (G * (d * d)) (H * (d * d) + c * c * C)
  squared_fraction G H C =
      sym (compare_scaled (d * d) (G * (b * b)) (H * (b * b) + a * a * C) (mul-pos pd pd))
      ∙ ap₂ (λ (x y : ℕ). compare x y) (let z : G * (b * b) * (d * d) ≡ G * (d * d) * (b * b) = omega arith in z)
      (right (ap₂ (λ (x y : ℕ). x * y * C) e e))
      ∙ compare_scaled (b * b) (G * (d * d)) (H * (d * d) + c * c * C) (mul-pos pb pb)
    where
      right : a * d * (a * d) * C ≡ c * b * (c * b) * C
          → (H * (b * b) + a * a * C) * (d * d) ≡ (H * (d * d) + c * c * C) * (b * b)
      right h = omega arith

  sides_fraction : (Q : ℕ) → sine_sides Q a b n ≡ sine_sides Q c d n
  sides_fraction Q =
      squared_fraction (Q * Q * Q + 24 * (n * n) * (n * n) * Q)
      (16 * (n * n) * (n * n) * (n * n) + 9 * (n * n) * Q * Q) (Q * Q * Q)

  pub sine_fraction : (s : Bool) → third_angle_sine_real one s a b n ≡ third_angle_sine_real one s c d n
  sine_fraction false = ap (λ (o : Ordering). cond (ltb one (2 * n)) Ordering.lt o) (sides_fraction (one * one))
  sine_fraction true =
      ap (λ (o : Ordering). cond (ltb (2 * n) one) Ordering.gt
      (cond (ltb (3 * (one * one)) (4 * (n * n))) Ordering.lt (opposite o))) (sides_fraction (one * one))

-- ---- another scale: n * k of one * k

pub ltb_scaled : (k a b c d : ℕ) → 0 < k → a ≡ c * k → b ≡ d * k → ltb a b ≡ ltb c d
ltb_scaled k a b c d p ea eb = elim (dec_le d c) [
  | yes g ↦ le-ltb a b (let z : d * k ≤ c * k = mul-le-mul_right k g in omega arith) ∙ sym (le-ltb c d g)
  | no g ↦ lt-ltb a b (let z : c * k < d * k = mul-lt-mul_of_pos_right (lt_of_not-le g) p in omega arith)
      ∙ sym (lt-ltb c d (lt_of_not-le g))
]

module _ (k : ℕ) (pk : 0 < k) (one a b n : ℕ) where
  pub sqrt_scale : sqrt_real (one * k) a b (n * k) ≡ sqrt_real one a b n
  sqrt_scale =
      ap₂ (λ (x y : ℕ). compare x y) (let z : a * (one * k * (one * k)) ≡ a * (one * one) * (k * k) = omega arith in z)
      (let z : n * k * (n * k) * b ≡ n * n * b * (k * k) = omega arith in z)
      ∙ compare_scaled (k * k) (a * (one * one)) (n * n * b) (mul-pos pk pk)

  cubed_pos : 0 < k * k * k
  cubed_pos = mul-pos (mul-pos pk pk) pk

  pub cbrt_scale : cbrt_real (one * k) a b (n * k) ≡ cbrt_real one a b n
  cbrt_scale =
      ap₂ (λ (x y : ℕ). compare x y)
      (let z : a * (one * k * (one * k) * (one * k)) ≡ a * (one * one * one) * (k * k * k) = omega arith in z)
      (let z : n * k * (n * k) * (n * k) * b ≡ n * n * n * b * (k * k * k) = omega arith in z)
      ∙ compare_scaled (k * k * k) (a * (one * one * one)) (n * n * n * b) cubed_pos

  half_test : ltb (2 * (n * k)) (one * k) ≡ ltb (2 * n) one
  half_test = ltb_scaled k (2 * (n * k)) (one * k) (2 * n) one pk (let z : 2 * (n * k) ≡ 2 * n * k = omega arith in z)
      (let z : one * k ≡ one * k = omega arith in z)

  scaled_sides : (t u : ℕ)
      → compare (3 * (n * k) * (one * k) * (one * k) * b + t * (k * k * k))
      (4 * (n * k) * (n * k) * (n * k) * b + u * (k * k * k))
      ≡ compare (3 * n * one * one * b + t) (4 * n * n * n * b + u)
  scaled_sides t u =
      ap₂ (λ (x y : ℕ). compare x y)
      (let z : 3 * (n * k) * (one * k) * (one * k) * b + t * (k * k * k) ≡ (3 * n * one * one * b + t) * (k * k * k) =
      omega arith in z)
      (let z : 4 * (n * k) * (n * k) * (n * k) * b + u * (k * k * k) ≡ (4 * n * n * n * b + u) * (k * k * k) =
      omega arith in z)
      ∙ compare_scaled (k * k * k) (3 * n * one * one * b + t) (4 * n * n * n * b + u) cubed_pos

  pub cosine_scale : (s : Bool) → third_angle_cosine_real (one * k) s a b (n * k) ≡ third_angle_cosine_real one s a b n
  cosine_scale s = ap₂ (λ (t : Bool) (o : Ordering). cond t Ordering.gt o) half_test (sides s)
    where
      t_scaled : a * (one * k) * (one * k) * (one * k) ≡ a * one * one * one * (k * k * k)
      t_scaled = omega arith

      nothing : 0 ≡ 0 * (k * k * k)
      nothing = omega arith

      sides : (s : Bool)
          → compare (3 * (n * k) * (one * k) * (one * k) * b + cond s 0 (a * (one * k) * (one * k) * (one * k)))
          (4 * (n * k) * (n * k) * (n * k) * b + cond s (a * (one * k) * (one * k) * (one * k)) 0)
          ≡ compare (3 * n * one * one * b + cond s 0 (a * one * one * one))
          (4 * n * n * n * b + cond s (a * one * one * one) 0)
      sides false =
          ap₂ (λ (x y : ℕ). compare (3 * (n * k) * (one * k) * (one * k) * b + x)
          (4 * (n * k) * (n * k) * (n * k) * b + y)) t_scaled nothing ∙ scaled_sides (a * one * one * one) 0
      sides true =
          ap₂ (λ (x y : ℕ). compare (3 * (n * k) * (one * k) * (one * k) * b + x)
          (4 * (n * k) * (n * k) * (n * k) * b + y)) nothing t_scaled ∙ scaled_sides 0 (a * one * one * one)

  -- with r for k², Q for one² and q for n²
  sides_scale : (r Q q : ℕ) → 0 < r
      → compare ((Q * r * (Q * r) * (Q * r) + 24 * (q * r) * (q * r) * (Q * r)) * (b * b))
      ((16 * (q * r) * (q * r) * (q * r) + 9 * (q * r) * (Q * r) * (Q * r)) * (b * b)
      + a * a * (Q * r * (Q * r) * (Q * r)))
      ≡ compare ((Q * Q * Q + 24 * q * q * Q) * (b * b))
      ((16 * q * q * q + 9 * q * Q * Q) * (b * b) + a * a * (Q * Q * Q))
  sides_scale r Q q p =
      ap₂ (λ (x y : ℕ). compare x y) left right
      ∙ compare_scaled (r * r * r) ((Q * Q * Q + 24 * q * q * Q) * (b * b))
      ((16 * q * q * q + 9 * q * Q * Q) * (b * b) + a * a * (Q * Q * Q)) (mul-pos (mul-pos p p) p)
    where
      left : (Q * r * (Q * r) * (Q * r) + 24 * (q * r) * (q * r) * (Q * r)) * (b * b)
          ≡ (Q * Q * Q + 24 * q * q * Q) * (b * b) * (r * r * r)
      left = omega arith

      right : (16 * (q * r) * (q * r) * (q * r) + 9 * (q * r) * (Q * r) * (Q * r)) * (b * b)
          + a * a * (Q * r * (Q * r) * (Q * r))
          ≡ ((16 * q * q * q + 9 * q * Q * Q) * (b * b) + a * a * (Q * Q * Q)) * (r * r * r)
      right = omega arith

  square : (m : ℕ) → m * k * (m * k) ≡ m * m * (k * k)
  square m = omega arith

  sine_sides_law : sine_sides (one * k * (one * k)) a b (n * k) ≡ sine_sides (one * one) a b n
  sine_sides_law =
      ap₂ (λ (Q q : ℕ). compare ((Q * Q * Q + 24 * q * q * Q) * (b * b))
      ((16 * q * q * q + 9 * q * Q * Q) * (b * b) + a * a * (Q * Q * Q))) (square one) (square n)
      ∙ sides_scale (k * k) (one * one) (n * n) (mul-pos pk pk)

  pub sine_scale : (s : Bool) → third_angle_sine_real (one * k) s a b (n * k) ≡ third_angle_sine_real one s a b n
  sine_scale false =
      ap₂ (λ (t : Bool) (o : Ordering). cond t Ordering.lt o)
      (ltb_scaled k (one * k) (2 * (n * k)) one (2 * n) pk (let z : one * k ≡ one * k = omega arith in z)
      (let z : 2 * (n * k) ≡ 2 * n * k = omega arith in z))
      sine_sides_law
  sine_scale true =
      ap₂ (λ (t : Bool) (o : Ordering). cond t Ordering.gt o) half_test
      (ap₂ (λ (t : Bool) (o : Ordering). cond t Ordering.lt (opposite o))
      (ltb_scaled (k * k) (3 * (one * k * (one * k))) (4 * (n * k * (n * k))) (3 * (one * one)) (4 * (n * n))
      (mul-pos pk pk) (let z : 3 * (one * k * (one * k)) ≡ 3 * (one * one) * (k * k) = omega arith in z)
      (let z : 4 * (n * k * (n * k)) ≡ 4 * (n * n) * (k * k) = omega arith in z))
      sine_sides_law)
