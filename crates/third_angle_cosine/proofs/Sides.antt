-- The sides of the cosine's equation, on a scale where 1 is 2H and t is u / b. At n = H + i
-- they compare as 2 H³ ± t with i²(3H + i), since n³ + 2 H³ = 3n H² + i²(3H + i). Assumes nothing.
use mathlib.Core.Path.{◌≡◌, ap, ap₂, ◌∙◌}
use Prim.Native.Nat.{ℕ, ◌+◌, ◌*◌, ◌≤◌, ◌<◌, compare, Ordering}
use native.Mathlib.Nat.{mul-pos, mul-le-mul_right, mul-lt-mul_of_pos_right}
use native.Mathlib.Omega.{arith}
use mathlib.Core.Bool.{Bool, true, false, cond}
use Rattle.elementary.specs.Nearest.{is_ge}
use Rattle.elementary.proofs.Order.{said, le→ge, compare_scaled}
use lib.Dec.{T}

-- the sides as the definition has them, at n
abbrev pub sides : ℕ → Bool → ℕ → ℕ → ℕ → Ordering
sides O s u b n = compare (3 * n * O * O * b + cond s 0 (u * O * O * O)) (4 * n * n * n * b + cond s (u * O * O * O) 0)

-- ---- at H + i, with t P for the size of t on the scale of 2 H³ = q P

module _ (H P q t u b i : ℕ) (pos : 0 < b) (size : u * (2 * H) * (2 * H) * (2 * H) ≡ t * P * (4 * b)) where
  reduced : (s : Bool)
      → sides (2 * H) s u b (H + i)
      ≡ compare (3 * (H + i) * (H * H) + cond s 0 (t * P)) ((H + i) * (H + i) * (H + i) + cond s (t * P) 0)
  reduced false =
      ap₂ (λ (x y : ℕ). compare x y)
      (let z : 3 * (H + i) * (2 * H) * (2 * H) * b + u * (2 * H) * (2 * H) * (2 * H)
      ≡ (3 * (H + i) * (H * H) + t * P) * (4 * b) = omega arith in z)
      (let z : 4 * (H + i) * (H + i) * (H + i) * b + 0 ≡ ((H + i) * (H + i) * (H + i) + 0) * (4 * b) = omega arith in z)
      ∙ compare_scaled (4 * b) (3 * (H + i) * (H * H) + t * P) ((H + i) * (H + i) * (H + i) + 0)
      (mul-pos (let z : 0 < 4 = omega arith in z) pos)
  reduced true =
      ap₂ (λ (x y : ℕ). compare x y)
      (let z : 3 * (H + i) * (2 * H) * (2 * H) * b + 0 ≡ (3 * (H + i) * (H * H) + 0) * (4 * b) = omega arith in z)
      (let z : 4 * (H + i) * (H + i) * (H + i) * b + u * (2 * H) * (2 * H) * (2 * H)
      ≡ ((H + i) * (H + i) * (H + i) + t * P) * (4 * b) = omega arith in z)
      ∙ compare_scaled (4 * b) (3 * (H + i) * (H * H) + 0) ((H + i) * (H + i) * (H + i) + t * P)
      (mul-pos (let z : 0 < 4 = omega arith in z) pos)

  sums : (H + i) * (H + i) * (H + i) + 2 * (H * H * H) ≡ 3 * (H + i) * (H * H) + i * i * (3 * H + i)
  sums = omega arith

  -- e is q + t, or q - t
  module _ (e : ℕ) (one : q * P ≡ 2 * (H * H * H)) where
    plus : e ≡ q + t → e * P ≡ 2 * (H * H * H) + t * P
    plus h = ap (λ (x : ℕ). x * P) h ∙ (let z : (q + t) * P ≡ 2 * (H * H * H) + t * P = omega arith in z)

    minus : e + t ≡ q → e * P + t * P ≡ 2 * (H * H * H)
    minus h = (let z : e * P + t * P ≡ (e + t) * P = omega arith in z) ∙ ap (λ (x : ℕ). x * P) h ∙ one

    pub greater_plus : e ≡ q + t → i * i * (3 * H + i) < e * P → sides (2 * H) false u b (H + i) ≡ Ordering.gt
    greater_plus h l =
        let s = sums in let p = plus h in
        reduced false ∙ said Ordering.gt (3 * (H + i) * (H * H) + t * P) ((H + i) * (H + i) * (H + i) + 0) (omega arith)

    pub less_plus : e ≡ q + t → e * P < i * i * (3 * H + i) → sides (2 * H) false u b (H + i) ≡ Ordering.lt
    less_plus h l =
        let s = sums in let p = plus h in
        reduced false ∙ said Ordering.lt (3 * (H + i) * (H * H) + t * P) ((H + i) * (H + i) * (H + i) + 0) (omega arith)

    pub greater_minus : e + t ≡ q → i * i * (3 * H + i) < e * P → sides (2 * H) true u b (H + i) ≡ Ordering.gt
    greater_minus h l =
        let s = sums in let p = minus h in
        reduced true ∙ said Ordering.gt (3 * (H + i) * (H * H) + 0) ((H + i) * (H + i) * (H + i) + t * P) (omega arith)

    pub less_minus : e + t ≡ q → e * P < i * i * (3 * H + i) → sides (2 * H) true u b (H + i) ≡ Ordering.lt
    less_minus h l =
        let s = sums in let p = minus h in
        reduced true ∙ said Ordering.lt (3 * (H + i) * (H * H) + 0) ((H + i) * (H + i) * (H + i) + t * P) (omega arith)

-- ---- at 1/2 and at 1

module _ (H u b : ℕ) (small : u < b) where
  times : (c : ℕ) → u * c ≤ b * c
  times c = mul-le-mul_right c (let z : u ≤ b = omega arith in z)

  pub at_half : (s : Bool) → T (is_ge (sides (2 * H) s u b H))
  at_half false =
      le→ge (3 * H * (2 * H) * (2 * H) * b + u * (2 * H) * (2 * H) * (2 * H)) (4 * H * H * H * b + 0) (omega arith)
  at_half true =
      let l = times (H * H * H) in
      le→ge (3 * H * (2 * H) * (2 * H) * b + 0) (4 * H * H * H * b + u * (2 * H) * (2 * H) * (2 * H)) (omega arith)

  pub at_one : 0 < H → (s : Bool) → sides (2 * H) s u b (2 * H) ≡ Ordering.lt
  at_one p false =
      let l : u * (H * H * H) < b * (H * H * H) = mul-lt-mul_of_pos_right small (mul-pos (mul-pos p p) p) in
      said Ordering.lt (3 * (2 * H) * (2 * H) * (2 * H) * b + u * (2 * H) * (2 * H) * (2 * H))
      (4 * (2 * H) * (2 * H) * (2 * H) * b + 0) (omega arith)
  at_one p true =
      let l : 0 < b * (H * H * H) = mul-pos (let z : 0 < b = omega arith in z) (mul-pos (mul-pos p p) p) in
      said Ordering.lt (3 * (2 * H) * (2 * H) * (2 * H) * b + 0)
      (4 * (2 * H) * (2 * H) * (2 * H) * b + u * (2 * H) * (2 * H) * (2 * H)) (omega arith)
