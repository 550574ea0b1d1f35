-- The sine is √(1 - c²) of the exact cosine c, on any scale and for either sign of t: where
-- m / one is at most the cosine and n / one at most the sine, m² + n² is at most one² (`squares_at_most`), and
-- where they are at least the cosine and the sine, it is at least one² (`squares_at_least`). Assumes nothing.
use mathlib.Core.Path.{◌≡◌, refl, sym, ap, ◌∙◌, subst}
use mathlib.Core.Logic.{◌⊎◌, inl, inr}
use Prim.Native.Nat.{ℕ, suc, ◌+◌, ◌-◌, ◌*◌, ◌≤◌, ◌<◌, compare, Ordering}
use native.Mathlib.Nat.{le_trans, le_of_eq, le_of_lt, lt_of_lt_of_le, lt_of_not-le, mul-pos, mul-le-mul_right}
use native.Mathlib.Nat.{mul-le-mul_left, le_of_mul-le-mul_right, le-add_left}
use native.Mathlib.Decide.{dec_le}
use native.Mathlib.Omega.{arith}
use mathlib.Core.Bool.{Bool, true, false, cond}
use lib.Dec.{T, ltb, is_le, leb→le}
use borrow.Author.Tests.{ltb-true, ltb-false}
use Rattle.elementary.specs.Nearest.{is_ge, AtMost, AtLeast}
use Rattle.elementary.specs.Reals.{third_angle_cosine_real, third_angle_sine_real, sine_sides, opposite}
use Rattle.elementary.proofs.Order.{ge→le, opposite_ge, opposite_le, square_le, square_lt}
use Rattle.elementary.proofs.Sine.{right, factor, shrinks}

-- ---- what the tests say

gt_most : (b : Bool) (o : Ordering) → T (is_ge (cond b Ordering.gt o)) → (b ≡ true) ⊎ ((b ≡ false) × T (is_ge o))
gt_most true o t = inl refl
gt_most false o t = inr (refl, t)

gt_least : (b : Bool) (o : Ordering) → T (is_le (cond b Ordering.gt o)) → (b ≡ false) × T (is_le o)
gt_least true o t = absurd t
gt_least false o t = (refl, t)

lt_most : (b : Bool) (o : Ordering) → T (is_ge (cond b Ordering.lt o)) → (b ≡ false) × T (is_ge o)
lt_most true o t = absurd t
lt_most false o t = (refl, t)

lt_least : (b : Bool) (o : Ordering) → T (is_le (cond b Ordering.lt o)) → (b ≡ true) ⊎ ((b ≡ false) × T (is_le o))
lt_least true o t = inl refl
lt_least false o t = inr (refl, t)

-- ---- the algebra, with Q for one², y for m², z for n²

-- (1 - z)(1 - 4z)² + 16z³ + 9z = 1 + 24z²
split_under : (v z : ℕ)
    → (v + 3 * z) * v * v + (16 * z * z * z + 9 * z * (v + 4 * z) * (v + 4 * z))
    ≡ (v + 4 * z) * (v + 4 * z) * (v + 4 * z) + 24 * z * z * (v + 4 * z)
split_under v z = omega arith

-- a product of a larger number and a larger square is larger
larger : (x y v w : ℕ) → x < y → v < w → y * (w * w) ≤ x * (v * v) → ⊥
larger x y v w h g l =
    let a = square_lt v w g in
    let b : x * (v * v) ≤ x * (w * w) = mul-le-mul_left x (le_of_lt a) in
    let c : suc x * (w * w) ≤ y * (w * w) = mul-le-mul_right (w * w) h in
    let d : 0 < w * w = omega arith in
    omega arith

-- with p for (1 - z)(1 - 4z)², r and t for the two sides: t² is at most p, or at least p
below_product : (p r t K S : ℕ) → p + r ≡ t → r * K + S ≤ t * K → S ≤ p * K
below_product p r t K S e l = let a : (p + r) * K ≡ t * K = ap (λ (x : ℕ). x * K) e in omega arith

above_product : (p r t K S : ℕ) → p + r ≡ t → t * K ≤ r * K + S → p * K ≤ S
above_product p r t K S e l = let a : (p + r) * K ≡ t * K = ap (λ (x : ℕ). x * K) e in omega arith

abbrev product : ℕ → ℕ → ℕ
product v z = (v + 3 * z) * v * v

as_square : (v z K : ℕ) → (v + 3 * z) * v * v * K ≡ (v + 3 * z) * (v * v) * K
as_square v z K = omega arith

-- Q is v + 4z, S is t² and K the square of t's denominator, and w is 4y - 3Q
under : (v z y w K S : ℕ) → v + 4 * z < y + z → w + 3 * (v + 4 * z) ≡ 4 * y → 0 < K
    → (16 * z * z * z + 9 * z * (v + 4 * z) * (v + 4 * z)) * K + S
    ≤ ((v + 4 * z) * (v + 4 * z) * (v + 4 * z) + 24 * z * z * (v + 4 * z)) * K → y * (w * w) * K ≤ S → ⊥
under v z y w K S h e k l g =
    larger (v + 3 * z) y v w (omega arith) (omega arith)
    (le_of_mul-le-mul_right
    (le_trans g (le_trans
    (below_product (product v z) (16 * z * z * z + 9 * z * (v + 4 * z) * (v + 4 * z))
    ((v + 4 * z) * (v + 4 * z) * (v + 4 * z) + 24 * z * z * (v + 4 * z)) K S (split_under v z) l)
    (le_of_eq (as_square v z K)))) k)

over : (v z y w K S : ℕ) → y + z < v + 4 * z → w + 3 * (v + 4 * z) ≡ 4 * y → 0 < K
    → ((v + 4 * z) * (v + 4 * z) * (v + 4 * z) + 24 * z * z * (v + 4 * z)) * K
    ≤ (16 * z * z * z + 9 * z * (v + 4 * z) * (v + 4 * z)) * K + S → S ≤ y * (w * w) * K → ⊥
over v z y w K S h e k l g =
    larger y (v + 3 * z) w v (omega arith) (omega arith)
    (le_of_mul-le-mul_right
    (le_trans (le_of_eq (sym (as_square v z K)))
    (le_trans (above_product (product v z) (16 * z * z * z + 9 * z * (v + 4 * z) * (v + 4 * z))
    ((v + 4 * z) * (v + 4 * z) * (v + 4 * z) + 24 * z * z * (v + 4 * z)) K S (split_under v z) l) g)) k)

-- x (3Q - 4x)² by its terms, and that it falls from 4x = Q to 4x = 3Q
cubic : (Q x v : ℕ) → v + 4 * x ≡ 3 * Q → x * v * v + 24 * x * x * Q ≡ right Q x
cubic Q x v e =
    let a : (v + 4 * x) * (v + 4 * x) * x ≡ 3 * Q * (3 * Q) * x = ap (λ (y : ℕ). y * y * x) e in
    let b : x * x * (v + 4 * x) ≡ x * x * (3 * Q) = ap (λ (y : ℕ). x * x * y) e in
    omega arith

falling : (Q x y v w : ℕ) → 0 < Q → Q ≤ 4 * x → x < y → v + 4 * x ≡ 3 * Q → w + 4 * y ≡ 3 * Q
    → x * (v * v) ≤ y * (w * w) → ⊥
falling Q x y v w p h l ev ew g =
    let d = y - x in
    let k = 4 * x - Q in
    let e : x + d ≡ y = omega arith in
    let F = 3 * k * w + 4 * d * (w + 4 * x) in
    let i = shrinks Q x d F
    (factor Q x d k w (let z : k + Q ≡ 4 * x = omega arith in z)
    (let z : w + 4 * x + 4 * d ≡ 3 * Q = omega arith in z)) in
    let j : right Q x + 24 * y * y * Q ≡ right Q y + 24 * x * x * Q + d * F =
    subst (λ (t : ℕ). right Q x + 24 * t * t * Q ≡ right Q t + 24 * x * x * Q + d * F) e i in
    let cx = cubic Q x v ev in
    let cy = cubic Q y w ew in
    let q : 0 < d * F =
    mul-pos (let z : 0 < d = omega arith in z)
    (lt_of_lt_of_le (mul-pos (let z : 0 < 4 * d = omega arith in z) (let z : 0 < w + 4 * x = omega arith in z))
    (le-add_left (4 * d * (w + 4 * x)) (3 * k * w))) in
    end (x * (v * v)) (y * (w * w)) (24 * x * x * Q) (24 * y * y * Q) (right Q x) (right Q y) (d * F)
    ((let z : x * (v * v) ≡ x * v * v = omega arith in ap (λ (t : ℕ). t + 24 * x * x * Q) z) ∙ cx)
    ((let z : y * (w * w) ≡ y * w * w = omega arith in ap (λ (t : ℕ). t + 24 * y * y * Q) z) ∙ cy) j q g
  where
    end : (gx gy ex ey rx ry f : ℕ) → gx + ex ≡ rx → gy + ey ≡ ry → rx + ey ≡ ry + ex + f → 0 < f → gx ≤ gy → ⊥
    end gx gy ex ey rx ry f a b c q g = omega arith

-- (1 - z)(4z - 1)² + 16z³ + 9z = 1 + 24z², with x for Q - z and v for 4z - Q
split_over : (x z v : ℕ) → v + x ≡ 3 * z
    → x * (v * v) + (16 * z * z * z + 9 * z * (x + z) * (x + z)) ≡ (x + z) * (x + z) * (x + z) + 24 * z * z * (x + z)
split_over x z v e =
    let a : (v + x) * v * x ≡ 3 * z * v * x = ap (λ (t : ℕ). t * v * x) e in
    let b : (v + x) * x * x ≡ 3 * z * x * x = ap (λ (t : ℕ). t * x * x) e in
    let c : (v + x) * x * z ≡ 3 * z * x * z = ap (λ (t : ℕ). t * x * z) e in
    omega arith

module _ (O A B : ℕ) (pos-o : 0 < O) (pos-b : 0 < B) where
  -- m w B and A O³, squared
  squared_le : (m w : ℕ) → m * w * B ≤ A * O * O * O → m * m * (w * w) * (B * B) ≤ A * A * (O * O * (O * O) * (O * O))
  squared_le m w h =
      le_trans (le_of_eq (let z : m * m * (w * w) * (B * B) ≡ m * w * B * (m * w * B) = omega arith in z))
      (le_trans (square_le (m * w * B) (A * O * O * O) h)
      (le_of_eq (let z : A * O * O * O * (A * O * O * O) ≡ A * A * (O * O * (O * O) * (O * O)) = omega arith in z)))

  squared_ge : (m w : ℕ) → A * O * O * O ≤ m * w * B → A * A * (O * O * (O * O) * (O * O)) ≤ m * m * (w * w) * (B * B)
  squared_ge m w h =
      le_trans (le_of_eq
      (let z : A * A * (O * O * (O * O) * (O * O)) ≡ A * O * O * O * (A * O * O * O) = omega arith in z))
      (le_trans (square_le (A * O * O * O) (m * w * B) h)
      (le_of_eq (let z : m * w * B * (m * w * B) ≡ m * m * (w * w) * (B * B) = omega arith in z)))

  -- the cosine's comparison, with w for 4m² - 3 O²
  cos_le : (m w : ℕ) → w + 3 * (O * O) ≡ 4 * (m * m) → 4 * m * m * m * B + 0 ≤ 3 * m * O * O * B + A * O * O * O
      → m * w * B ≤ A * O * O * O
  cos_le m w e h =
      let a : m * (w + 3 * (O * O)) * B ≡ m * (4 * (m * m)) * B = ap (λ (x : ℕ). m * x * B) e in omega arith

  cos_ge : (m w : ℕ) → w + 3 * (O * O) ≡ 4 * (m * m) → 3 * m * O * O * B + A * O * O * O ≤ 4 * m * m * m * B + 0
      → A * O * O * O ≤ m * w * B
  cos_ge m w e h =
      let a : m * (w + 3 * (O * O)) * B ≡ m * (4 * (m * m)) * B = ap (λ (x : ℕ). m * x * B) e in omega arith

  quarter : (n : ℕ) → 2 * n ≤ O → 4 * (n * n) ≤ O * O
  quarter n h = le_trans (le_of_eq (let z : 4 * (n * n) ≡ 2 * n * (2 * n) = omega arith in z)) (square_le (2 * n) O h)

  -- ---- t from 0 to 1

  at_most_one : (m n : ℕ) → T (is_ge (third_angle_cosine_real O false A B m)) → T (is_ge (third_angle_sine_real O false A B n))
      → m * m + n * n ≤ O * O
  at_most_one m n c s = elim (dec_le (m * m + n * n) (O * O)) [
    | yes h ↦ h
    | no f ↦ absurd (go (lt_of_not-le f) (lt_most (ltb O (2 * n)) (sine_sides (O * O) A B n) s))
  ]
    where
      go : O * O < m * m + n * n → (ltb O (2 * n) ≡ false) × T (is_ge (sine_sides (O * O) A B n)) → ⊥
      go h (i, j) =
          let g : 4 * (n * n) ≤ O * O = quarter n (ltb-false O (2 * n) i) in
          let v = O * O - 4 * (n * n) in
          let q : v + 4 * (n * n) ≡ O * O = omega arith in
          let sides = ge→le ((O * O * (O * O) * (O * O) + 24 * (n * n) * (n * n) * (O * O)) * (B * B))
          ((16 * (n * n) * (n * n) * (n * n) + 9 * (n * n) * (O * O) * (O * O)) * (B * B)
          + A * A * (O * O * (O * O) * (O * O))) j in
          elim (gt_most (ltb (2 * m) O) (compare (3 * m * O * O * B + A * O * O * O) (4 * m * m * m * B + 0)) c) [
            | inl b ↦ let k : 4 * (m * m) ≤ O * O = quarter m (le_of_lt (ltb-true (2 * m) O b)) in
                let z : ⊥ = omega arith in z
            | inr p ↦
                let w = 4 * (m * m) - 3 * (O * O) in
                let e : w + 3 * (O * O) ≡ 4 * (m * m) = omega arith in
                under v (n * n) (m * m) w (B * B) (A * A * (O * O * (O * O) * (O * O)))
                (subst (λ (x : ℕ). x < m * m + n * n) (sym q) h)
                (subst (λ (x : ℕ). w + 3 * x ≡ 4 * (m * m)) (sym q) e) (mul-pos pos-b pos-b)
                (subst (λ (x : ℕ).
                (16 * (n * n) * (n * n) * (n * n) + 9 * (n * n) * x * x) * (B * B)
                + A * A * (O * O * (O * O) * (O * O)) ≤ (x * x * x + 24 * (n * n) * (n * n) * x) * (B * B))
                (sym q) sides)
                (squared_le m w
                (cos_le m w e (ge→le (3 * m * O * O * B + A * O * O * O) (4 * m * m * m * B + 0) p.1)))
          ]

  at_least_one : (m n : ℕ) → T (is_le (third_angle_cosine_real O false A B m))
      → T (is_le (third_angle_sine_real O false A B n)) → O * O ≤ m * m + n * n
  at_least_one m n c s = elim (dec_le (O * O) (m * m + n * n)) [
    | yes h ↦ h
    | no f ↦ absurd
        (go (lt_of_not-le f)
        (gt_least (ltb (2 * m) O) (compare (3 * m * O * O * B + A * O * O * O) (4 * m * m * m * B + 0)) c))
  ]
    where
      -- 3m O² is at most 4m³, so 3 O² is at most 4m²
      three : O ≤ 2 * m → 3 * m * O * O * B + A * O * O * O ≤ 4 * m * m * m * B + 0 → 3 * (O * O) ≤ 4 * (m * m)
      three o l = le_of_mul-le-mul_right (let z : 3 * (O * O) * (m * B) ≤ 4 * (m * m) * (m * B) = omega arith in z)
          (mul-pos (let z : 0 < m = omega arith in z) pos-b)

      go : m * m + n * n < O * O
          → (ltb (2 * m) O ≡ false) × T (is_le (compare (3 * m * O * O * B + A * O * O * O) (4 * m * m * m * B + 0))) → ⊥
      go h (i, j) =
          let l = leb→le (3 * m * O * O * B + A * O * O * O) (4 * m * m * m * B + 0) j in
          let t : 3 * (O * O) ≤ 4 * (m * m) = three (ltb-false (2 * m) O i) l in
          let w = 4 * (m * m) - 3 * (O * O) in
          let e : w + 3 * (O * O) ≡ 4 * (m * m) = omega arith in
          elim (lt_least (ltb O (2 * n)) (sine_sides (O * O) A B n) s) [
            | inl b ↦
                let k : O * O ≤ 2 * n * (2 * n) = square_le O (2 * n) (le_of_lt (ltb-true O (2 * n) b)) in
                let z : ⊥ = omega arith in z
            | inr p ↦
                let g : 4 * (n * n) ≤ O * O = quarter n (ltb-false O (2 * n) p.0) in
                let v = O * O - 4 * (n * n) in
                let q : v + 4 * (n * n) ≡ O * O = omega arith in
                let sides = leb→le ((O * O * (O * O) * (O * O) + 24 * (n * n) * (n * n) * (O * O)) * (B * B))
                ((16 * (n * n) * (n * n) * (n * n) + 9 * (n * n) * (O * O) * (O * O)) * (B * B)
                + A * A * (O * O * (O * O) * (O * O))) p.1 in
                over v (n * n) (m * m) w (B * B) (A * A * (O * O * (O * O) * (O * O)))
                (subst (λ (x : ℕ). m * m + n * n < x) (sym q) h)
                (subst (λ (x : ℕ). w + 3 * x ≡ 4 * (m * m)) (sym q) e) (mul-pos pos-b pos-b)
                (subst (λ (x : ℕ). (x * x * x + 24 * (n * n) * (n * n) * x) * (B * B)
                ≤ (16 * (n * n) * (n * n) * (n * n) + 9 * (n * n) * x * x) * (B * B)
                + A * A * (O * O * (O * O) * (O * O))) (sym q) sides)
                (squared_ge m w (cos_ge m w e l))
          ]

  -- ---- t from -1 to 0

  -- the cosine's comparison, with w for 3 O² - 4m²
  cos_le_minus : (m w : ℕ) → w + 4 * (m * m) ≡ 3 * (O * O) → 4 * m * m * m * B + A * O * O * O ≤ 3 * m * O * O * B + 0
      → A * O * O * O ≤ m * w * B
  cos_le_minus m w e h =
      let a : m * (w + 4 * (m * m)) * B ≡ m * (3 * (O * O)) * B = ap (λ (x : ℕ). m * x * B) e in omega arith

  cos_ge_minus : (m w : ℕ) → w + 4 * (m * m) ≡ 3 * (O * O) → 3 * m * O * O * B + 0 ≤ 4 * m * m * m * B + A * O * O * O
      → m * w * B ≤ A * O * O * O
  cos_ge_minus m w e h =
      let a : m * (w + 4 * (m * m)) * B ≡ m * (3 * (O * O)) * B = ap (λ (x : ℕ). m * x * B) e in omega arith

  pos_Q : 0 < O * O
  pos_Q = mul-pos pos-o pos-o

  four_times : (n : ℕ) → O ≤ 2 * n → O * O ≤ 4 * (n * n)
  four_times n h =
      le_trans (square_le O (2 * n) h) (le_of_eq (let z : 2 * n * (2 * n) ≡ 4 * (n * n) = omega arith in z))

  three_fourths : (m : ℕ) → O ≤ 2 * m → 4 * m * m * m * B + A * O * O * O ≤ 3 * m * O * O * B + 0
      → 4 * (m * m) ≤ 3 * (O * O)
  three_fourths m o l =
      le_of_mul-le-mul_right (let z : 4 * (m * m) * (m * B) ≤ 3 * (O * O) * (m * B) = omega arith in z)
      (mul-pos (let z : 0 < m = omega arith in z) pos-b)

  at_most_one_minus : (m n : ℕ) → T (is_ge (third_angle_cosine_real O true A B m))
      → T (is_ge (third_angle_sine_real O true A B n)) → m * m + n * n ≤ O * O
  at_most_one_minus m n c s = elim (dec_le (m * m + n * n) (O * O)) [
    | yes h ↦ h
    | no f ↦ absurd
        (go (lt_of_not-le f)
        (gt_most (ltb (2 * m) O) (compare (3 * m * O * O * B + 0) (4 * m * m * m * B + A * O * O * O)) c)
        (gt_most (ltb (2 * n) O)
        (cond (ltb (3 * (O * O)) (4 * (n * n))) Ordering.lt (opposite (sine_sides (O * O) A B n))) s))
  ]
    where
      tests : (ltb (2 * m) O ≡ false) × T (is_ge (compare (3 * m * O * O * B + 0) (4 * m * m * m * B + A * O * O * O)))
          → 4 * m * m * m * B + A * O * O * O ≤ 3 * m * O * O * B + 0
      tests p = ge→le (3 * m * O * O * B + 0) (4 * m * m * m * B + A * O * O * O) p.1

      go : O * O < m * m + n * n
          → (ltb (2 * m) O ≡ true)
          ⊎ ((ltb (2 * m) O ≡ false)
          × T (is_ge (compare (3 * m * O * O * B + 0) (4 * m * m * m * B + A * O * O * O))))
          → (ltb (2 * n) O ≡ true)
          ⊎ ((ltb (2 * n) O ≡ false)
          × T (is_ge (cond (ltb (3 * (O * O)) (4 * (n * n))) Ordering.lt (opposite (sine_sides (O * O) A B n)))))
          → ⊥
      go h (inl a) (inl b) =
          let k = quarter m (le_of_lt (ltb-true (2 * m) O a)) in let l = quarter n (le_of_lt (ltb-true (2 * n) O b)) in
          let z : ⊥ = omega arith in z
      go h (inl a) (inr b) =
          let k = quarter m (le_of_lt (ltb-true (2 * m) O a)) in
          let l = ltb-false (3 * (O * O)) (4 * (n * n))
          (lt_most (ltb (3 * (O * O)) (4 * (n * n))) (opposite (sine_sides (O * O) A B n)) b.1).0 in let z : ⊥ =
          omega arith in z
      go h (inr a) (inl b) =
          let k = three_fourths m (ltb-false (2 * m) O a.0) (tests a) in
          let l = quarter n (le_of_lt (ltb-true (2 * n) O b)) in let z : ⊥ = omega arith in z
      go h (inr a) (inr b) =
          let k = three_fourths m (ltb-false (2 * m) O a.0) (tests a) in
          let i = lt_most (ltb (3 * (O * O)) (4 * (n * n))) (opposite (sine_sides (O * O) A B n)) b.1 in
          let l = ltb-false (3 * (O * O)) (4 * (n * n)) i.0 in
          let f = four_times n (ltb-false (2 * n) O b.0) in
          let w = 3 * (O * O) - 4 * (m * m) in
          let x = O * O - n * n in
          let v = 4 * (n * n) - O * O in
          let ew : w + 4 * (m * m) ≡ 3 * (O * O) = omega arith in
          let ex : x + n * n ≡ O * O = omega arith in
          let ev : v + 4 * x ≡ 3 * (O * O) = omega arith in
          let sides = leb→le ((O * O * (O * O) * (O * O) + 24 * (n * n) * (n * n) * (O * O)) * (B * B))
          ((16 * (n * n) * (n * n) * (n * n) + 9 * (n * n) * (O * O) * (O * O)) * (B * B)
          + A * A * (O * O * (O * O) * (O * O))) (opposite_ge (sine_sides (O * O) A B n) i.1) in
          let pr : x * (v * v) * (B * B) ≤ A * A * (O * O * (O * O) * (O * O)) =
          above_product (x * (v * v)) (16 * (n * n) * (n * n) * (n * n) + 9 * (n * n) * (O * O) * (O * O))
          (O * O * (O * O) * (O * O) + 24 * (n * n) * (n * n) * (O * O)) (B * B)
          (A * A * (O * O * (O * O) * (O * O)))
          (subst (λ (q : ℕ). x * (v * v) + (16 * (n * n) * (n * n) * (n * n) + 9 * (n * n) * q * q)
          ≡ q * q * q + 24 * (n * n) * (n * n) * q) ex (split_over x (n * n) v (omega arith))) sides in
          falling (O * O) x (m * m) v w pos_Q (omega arith) (omega arith) ev ew
          (le_of_mul-le-mul_right (le_trans pr (squared_ge m w (cos_le_minus m w ew (tests a))))
          (mul-pos pos-b pos-b))

  at_least_one_minus : (m n : ℕ) → T (is_le (third_angle_cosine_real O true A B m))
      → T (is_le (third_angle_sine_real O true A B n)) → O * O ≤ m * m + n * n
  at_least_one_minus m n c s = elim (dec_le (O * O) (m * m + n * n)) [
    | yes h ↦ h
    | no f ↦
        let a = gt_least (ltb (2 * m) O) (compare (3 * m * O * O * B + 0) (4 * m * m * m * B + A * O * O * O)) c in
        let b = gt_least (ltb (2 * n) O)
        (cond (ltb (3 * (O * O)) (4 * (n * n))) Ordering.lt (opposite (sine_sides (O * O) A B n))) s in
        absurd (go (lt_of_not-le f) (four_times m (ltb-false (2 * m) O a.0))
        (leb→le (3 * m * O * O * B + 0) (4 * m * m * m * B + A * O * O * O) a.1)
        (four_times n (ltb-false (2 * n) O b.0))
        (lt_least (ltb (3 * (O * O)) (4 * (n * n))) (opposite (sine_sides (O * O) A B n)) b.1))
  ]
    where
      go : m * m + n * n < O * O → O * O ≤ 4 * (m * m) → 3 * m * O * O * B + 0 ≤ 4 * m * m * m * B + A * O * O * O
          → O * O ≤ 4 * (n * n)
          → (ltb (3 * (O * O)) (4 * (n * n)) ≡ true)
          ⊎ ((ltb (3 * (O * O)) (4 * (n * n)) ≡ false) × T (is_le (opposite (sine_sides (O * O) A B n)))) → ⊥
      go h a l b (inl d) = let k = ltb-true (3 * (O * O)) (4 * (n * n)) d in let z : ⊥ = omega arith in z
      go h a l b (inr d) =
          let w = 3 * (O * O) - 4 * (m * m) in
          let x = O * O - n * n in
          let v = 4 * (n * n) - O * O in
          let ew : w + 4 * (m * m) ≡ 3 * (O * O) = omega arith in
          let ex : x + n * n ≡ O * O = omega arith in
          let ev : v + 4 * x ≡ 3 * (O * O) = omega arith in
          let sides = ge→le ((O * O * (O * O) * (O * O) + 24 * (n * n) * (n * n) * (O * O)) * (B * B))
          ((16 * (n * n) * (n * n) * (n * n) + 9 * (n * n) * (O * O) * (O * O)) * (B * B)
          + A * A * (O * O * (O * O) * (O * O))) (opposite_le (sine_sides (O * O) A B n) d.1) in
          let pr : A * A * (O * O * (O * O) * (O * O)) ≤ x * (v * v) * (B * B) =
          below_product (x * (v * v)) (16 * (n * n) * (n * n) * (n * n) + 9 * (n * n) * (O * O) * (O * O))
          (O * O * (O * O) * (O * O) + 24 * (n * n) * (n * n) * (O * O)) (B * B)
          (A * A * (O * O * (O * O) * (O * O)))
          (subst (λ (q : ℕ). x * (v * v) + (16 * (n * n) * (n * n) * (n * n) + 9 * (n * n) * q * q)
          ≡ q * q * q + 24 * (n * n) * (n * n) * q) ex (split_over x (n * n) v (omega arith))) sides in
          falling (O * O) (m * m) x w v pos_Q a (omega arith) ew ev
          (le_of_mul-le-mul_right (le_trans (squared_le m w (cos_ge_minus m w ew l)) pr) (mul-pos pos-b pos-b))

-- ---- either sign

pub squares_at_most : (one : ℕ) (s : Bool) (a b : ℕ) → 0 < one → 0 < b → (m n : ℕ)
    → AtMost m (third_angle_cosine_real one s a b) → AtMost n (third_angle_sine_real one s a b) → m * m + n * n ≤ one * one
squares_at_most one false a b o p m n c s = at_most_one one a b o p m n c s
squares_at_most one true a b o p m n c s = at_most_one_minus one a b o p m n c s

pub squares_at_least : (one : ℕ) (s : Bool) (a b : ℕ) → 0 < one → 0 < b → (m n : ℕ)
    → AtLeast m (third_angle_cosine_real one s a b) → AtLeast n (third_angle_sine_real one s a b) → one * one ≤ m * m + n * n
squares_at_least one false a b o p m n c s = at_least_one one a b o p m n c s
squares_at_least one true a b o p m n c s = at_least_one_minus one a b o p m n c s
