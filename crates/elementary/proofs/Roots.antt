-- The square root and the cube root: their comparisons are those of real numbers, and what the
-- functions give for a double of the value a / b. Assumes nothing.
use mathlib.Core.Path.{◌≡◌, ap, ◌∙◌}
use Prim.Native.Nat.{Ordering}
use Prim.Native.Nat.{ℕ, zero, suc, ◌*◌, ◌^◌, ◌≤◌, ◌<◌, zero-le}
use native.Mathlib.Nat.{le_trans, le_of_eq, mul-pos, mul-le-mul_right, mul-le-mul_left, mul-lt-mul_of_pos_right}
use native.Mathlib.Nat.{zero-mul}
use native.Mathlib.Omega.{arith}
use mathlib.Core.Bool.{Bool, true, false, cond}
use lib.Dec.{lit≤}
use lib.Pow.{pow_pos}
use lib.Ieee.{Float, nan, inf, fin, binary64, up, down}
use lib.Ieee.Fits.{down_pos}
use lib.Ieee.Exact.{HasValue}
use Rattle.elementary.specs.Nearest.{Bounded, nearest_to}
use Rattle.elementary.specs.Reals.{sqrt_real, cbrt_real}
use Rattle.elementary.specs.Functions.{sqrt_of, cbrt_of}
use Rattle.elementary.proofs.Order.{said, le→ge, monotone_of, square_lt, square_le}
use Rattle.elementary.proofs.Fractions.{sqrt_fraction, cbrt_fraction}

-- ---- real numbers, on any scale

cube_lt : (a b : ℕ) → a < b → a * a * a < b * b * b
cube_lt a b h =
    let x : a * a * a ≤ b * b * a = mul-le-mul_right a (square_le a b (let z : a ≤ b = omega arith in z)) in
    let y : b * b * suc a ≤ b * b * b = mul-le-mul_left (b * b) h in
    let p : 0 < b * b = mul-pos (let z : 0 < b = omega arith in z) (let z : 0 < b = omega arith in z) in
    step (a * a * a) (b * b) a (b * b * b) x y p
  where
    step : (x q a y : ℕ) → x ≤ q * a → q * suc a ≤ y → 0 < q → x < y
    step x q a y h g p = omega arith

pub sqrt_bounded : (one a b d : ℕ) → 0 < b → a * (one * one) < 2 ^ d * 2 ^ d * b → Bounded (sqrt_real one a b) d
sqrt_bounded one a b d p h = record {
  monotone = monotone_of (a * (one * one)) (λ (n : ℕ). n * n * b)
      (λ m n l. mul-lt-mul_of_pos_right (square_lt m n l) p);
  nonneg = le→ge (a * (one * one)) (0 * 0 * b) (le_trans (le_of_eq (zero-mul b)) zero-le);
  bound = said Ordering.lt (a * (one * one)) (2 ^ d * 2 ^ d * b) h;
}

pub cbrt_bounded : (one a b d : ℕ) → 0 < b → a * (one * one * one) < 2 ^ d * 2 ^ d * 2 ^ d * b
    → Bounded (cbrt_real one a b) d
cbrt_bounded one a b d p h = record {
  monotone = monotone_of (a * (one * one * one)) (λ (n : ℕ). n * n * n * b)
      (λ m n l. mul-lt-mul_of_pos_right (cube_lt m n l) p);
  nonneg = le→ge (a * (one * one * one)) (0 * 0 * 0 * b) (le_trans (le_of_eq (zero-mul b)) zero-le);
  bound = said Ordering.lt (a * (one * one * one)) (2 ^ d * 2 ^ d * 2 ^ d * b) h;
}

-- ---- doubles, which are below 2 ^ 1024

scaled_lt : (a b u C D : ℕ) → a < u * b → 0 < C → u * C ≤ D → a * C < D * b
scaled_lt a b u C D h p l =
    let x : a * C < u * b * C = mul-lt-mul_of_pos_right h p in
    let y : u * C * b ≤ D * b = mul-le-mul_right b l in
    omega arith

pub sqrt_double_bounded : (a b : ℕ) → 0 < b → a < 2 ^ 1024 * b → Bounded (sqrt_real (2 ^ 1075) a b) 1600
sqrt_double_bounded a b p h =
    sqrt_bounded (2 ^ 1075) a b 1600 p
    (scaled_lt a b (2 ^ 1024) (2 ^ 1075 * 2 ^ 1075) (2 ^ 1600 * 2 ^ 1600) h (mul-pos (pow_pos 1075) (pow_pos 1075))
    (lit≤ tt))

pub cbrt_double_bounded : (a b : ℕ) → 0 < b → a < 2 ^ 1024 * b → Bounded (cbrt_real (2 ^ 1075) a b) 1600
cbrt_double_bounded a b p h =
    cbrt_bounded (2 ^ 1075) a b 1600 p
    (scaled_lt a b (2 ^ 1024) (2 ^ 1075 * 2 ^ 1075 * 2 ^ 1075) (2 ^ 1600 * 2 ^ 1600 * 2 ^ 1600) h
    (mul-pos (mul-pos (pow_pos 1075) (pow_pos 1075)) (pow_pos 1075)) (lit≤ tt))

-- ---- the functions at a value

-- a value other than 0 is not written 0 * x
pub no_zero : (x a c d : ℕ) → 0 < a → 0 < d → 0 * x * c ≡ a * d → ⊥
no_zero x a c d p q e =
    let y = mul-pos p q in let z : 0 * x * c ≡ 0 = ap (λ (w : ℕ). w * c) (zero-mul x) ∙ zero-mul c in omega arith

pub sqrt_of_value : (x : Float) (a b : ℕ) → HasValue x false a b → 0 < a → 0 < b
    → sqrt_of x ≡ nearest_to binary64 false (sqrt_real (2 ^ 1075) a b) 1600
unfolding sqrt_of
sqrt_of_value nan a b h p q = absurd h
sqrt_of_value (inf t) a b h p q = absurd h
sqrt_of_value (fin t zero e) a b h p q = absurd (no_zero (up e) a b (down e) p (down_pos e) h.1)
sqrt_of_value (fin t (suc m) e) a b h p q =
    ap (λ (s : Bool). cond s nan (nearest_to binary64 false (sqrt_real (2 ^ 1075) (suc m * up e) (down e)) 1600)) h.0
    ∙ (λ i. nearest_to binary64 false
    (λ (n : ℕ). sqrt_fraction (2 ^ 1075) (suc m * up e) (down e) a b (down_pos e) q h.1 n i) 1600)

pub sqrt_of_negative : (x : Float) (a b : ℕ) → HasValue x true a b → 0 < a → sqrt_of x ≡ nan
unfolding sqrt_of
sqrt_of_negative nan a b h p = absurd h
sqrt_of_negative (inf t) a b h p = absurd h
sqrt_of_negative (fin t zero e) a b h p = absurd (no_zero (up e) a b (down e) p (down_pos e) h.1)
sqrt_of_negative (fin t (suc m) e) a b h p =
    ap (λ (s : Bool). cond s nan (nearest_to binary64 false (sqrt_real (2 ^ 1075) (suc m * up e) (down e)) 1600)) h.0

pub cbrt_of_value : (x : Float) (s : Bool) (a b : ℕ) → HasValue x s a b → 0 < a → 0 < b
    → cbrt_of x ≡ nearest_to binary64 s (cbrt_real (2 ^ 1075) a b) 1600
unfolding cbrt_of
cbrt_of_value nan s a b h p q = absurd h
cbrt_of_value (inf t) s a b h p q = absurd h
cbrt_of_value (fin t zero e) s a b h p q = absurd (no_zero (up e) a b (down e) p (down_pos e) h.1)
cbrt_of_value (fin t (suc m) e) s a b h p q =
    ap (λ (s : Bool). nearest_to binary64 s (cbrt_real (2 ^ 1075) (suc m * up e) (down e)) 1600) h.0
    ∙ (λ i. nearest_to binary64 s
    (λ (n : ℕ). cbrt_fraction (2 ^ 1075) (suc m * up e) (down e) a b (down_pos e) q h.1 n i) 1600)
