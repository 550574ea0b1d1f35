-- The four reals by their comparison with whole numbers: each is compared with n / one, where
-- `one` is how many half units make 1. The argument is the fraction a / b, or -a / b. Both sides of an inequality
-- are multiplied by the denominators, and a term that is subtracted stands on the other side. Definitions only.
use Prim.Native.Nat.{ℕ, ◌+◌, ◌*◌, compare, Ordering}
use Rattle.std.specs.Prelude.{Bool, cond, ltb}
use Rattle.elementary.specs.Nearest.{Real}

-- √(a / b): a / b compared with (n / one)²
abbrev pub sqrt_real : ℕ → ℕ → ℕ → Real
sqrt_real one a b n = compare (a * (one * one)) (n * n * b)

-- ∛(a / b): a / b compared with (n / one)³
abbrev pub cbrt_real : ℕ → ℕ → ℕ → Real
cbrt_real one a b n = compare (a * (one * one * one)) (n * n * n * b)

-- ---- the third of an angle whose cosine t is a / b, or -a / b where `negative`: t is from -1 to 1

-- Its cosine c, from 1/2 to 1 with 4c³ - 3c = t: 3c + t compared with 4c³ at c = n / one. The
-- difference rises from c = 1/2 on, and below 1/2 the real is greater.
abbrev pub third_angle_cosine_real : ℕ → Bool → ℕ → ℕ → Real
third_angle_cosine_real one negative a b n =
    cond (ltb (2 * n) one) Ordering.gt
    (compare (3 * n * one * one * b + cond negative 0 (a * one * one * one))
    (4 * n * n * n * b + cond negative (a * one * one * one) 0))

-- The squared equation of the cosine with 1 - s² for c²: (1 - s²)(1 - 4s²)² = t², that is
-- 1 + 24s⁴ = 16s⁶ + 9s² + t². The two sides are compared at s = n / one, with Q for one².
abbrev pub sine_sides : ℕ → ℕ → ℕ → Real
sine_sides Q a b n =
    let q = n * n in
    compare ((Q * Q * Q + 24 * q * q * Q) * (b * b)) ((16 * q * q * q + 9 * q * Q * Q) * (b * b) + a * a * (Q * Q * Q))

abbrev pub opposite : Ordering → Ordering
opposite Ordering.lt = Ordering.gt
opposite Ordering.eq = Ordering.eq
opposite Ordering.gt = Ordering.lt

-- Its sine s = √(1 - c²). (1 - s²)(1 - 4s²)² falls from 1 to 0 as s goes from 0 to 1/2, where
-- t goes from 1 to 0, and rises to 1 as s goes on to √3 / 2, where t goes to -1. Outside the
-- range of its sign of t the answer is on which side of that range n is.
abbrev pub third_angle_sine_real : ℕ → Bool → ℕ → ℕ → Real
third_angle_sine_real one negative a b n =
    cond negative
    (cond (ltb (2 * n) one) Ordering.gt
    (cond (ltb (3 * (one * one)) (4 * (n * n))) Ordering.lt (opposite (sine_sides (one * one) a b n))))
    (cond (ltb one (2 * n)) Ordering.lt (sine_sides (one * one) a b n))
