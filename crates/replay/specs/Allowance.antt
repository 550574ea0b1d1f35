-- The rounding allowance of document 01, over whole numbers. Definitions only.
use Rattle.std.specs.Prelude.{ℕ, zero, suc, ◌+◌, ◌-◌, ◌*◌, ◌^◌}
use Rattle.doubles.specs.Operators.{at}
use Rattle.doubles.specs.Exact.{exact_size}
use Rattle.profile.specs.declared.Profile.{Profile}
use Rattle.replay.specs.Replay.{U}

-- f 0 + .. + f (n - 1)
unfoldable pub sum_to : ℕ → (ℕ → ℕ) → ℕ
sum_to zero f = 0
sum_to (suc n) f = sum_to n f + f n

-- 2 ^ -800, times 6 × 2 ^ 4346
unfoldable pub underflow : ℕ
underflow = 6 * 2 ^ (4346 - 800)

-- ---- the sums over seven phases, row i with phase i. Below, t, j, a, v, p are U times the size of the number that
-- they name; an accepted time is not below 0
module _ (q : Profile) where
  abbrev t : ℕ → ℕ
  t i = exact_size (at q.t i)

  abbrev j : ℕ → ℕ
  j i = exact_size (at q.j i)

  abbrev a : ℕ → ℕ
  a i = exact_size (at q.a i)

  abbrev v : ℕ → ℕ
  v i = exact_size (at q.v i)

  abbrev p : ℕ → ℕ
  p i = exact_size (at q.p i)

  -- of t, times U
  unfoldable pub T : ℕ
  T = sum_to 7 (λ i. t i)

  -- of |a| + |j|t, times U²
  unfoldable pub Sa : ℕ
  Sa = sum_to 7 (λ i. U * a i + j i * t i)

  -- of |v| + |a|t + |j|t²/2, times 2 U³
  unfoldable pub Sv : ℕ
  Sv = sum_to 7 (λ i. 2 * (U * U) * v i + 2 * U * a i * t i + j i * (t i * t i))

  -- of |p| + |v|t + |a|t²/2 + |j|t³/6, times 6 U⁴
  unfoldable pub Sp : ℕ
  Sp =
      sum_to 7
      (λ i. 6 * (U * U * U) * p i + 6 * (U * U) * v i * t i + 3 * U * a i * (t i * t i) + j i * (t i * t i * t i))

  -- ---- the allowances, times 6 × 2 ^ 4346, which is 2 ^ 50 × 6 U⁴
  -- 2 ^ -50 × (Sp + T-as-Sv + T²·Sa/2), plus 2 ^ -800
  unfoldable pub position_allowance : ℕ
  position_allowance = Sp + 3 * (T * Sv) + 3 * (T * T * Sa) + underflow

  -- 2 ^ -50 × (Sv + T-as-Sa), plus 2 ^ -800
  unfoldable pub velocity_allowance : ℕ
  velocity_allowance = 3 * U * (Sv + 2 * (T * Sa)) + underflow

  -- 2 ^ -50 × Sa, plus 2 ^ -800
  unfoldable pub acceleration_allowance : ℕ
  acceleration_allowance = 6 * (U * U) * Sa + underflow
