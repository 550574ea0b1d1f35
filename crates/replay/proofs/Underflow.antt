-- What underflows in a whole replay: the errors against the allowance's sums, for phases that last at most l together.
-- Assumes nothing.
use Prim.Native.Nat.{ℕ, zero, suc, ◌+◌, ◌*◌, ◌≤◌}
use native.Mathlib.Nat.{mul-le-mul_left, mul-le-mul_right, mul-le-mul}
use native.Mathlib.Omega.{arith}
use Rattle.doubles.specs.Error.{H}
use Rattle.profile_rows.specs.declared.Row.{Row}
use Rattle.replay.specs.Replay.{U}
use Rattle.replay.proofs.ExactMotion.{2⁵⁰, Phase, time, size_a, size_v, size_p, underflow_a, underflow_v, underflow_p}
use Rattle.replay.proofs.ExactMotion.{sum_to, time_to, sum_a, sum_v, sum_p, error_a, error_v, error_p}

-- a sum of f with at most c more in each part. An error's parts grow with the time, which is at most m
module _ (h : ℕ → Phase) (f : ℕ → ℕ) (g : ℕ → ℕ) (m : ℕ) (mono : (t : ℕ) → t ≤ m → g t ≤ g m) where
  sum_with : (n : ℕ) → time_to h n ≤ m → sum_to n (λ i. f i + g (time (h i))) ≤ sum_to n f + n * g m
  unfolding time_to sum_to
  sum_with zero l = omega arith
  sum_with (suc n) l =
      omega (
        arith,
        sum_with n (left (time_to h n) (time (h n)) l),
        mono (time (h n)) (right (time_to h n) (time (h n)) l),
      )
    where
      left : (a b : ℕ) → a + b ≤ m → a ≤ m
      left a b l = omega arith

      right : (a b : ℕ) → a + b ≤ m → b ≤ m
      right a b l = omega arith

mono_v : (m t : ℕ) → t ≤ m → underflow_v t ≤ underflow_v m
mono_v m t l = side U
  where
    side : (u : ℕ) → 4 * (H * (t * u)) + H * (u * u) ≤ 4 * (H * (m * u)) + H * (u * u)
    side u = omega (arith, mul-le-mul_right u l)

mono_p : (m t : ℕ) → t ≤ m → underflow_p t ≤ underflow_p m
mono_p m t l = side U
  where
    side : (u : ℕ)
        → 56 * (H * (t * t * u)) + 6 * (H * (t * (u * u))) + 2 * (H * (u * u * u))
        ≤ 56 * (H * (m * m * u)) + 6 * (H * (m * (u * u))) + 2 * (H * (u * u * u))
    side u = omega (arith, mul-le-mul_right u (mul-le-mul l l), mul-le-mul_right (u * u) l)

-- ---- in all, for n phases that last at most l seconds together: times U³, U² and U
abbrev pub total_underflow_x : ℕ → ℕ → ℕ
total_underflow_x n l = n * (68 * (H * (l * l)) + 9 * (H * l) + 2 * H + 3 * (2⁵⁰ * (l * l)))

abbrev pub total_underflow_y : ℕ → ℕ → ℕ
total_underflow_y n l = n * (4 * (H * l) + H + 2 * (2⁵⁰ * l))

abbrev pub total_underflow_z : ℕ → ℕ
total_underflow_z n = n * 2⁵⁰

module _ (row : ℕ → Row) (h : ℕ → Phase) (n l : ℕ) (lasts : time_to h n ≤ l * U) where
  error_a_law : error_a row h n ≤ sum_a row h n + n * underflow_a
  unfolding error_a sum_a
  error_a_law = sum_with h (λ i. size_a (row i) (h i)) (λ t. underflow_a) (l * U) (λ t l. omega arith) n lasts

  error_v_law : error_v row h n ≤ sum_v row h n + n * underflow_v (l * U)
  unfolding error_v sum_v
  error_v_law = sum_with h (λ i. size_v (row i) (h i)) (λ t. underflow_v t) (l * U) (mono_v (l * U)) n lasts

  error_p_law : error_p row h n ≤ sum_p row h n + n * underflow_p (l * U)
  unfolding error_p sum_p
  error_p_law = sum_with h (λ i. size_p (row i) (h i)) (λ t. underflow_p t) (l * U) (mono_p (l * U)) n lasts

  pub error_z_total : error_a row h n ≤ sum_a row h n + total_underflow_z n * U
  error_z_total = omega (arith, error_a_law)

  pub error_y_total : error_v row h n + 2 * time_to h n * error_a row h n
      ≤ sum_v row h n + 2 * time_to h n * sum_a row h n + total_underflow_y n l * (U * U)
  error_y_total =
      side (time_to h n) U (error_a row h n) (sum_a row h n) (error_v row h n) (sum_v row h n) lasts error_a_law error_v_law
    where
      side : (t u ea sa ev sv : ℕ) → t ≤ l * u → ea ≤ sa + n * (2⁵⁰ * u)
          → ev ≤ sv + n * (4 * (H * (l * u * u)) + H * (u * u))
          → ev + 2 * t * ea ≤ sv + 2 * t * sa + total_underflow_y n l * (u * u)
      side t u ea sa ev sv h a v = omega (arith, mul-le-mul_left t a, mul-le-mul_right (n * (2⁵⁰ * u)) h)

  pub error_x_total : error_p row h n + 3 * time_to h n * error_v row h n + 3 * (time_to h n * time_to h n) * error_a row h n
      ≤ sum_p row h n + 3 * time_to h n * sum_v row h n + 3 * (time_to h n * time_to h n) * sum_a row h n
      + total_underflow_x n l * (U * U * U)
  error_x_total =
      side (time_to h n) U (error_a row h n) (sum_a row h n) (error_v row h n) (sum_v row h n) (error_p row h n)
      (sum_p row h n) lasts error_a_law error_v_law error_p_law
    where
      side : (t u ea sa ev sv ep sp : ℕ) → t ≤ l * u → ea ≤ sa + n * (2⁵⁰ * u)
          → ev ≤ sv + n * (4 * (H * (l * u * u)) + H * (u * u))
          → ep ≤ sp + n * (56 * (H * (l * u * (l * u) * u)) + 6 * (H * (l * u * (u * u))) + 2 * (H * (u * u * u)))
          → ep + 3 * t * ev + 3 * (t * t) * ea ≤ sp + 3 * t * sv + 3 * (t * t) * sa + total_underflow_x n l * (u * u * u)
      side t u ea sa ev sv ep sp h a v p =
          omega (
            arith,
            mul-le-mul_left t v,
            mul-le-mul_left (t * t) a,
            mul-le-mul_right (n * (4 * (H * (l * u * u)) + H * (u * u))) h,
            mul-le-mul_right (n * (2⁵⁰ * u)) (mul-le-mul h h),
          )
