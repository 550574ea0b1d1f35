-- The errors over all phases: rows of doubles, each made of the one before, against the exact states. Assumes nothing.
use mathlib.Core.Path.{◌≡◌, sym, subst}
use mathlib.Core.Logic.{inl, inr}
use Prim.Native.Nat.{ℕ, zero, suc, ◌+◌, ◌*◌, ◌≤◌, ◌<◌, zero-le}
use native.Mathlib.Nat.{eq-or-lt_of_le, le_of_suc-le-suc, le_refl, le_antisymm, le_of_lt, le_step}
use native.Mathlib.Omega.{arith}
use Rattle.doubles.specs.Signed.{Signed, Near}
use Rattle.doubles.specs.Value.{Finite}
use Rattle.doubles.proofs.SignedLaws.{near_refl}
use Rattle.profile_rows.specs.declared.Row.{Row}
use Rattle.replay.proofs.ExactMotion.{Phase, Stateˢ, next_row, next_state, row_state, time, size_a, size_v, size_p}
use Rattle.replay.proofs.ExactMotion.{underflow_a, underflow_v, underflow_p, sum_to, time_to, state_at, error_a}
use Rattle.replay.proofs.ExactMotion.{error_v}
use Rattle.replay.proofs.ExactMotion.{error_p}
use Rattle.replay.proofs.PhaseErrors.{MotionError, PositionError, PhaseFits, RowFits, MotionFinite, PhaseFinite}
use Rattle.replay.proofs.PhaseErrors.{next_fits, before_finite, position_before_finite, motion_step}
use Rattle.replay.proofs.PhaseErrors.{position_step}

widened : (x y : Signed) (e f : ℕ) → e ≤ f → Near x y e → Near x y f
widened x y e f l n = record { low = omega (arith, n.low); high = omega (arith, n.high) }

motion_widened : (r : Row) (s : Stateˢ) (ey ez fy fz : ℕ) → ey ≤ fy → ez ≤ fz → MotionError r s ey ez
    → MotionError r s fy fz
motion_widened r s ey ez fy fz b c o = record { y = widened _ _ ey fy b o.y; z = widened _ _ ez fz c o.z }

-- an error of T, sa, sv, sp with a phase of t, la, lv, lp added is at most that of the sums
growth_y : (T t sa sv la lv : ℕ) → sv + 2 * T * sa + 2 * t * sa + lv ≤ sv + lv + 2 * (T + t) * (sa + la)
growth_y T t sa sv la lv = omega arith

growth_x : (T t sa sv sp la lv lp : ℕ)
    → sp + 3 * T * sv + 3 * (T * T) * sa + 3 * t * (sv + 2 * T * sa) + 3 * (t * t) * sa + lp
    ≤ sp + lp + 3 * (T + t) * (sv + lv) + 3 * ((T + t) * (T + t)) * (sa + la)
growth_x T t sa sv sp la lv lp = omega arith

-- what holds at n, and at each number before one at which it holds, holds up to n
descend : (P : ℕ → Type 0) (n : ℕ) → ((i : ℕ) → i < n → P (suc i) → P i) → P n → (i : ℕ) → i ≤ n → P i
descend P zero s p i l = subst P (sym (le_antisymm l zero-le)) p
descend P (suc n) s p i l = elim (eq-or-lt_of_le l) [
  | inl e ↦ subst P (sym e) p
  | inr m ↦ descend P n (λ i l. s i (le_step l)) (s n (le_refl (suc n)) p) i (le_of_suc-le-suc m)
]

-- ---- N rows, each made of the one before
pub record RowsMade (row : ℕ → Row) (h : ℕ → Phase) (N : ℕ) : Type 0 where
  pub first : RowFits (row 0)
  pub phases : (i : ℕ) → i < N → PhaseFits (h i)
  pub made : (i : ℕ) → i < N → row (suc i) ≡ next_row (h i) (row i)

module _ (row : ℕ → Row) (h : ℕ → Phase) (N : ℕ) (k : RowsMade row h N) where
  pub row_fits : (n : ℕ) → n ≤ N → RowFits (row n)
  row_fits zero l = k.first
  row_fits (suc n) l = subst (λ (r : Row). RowFits r) (sym (k.made n l)) (next_fits (h n) (row n) (k.phases n l))

  -- ---- a finite motion at row n has only finite ones before it
  previous_finite : (n : ℕ) → n < N → MotionFinite (row (suc n)) → MotionFinite (row n) × PhaseFinite (h n)
  previous_finite n l f = before_finite (h n) (row n) (subst (λ (r : Row). Finite r.v) (k.made n l) f.v)

  -- so where the motion at the last row is finite, everything that made it is
  module _ (f : MotionFinite (row N)) where
    pub motion_finite : (i : ℕ) → i ≤ N → MotionFinite (row i)
    motion_finite = descend (λ i. MotionFinite (row i)) N (λ i l g. (previous_finite i l g).0) f

    pub phase_finite : (i : ℕ) → i < N → PhaseFinite (h i)
    phase_finite i l = (previous_finite i l (motion_finite (suc i) l)).1

  pub position_finite : Finite (row N).p → (i : ℕ) → i ≤ N → Finite (row i).p
  position_finite =
      descend (λ i. Finite (row i).p) N
      (λ i l g. position_before_finite (h i) (row i) (subst (λ (r : Row). Finite r.p) (k.made i l) g))

  -- ---- the errors at row n
  pub motion_error : (n : ℕ) → n ≤ N → MotionFinite (row n)
      → MotionError (row n) (state_at h (row_state (row 0)) n) (error_v row h n + 2 * time_to h n * error_a row h n)
      (error_a row h n)
  unfolding state_at time_to error_a error_v sum_to
  motion_error zero l f =
      motion_widened (row 0) (row_state (row 0)) 0 0 _ _ zero-le zero-le (record { y = near_refl _; z = near_refl _ })
  motion_error (suc n) l f =
      let sa = error_a row h n in
      let sv = error_v row h n in
      let T = time_to h n in
      let t = time (h n) in
      let la = size_a (row n) (h n) + underflow_a in
      let lv = size_v (row n) (h n) + underflow_v t in
      let s = state_at h (row_state (row 0)) n in
      let f' = subst (λ (r : Row). MotionFinite r) (k.made n l) f in
      subst (λ (r : Row). MotionError r (next_state (h n) s) (sv + lv + 2 * (T + t) * (sa + la)) (sa + la))
      (sym (k.made n l))
      (motion_widened (next_row (h n) (row n)) (next_state (h n) s) _ _ _ _ (growth_y T t sa sv la lv) (le_refl (sa + la))
      (motion_step (h n) (row n) s (sv + 2 * T * sa) sa (k.phases n l) (row_fits n (le_of_lt l)) f'
      (motion_error n (le_of_lt l) (previous_finite n l f).0)))

  pub position_error_at : (n : ℕ) → n ≤ N → MotionFinite (row n) → Finite (row n).p
      → PositionError (row n) (state_at h (row_state (row 0)) n)
      (error_p row h n + 3 * time_to h n * error_v row h n + 3 * (time_to h n * time_to h n) * error_a row h n)
  unfolding state_at time_to error_a error_v error_p sum_to
  position_error_at zero l f q = widened _ _ 0 _ zero-le (near_refl _)
  position_error_at (suc n) l f q =
      let sa = error_a row h n in
      let sv = error_v row h n in
      let sp = error_p row h n in
      let T = time_to h n in
      let t = time (h n) in
      let la = size_a (row n) (h n) + underflow_a in
      let lv = size_v (row n) (h n) + underflow_v t in
      let lp = size_p (row n) (h n) + underflow_p t in
      let s = state_at h (row_state (row 0)) n in
      let f' = subst (λ (r : Row). MotionFinite r) (k.made n l) f in
      let q' = subst (λ (r : Row). Finite r.p) (k.made n l) q in
      let l' = le_of_lt l in
      let b = (previous_finite n l f).0 in
      subst (λ (r : Row). PositionError r (next_state (h n) s)
      (sp + lp + 3 * (T + t) * (sv + lv) + 3 * ((T + t) * (T + t)) * (sa + la))) (sym (k.made n l))
      (widened _ _ _ _ (growth_x T t sa sv sp la lv lp)
      (position_step (h n) (row n) s (sv + 2 * T * sa) sa (k.phases n l) (row_fits n l') f' (motion_error n l' b)
      (sp + 3 * T * sv + 3 * (T * T) * sa) q' (position_error_at n l' b (position_before_finite (h n) (row n) q'))))
