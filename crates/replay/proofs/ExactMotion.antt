-- A phase of a profile in doubles and exactly. The exact state is kept in signed numbers as pairs, in which `omega`
-- reasons, at the scales of the replay: x, y, z are 6 U⁴ times the position, 2 U³ times the velocity, U² times the
-- acceleration. Definitions for the proofs.
use Prim.Native.Nat.{ℕ, zero, suc, ◌+◌, ◌*◌}
use mathlib.Core.Bool.{Bool, cond}
use lib.Ieee.{Float}
use Rattle.doubles.specs.Signed.{Signed, ◌⊕◌, ◌⊙◌, size}
use Rattle.doubles.specs.Value.{val}
use Rattle.doubles.specs.Error.{H}
use Rattle.profile_rows.specs.Rows.{row_after, stored_if}
use Rattle.profile_rows.specs.declared.Row.{Row}
use Rattle.replay.specs.Replay.{U}
unfoldable pub use Rattle.replay.specs.Allowance.{sum_to}

-- 2 ^ 50
abbrev pub 2⁵⁰ : ℕ
2⁵⁰ = 1125899906842624

-- ---- in doubles

-- a phase's time and jerk, and whether the acceleration after it is set, and to what
pub record Phase : Type 0 where
  pub t : Float
  pub j : Float
  pub sets : Bool
  pub a : Float

unfoldable pub next_row : Phase → Row → Row
next_row h r = stored_if h.sets h.a (row_after r h.t h.j)

-- ---- exactly
pub record Stateˢ : Type 0 where
  pub x : Signed
  pub y : Signed
  pub z : Signed

abbrev pub row_state : Row → Stateˢ
row_state r = record { x = (6 * (U * U * U)) ⊙ val r.p; y = (2 * (U * U)) ⊙ val r.v; z = U ⊙ val r.a }

-- U times a phase's time, which is not negative, and its jerk
abbrev pub time : Phase → ℕ
time h = (val h.t).plus

abbrev pub jerk : Phase → Signed
jerk h = val h.j

-- the state after a phase, before z is set
abbrev pub moved : Phase → Stateˢ → Stateˢ
moved h s =
    record {
      x = s.x ⊕ (3 * time h) ⊙ s.y ⊕ (3 * (time h * time h)) ⊙ s.z ⊕ (time h * time h * time h) ⊙ jerk h;
      y = s.y ⊕ (2 * time h) ⊙ s.z ⊕ (time h * time h) ⊙ jerk h;
      z = s.z ⊕ time h ⊙ jerk h;
    }

abbrev pub set_ifˢ : Bool → Float → Stateˢ → Stateˢ
set_ifˢ b a s = record { x = s.x; y = s.y; z = cond b (U ⊙ val a) s.z }

abbrev pub next_state : Phase → Stateˢ → Stateˢ
next_state h s = set_ifˢ h.sets h.a (moved h s)

-- ---- a phase's part of Sa, Sv, Sp
abbrev pub size_a : Row → Phase → ℕ
size_a r h = U * size (val r.a) + time h * size (jerk h)

abbrev pub size_v : Row → Phase → ℕ
size_v r h = 2 * (U * U) * size (val r.v) + 2 * time h * (U * size (val r.a)) + time h * time h * size (jerk h)

abbrev pub size_p : Row → Phase → ℕ
size_p r h =
    6 * (U * U * U) * size (val r.p)
    + 3 * time h * (2 * (U * U) * size (val r.v))
    + 3 * (time h * time h) * (U * size (val r.a))
    + time h * time h * time h * size (jerk h)

-- what underflows in a phase of time t
abbrev pub underflow_a : ℕ
underflow_a = 2⁵⁰ * U

abbrev pub underflow_v : ℕ → ℕ
underflow_v t = 4 * (H * (t * U)) + H * (U * U)

abbrev pub underflow_p : ℕ → ℕ
underflow_p t = 56 * (H * (t * t * U)) + 6 * (H * (t * (U * U))) + 2 * (H * (U * U * U))

-- ---- over n phases
module _ (h : ℕ → Phase) where
  unfoldable pub time_to : ℕ → ℕ
  time_to n = sum_to n (λ i. time (h i))

  -- the state before phase n
  unfoldable pub state_at : Stateˢ → ℕ → Stateˢ
  state_at s zero = s
  state_at s (suc n) = next_state (h n) (state_at s n)

module _ (row : ℕ → Row) (h : ℕ → Phase) where
  -- Sa, Sv, Sp
  unfoldable pub sum_a : ℕ → ℕ
  sum_a n = sum_to n (λ i. size_a (row i) (h i))

  unfoldable pub sum_v : ℕ → ℕ
  sum_v n = sum_to n (λ i. size_v (row i) (h i))

  unfoldable pub sum_p : ℕ → ℕ
  sum_p n = sum_to n (λ i. size_p (row i) (h i))

  -- and with what underflows
  unfoldable pub error_a : ℕ → ℕ
  error_a n = sum_to n (λ i. size_a (row i) (h i) + underflow_a)

  unfoldable pub error_v : ℕ → ℕ
  error_v n = sum_to n (λ i. size_v (row i) (h i) + underflow_v (time (h i)))

  unfoldable pub error_p : ℕ → ℕ
  error_p n = sum_to n (λ i. size_p (row i) (h i) + underflow_p (time (h i)))
