-- The total of an accepted profile is a double from 0 to 1e12, whatever its times are: the check found them not below
-- 0, and with a time that isn't finite the velocity at the end wouldn't be. Assumes nothing.
use Prim.Native.Nat.{ℕ, zero, suc, ◌+◌, ◌-◌, ◌<◌}
use mathlib.Core.Path.{◌≡◌, subst}
use mathlib.Core.Bool.{Bool, false}
use native.Mathlib.Omega.{arith}
use lib.Ieee.{Float, binary64}
use lib.Ieee.Bits.{is_false}
use Rattle.doubles.specs.Operators.{◌-ᶠ◌, ◌<ᶠ◌, at}
use Rattle.doubles.specs.Constants.{0ᶠ}
use Rattle.doubles.specs.Value.{Finite, AtLeastZero}
use Rattle.doubles.proofs.OperationLaws.{sub_finite}
use Rattle.doubles.proofs.FunctionLaws.{abs_below_finite}
use Rattle.doubles.proofs.SumOrderLaws.{not_below_zero}
use Rattle.profile.specs.Tolerances.{t_max, v_precision}
use Rattle.profile.specs.declared.Profile.{Profile}
use Rattle.profile.specs.declared.Limits.{Limits}
use Rattle.profile_rows.specs.Rows.{sums, stored_if}
use Rattle.profile_check.specs.Accepted.{AcceptedMotion, row_at}
use Rattle.block.specs.Blocks.{total}
use Rattle.replay.proofs.ExactMotion.{Phase, next_row}
use Rattle.replay.proofs.PhaseErrors.{before_finite}
use Rattle.planner.proofs.PartLaws.{Part, total_part}

module _ (q : Profile) (set-limits : Bool) (jf : Float) (m : Limits) (s : AcceptedMotion q set-limits jf m) where
  last_finite : Finite (at q.v 7)
  last_finite =
      (sub_finite binary64 (at q.v 7) q.vf (abs_below_finite (at q.v 7 -ᶠ q.vf) v_precision s.v_end)).0

  -- a finite velocity in the next row has a finite one in this row and a finite time between
  before : (i : ℕ) → i < 7 → Finite (at q.v (suc i)) → Finite (at q.v i) × Finite (at q.t i)
  unfolding next_row stored_if
  before i l f =
      let phase : Phase = record { t = at q.t i; j = at q.j i; sets = false; a = 0ᶠ } in
      let k = before_finite phase (row_at q i) (subst (λ (x : Float). Finite x) (s.v_made i l) f) in
      (k.0.v, k.1.t)

  velocity_finite : (n i : ℕ) → i + n ≡ 7 → Finite (at q.v i)
  velocity_finite zero i e = let z : i ≡ 7 = omega arith in rw z last_finite
  velocity_finite (suc n) i e = (before i (omega arith) (velocity_finite n (suc i) (omega arith))).0

  time_at_least_zero : (i : ℕ) → i < 7 → AtLeastZero (at q.t i)
  time_at_least_zero i l =
      not_below_zero (at q.t i) (before i l (velocity_finite (6 - i) (suc i) (omega arith))).1
      (is_false (at q.t i <ᶠ 0ᶠ) (s.times i l))

  pub accepted_total : Part (total q)
  unfolding total
  accepted_total =
      rw s.t_sum (total_part q.t time_at_least_zero (is_false (t_max <ᶠ at (sums q.t) 6) s.sum))
