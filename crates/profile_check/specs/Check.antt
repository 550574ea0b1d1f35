-- The check of a profile: its conditions, in document 01's order, and the profile that it gives back. Definitions only.
-- Every comparison stands with the Rust's sides: with a NaN it is false, so it may not be turned round.
use Rattle.std.specs.Prelude.{ℕ, zero, suc, ◌+◌, Bool, true, false, cond, not, ◌&&◌, ◌||◌, List, Option, Some, None, Float}
use Rattle.std.specs.Prelude.{Result, Ok, Err}
use Rattle.doubles.specs.Operators.{◌-ᶠ◌, ◌*ᶠ◌, ◌/ᶠ◌, -ᶠ◌, ◌<ᶠ◌, ◌≤ᶠ◌, at}
use Rattle.doubles.specs.Constants.{0ᶠ, 2ᶠ, eps}
use Rattle.doubles.specs.Functions.{absᶠ}
use Rattle.profile.specs.Tolerances.{p_precision, v_precision, a_precision, t_max}
use Rattle.profile.specs.Names.{ends_in_vel, is_acc0, is_acc1, is_acc0_acc1}
use Rattle.profile.specs.Limits.{direction_of, bounds_of}
use Rattle.profile.specs.Boundary.{start_of, target_of}
use Rattle.profile_rows.specs.Rows.{sums, jerks, rows_of}
use Rattle.profile.specs.declared.Profile.{Profile}
use Rattle.profile.specs.declared.Start.{Start}
use Rattle.profile.specs.declared.Target.{Target}
use Rattle.profile.specs.declared.Limits.{Limits}
use Rattle.profile_rows.specs.declared.Rows.{Rows}
use Rattle.profile.specs.declared.Bounds.{Bounds}
use Rattle.profile.specs.declared.ReachedLimits.{ReachedLimits}
use Rattle.profile.specs.declared.ControlSigns.{ControlSigns}

-- f holds of each of the n numbers from i on
abbrev pub each : ℕ → ℕ → (ℕ → Bool) → Bool
each i zero f = true
each i (suc n) f = each i n f && f (i + n)

-- no time is negative
unfoldable pub times_pass : List Float → Bool
times_pass t = each 0 7 (λ i. not (at t i <ᶠ 0ᶠ))

-- phase 3 is not below EPS for names that end in Vel, phase 1 for Acc0 and Acc0Acc1, phase 5 for Acc1 and Acc0Acc1
unfoldable pub phases_pass : ReachedLimits → List Float → Bool
phases_pass reached t =
    not (ends_in_vel reached && (at t 3 <ᶠ eps))
    && not ((is_acc0 reached || is_acc0_acc1 reached) && (at t 1 <ᶠ eps))
    && not ((is_acc1 reached || is_acc0_acc1 reached) && (at t 5 <ᶠ eps))

-- the sum is not above the longest duration
unfoldable pub sum_passes : Float → List Float → Bool
sum_passes longest t = not (longest <ᶠ at (sums t) 6)

-- in a phase at the jerk j, from the acceleration a and the velocity v to the acceleration a': where a' × a < -EPS the
-- speed at zero acceleration is within limits. As in the Rust a NaN there passes
unfoldable pub zero_passes : (a a' v j : Float) → Bounds → Bool
zero_passes a a' v j b =
    let v-a-zero = v -ᶠ a *ᶠ a /ᶠ (2ᶠ *ᶠ j) in
    not ((a' *ᶠ a <ᶠ -ᶠ eps) && ((b.v_upp_lim <ᶠ v-a-zero) || (v-a-zero <ᶠ b.v_low_lim)))

-- from phase 2 on, which is phases 2 to 6
unfoldable pub zeros_pass : Rows → List Float → Bounds → Bool
zeros_pass r j b = each 2 5 (λ i. zero_passes (at r.a i) (at r.a (suc i)) (at r.v i) (at j i) b)

-- the last row is at the target
unfoldable pub end_passes : Rows → Target → Bool
end_passes r target =
    (absᶠ (at r.p 7 -ᶠ target.pf) <ᶠ p_precision)
    && (absᶠ (at r.v 7 -ᶠ target.vf) <ᶠ v_precision)
    && (absᶠ (at r.a 7 -ᶠ target.af) <ᶠ a_precision)

-- an acceleration, a velocity within the bounds
abbrev pub a_within : Bounds → Float → Bool
a_within b a = (b.a_low_lim ≤ᶠ a) && (a ≤ᶠ b.a_upp_lim)

abbrev pub v_within : Bounds → Float → Bool
v_within b v = (v ≤ᶠ b.v_upp_lim) && (b.v_low_lim ≤ᶠ v)

-- the accelerations of rows 1, 3 and 5 and the velocities of rows 3 to 6 are within the bounds; row 7 isn't compared
-- with them
abbrev pub a_rows_pass : Rows → Bounds → Bool
a_rows_pass r b = a_within b (at r.a 1) && a_within b (at r.a 3) && a_within b (at r.a 5)

abbrev pub v_rows_pass : Rows → Bounds → Bool
v_rows_pass r b = each 3 4 (λ i. v_within b (at r.v i))

unfoldable pub rows_pass : Rows → Bounds → Bool
rows_pass r b = a_rows_pass r b && v_rows_pass r b

-- whether the times t, from the start, meet every condition
unfoldable pub accepted : Start → Target → List Float → ControlSigns → ReachedLimits → Bool → Float → Limits → Bool
accepted start target t signs reached set-limits jf m =
    let j = jerks signs t jf in
    let r = rows_of start t j reached set-limits m in
    let b = bounds_of m in
    times_pass t && phases_pass reached t && sum_passes t_max t && zeros_pass r j b && end_passes r target && rows_pass r b

-- the boundary of q, with the times t and what the check fills in
unfoldable pub filled : Profile → List Float → ControlSigns → ReachedLimits → Bool → Float → Limits → Profile
filled q t signs reached set-limits jf m =
    let j = jerks signs t jf in
    let r = rows_of (start_of q) t j reached set-limits m in
    record {
      t = t;
      t_sum = sums t;
      j = j;
      a = r.a;
      v = r.v;
      p = r.p;
      brake = q.brake;
      accel = q.accel;
      pf = q.pf;
      vf = q.vf;
      af = q.af;
      limits = reached;
      direction = direction_of m;
      control_signs = signs;
    }

-- what a check says, and the profile as it is after it
pub record Checked : Type 0 where
  pub ok : Bool
  pub profile : Profile

-- the filled profile, or a no and the profile that was given
unfoldable pub checked : Profile → ControlSigns → ReachedLimits → Bool → Float → Limits → Checked
checked q signs reached set-limits jf m =
    cond
    (accepted (start_of q) (target_of q) q.t signs reached set-limits jf m)
    (record { ok = true; profile = filled q q.t signs reached set-limits jf m })
    (record { ok = false; profile = q })

-- `check`: the profile where it is accepted
abbrev pub passed : Checked → Option Profile
passed c = cond c.ok (Some c.profile) None

-- the profile q after such an answer
abbrev pub profile_after : Profile → Option Profile → Profile
profile_after q (Some r) = r
profile_after q None = q

-- all of it in one answer: the profile where it is accepted, or as a no leaves it
abbrev pub judged : Checked → Result Profile Profile
judged c = cond c.ok (Ok c.profile) (Err c.profile)
