-- Every family by its name: what its tries share, its slots, and its tries. Definitions only.
use Rattle.std.specs.Prelude.{List, Float}
use Rattle.doubles.specs.Constants.{0ᶠ}
use Rattle.profile.specs.declared.Start.{Start}
use Rattle.profile.specs.declared.Target.{Target}
use Rattle.profile.specs.declared.Limits.{Limits}
use Rattle.profile.specs.declared.ReachedLimits.{ReachedLimits}
use Rattle.profile.specs.declared.ReachedLimits.TheVariants as reached
use Rattle.phase_times.specs.declared.constants.Constants.{Constants}
use Rattle.candidates.specs.declared.Try.{Try}
use Rattle.position_third_step1.specs.Slots.{Slot, held, numbers}
use Rattle.position_third_step1.specs.TimeAllVel.{all_vel_shared, all_vel_slots}
use Rattle.position_third_step1.specs.TimeAcc0Acc1.{acc0_acc1_shared, acc0_acc1_slots}
use Rattle.position_third_step1.specs.TimeAllNoneAcc0Acc1.{none_shared, acc0_shared, acc1_shared}
use Rattle.position_third_step1.specs.TimeAllNoneAcc0Acc1.{none_slots, acc0_slots, acc1_slots}
use Rattle.position_third_step1.specs.TwoStep.{none_two_step_shared, none_two_step_slots, acc0_two_step_slots}
use Rattle.position_third_step1.specs.TwoStep.{vel_two_step_shared, vel_two_step_slots, acc1_vel_two_step_slots}
use Rattle.position_third_step1.specs.TimeAllSingleStep.{single_step_shared, single_step_slots}
use Rattle.position_third_step1.specs.declared.families.Shared.{Shared}
use Rattle.position_third_step1.specs.declared.families.Family.{Family}
use Rattle.position_third_step1.specs.declared.families.Family.TheVariants.{AllVel, None, Acc0, Acc1, Acc0Acc1}
use Rattle.position_third_step1.specs.declared.families.Family.TheVariants.{NoneTwoStep, Acc0TwoStep, VelTwoStep}
use Rattle.position_third_step1.specs.declared.families.Family.TheVariants.{Acc1VelTwoStep, SingleStep}

module _ (start : Start) (target : Target) (k : Constants) (m : Limits) where
  unfoldable pub shared_of : Family → Shared
  shared_of AllVel = all_vel_shared start target k m
  shared_of None = none_shared start target k m
  shared_of Acc0 = acc0_shared start target k m
  shared_of Acc1 = acc1_shared start target k m
  shared_of Acc0Acc1 = acc0_acc1_shared start target k m
  shared_of NoneTwoStep = none_two_step_shared start target k m
  shared_of Acc0TwoStep = numbers 0ᶠ 0ᶠ 0ᶠ 0ᶠ
  shared_of VelTwoStep = vel_two_step_shared target k m
  shared_of Acc1VelTwoStep = numbers 0ᶠ 0ᶠ 0ᶠ 0ᶠ
  shared_of SingleStep = single_step_shared start k

  unfoldable pub slots_of : Family → Shared → List Slot
  slots_of AllVel s = all_vel_slots start target k m s
  slots_of None s = none_slots start target k m s
  slots_of Acc0 s = acc0_slots start target k m s
  slots_of Acc1 s = acc1_slots start target k m s
  slots_of Acc0Acc1 s = acc0_acc1_slots start target m s
  slots_of NoneTwoStep s = none_two_step_slots start target m s
  slots_of Acc0TwoStep s = acc0_two_step_slots start target k m
  slots_of VelTwoStep s = vel_two_step_slots start target k m s
  slots_of Acc1VelTwoStep s = acc1_vel_two_step_slots start target k m
  slots_of SingleStep s = single_step_slots start target k s

-- the limit that its tries are named after
unfoldable pub reached_by : Family → ReachedLimits
reached_by AllVel = reached.Vel
reached_by None = reached.None
reached_by Acc0 = reached.Acc0
reached_by Acc1 = reached.Acc1
reached_by Acc0Acc1 = reached.Acc0Acc1
reached_by NoneTwoStep = reached.None
reached_by Acc0TwoStep = reached.Acc0
reached_by VelTwoStep = reached.Vel
reached_by Acc1VelTwoStep = reached.Acc1Vel
reached_by SingleStep = reached.None

-- their jerk: that of the limits, and 0 on the single-step path
unfoldable pub jerk_by : Family → Limits → Float
jerk_by AllVel m = m.j_max
jerk_by None m = m.j_max
jerk_by Acc0 m = m.j_max
jerk_by Acc1 m = m.j_max
jerk_by Acc0Acc1 m = m.j_max
jerk_by NoneTwoStep m = m.j_max
jerk_by Acc0TwoStep m = m.j_max
jerk_by VelTwoStep m = m.j_max
jerk_by Acc1VelTwoStep m = m.j_max
jerk_by SingleStep m = 0ᶠ

-- a try of a family
abbrev pub try_by : Start → Target → Limits → Family → List Float → Try
try_by start target m f t =
    record { start = start; target = target; t = t; reached = reached_by f; jf = jerk_by f m; limits = m }

-- its tries
unfoldable pub tries_of : Start → Target → Constants → Limits → Family → List Try
tries_of start target k m f =
    held (try_by start target m f) (slots_of start target k m f (shared_of start target k m f))
