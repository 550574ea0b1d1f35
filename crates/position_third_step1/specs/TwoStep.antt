-- The two-step families, which are tried where no other found anything. Each stops at its first success. Definitions
-- only.
use Rattle.std.specs.Prelude.{true, List, [], ◌∷◌, Float}
use Rattle.doubles.specs.Constants.{0ᶠ}
use Rattle.elementary.specs.Functions.{sqrt_of}
use Rattle.profile.specs.declared.Start.{Start}
use Rattle.profile.specs.declared.Target.{Target}
use Rattle.profile.specs.declared.Limits.{Limits}
use Rattle.profile.specs.declared.ReachedLimits.TheVariants.{Vel, Acc0, Acc1Vel, None}
use Rattle.phase_times_two_step.specs.ScaledRoot.{scaled_root}
use Rattle.phase_times_two_step.specs.TimeAcc1VelTwoStep.{times_acc1_vel_two_step}
use Rattle.phase_times_two_step.specs.TimeAcc0TwoStep.{times_acc0_two_step, times_acc0_removed_pf}
use Rattle.phase_times_two_step.specs.TimeAcc0TwoStep.{acc0_removed_a_max_h0, acc0_removed_a_max_radicand}
use Rattle.phase_times_two_step.specs.TimeAcc0TwoStep.{times_acc0_removed_a_max, times_acc0_to_a_min}
use Rattle.phase_times_two_step.specs.TimeVelTwoStep.{times_vel_phase0, times_vel_phase2}
use Rattle.phase_times_two_step.specs.TimeNoneTwoStep.{none_two_step_radicand, times_none_two_step}
use Rattle.phase_times_two_step.specs.TimeNoneTwoStep.{times_none_single_step}
use Rattle.phase_times.specs.declared.constants.Constants.{Constants}
use Rattle.candidates.specs.declared.Try.{Try}
use Rattle.candidates.specs.declared.Candidates.{Candidates}
use Rattle.position_third_step1.specs.CheckTree.{CheckTree, tries, try_of}
use Rattle.position_third_step1.specs.Slots.{Slot, always, held, numbers}
use Rattle.position_third_step1.specs.declared.families.Shared.{Shared}
use Rattle.position_third_step1.specs.TimeAllVel.{t_acc1}

-- ---- ACC1_VEL
abbrev pub acc1_vel_two_step_slots : Start → Target → Constants → Limits → List Slot
acc1_vel_two_step_slots start target k m = always (times_acc1_vel_two_step start target k m ∷ [])

unfoldable pub acc1_vel_two_step_tries : Start → Target → Constants → Limits → List Try
acc1_vel_two_step_tries start target k m = held (try_of start target m Acc1Vel) (acc1_vel_two_step_slots start target k m)

abbrev pub time_acc1_vel_two_step : Candidates → Start → Target → Constants → Limits → CheckTree
time_acc1_vel_two_step c start target k m = tries true c (acc1_vel_two_step_tries start target k m)

-- ---- ACC0: two step; three step, removed pf; three step, removed a_max; three step with t = (a_max - a_min) / j_max
abbrev pub times_removed_a_max : Start → Target → Constants → Limits → List Float
times_removed_a_max start target k m =
    let h0 = acc0_removed_a_max_h0 start target k m in
    let h1 = scaled_root m (sqrt_of (acc0_removed_a_max_radicand start target k m h0)) in
    times_acc0_removed_a_max start target k m h0 h1

abbrev pub acc0_two_step_slots : Start → Target → Constants → Limits → List Slot
acc0_two_step_slots start target k m =
    always
    (times_acc0_two_step start target k m
    ∷ times_acc0_removed_pf start target k m
    ∷ times_removed_a_max start target k m
    ∷ times_acc0_to_a_min start target k m
    ∷ [])

unfoldable pub acc0_two_step_tries : Start → Target → Constants → Limits → List Try
acc0_two_step_tries start target k m = held (try_of start target m Acc0) (acc0_two_step_slots start target k m)

abbrev pub time_acc0_two_step : Candidates → Start → Target → Constants → Limits → CheckTree
time_acc0_two_step c start target k m = tries true c (acc0_two_step_tries start target k m)

-- ---- VEL
unfoldable pub vel_two_step_shared : Target → Constants → Limits → Shared
vel_two_step_shared target k m = numbers 0ᶠ (t_acc1 target k m) 0ᶠ 0ᶠ

abbrev pub vel_two_step_slots : Start → Target → Constants → Limits → Shared → List Slot
vel_two_step_slots start target k m s =
    always (times_vel_phase0 start target k m s.h1 ∷ times_vel_phase2 start target k m s.h1 ∷ [])

unfoldable pub vel_two_step_tries : Start → Target → Constants → Limits → List Try
vel_two_step_tries start target k m =
    held (try_of start target m Vel) (vel_two_step_slots start target k m (vel_two_step_shared target k m))

abbrev pub time_vel_two_step : Candidates → Start → Target → Constants → Limits → CheckTree
time_vel_two_step c start target k m = tries true c (vel_two_step_tries start target k m)

-- ---- NONE: two step; single step
unfoldable pub none_two_step_shared : Start → Target → Constants → Limits → Shared
none_two_step_shared start target k m =
    numbers (scaled_root m (sqrt_of (none_two_step_radicand start target k m))) 0ᶠ 0ᶠ 0ᶠ

abbrev pub none_two_step_slots : Start → Target → Limits → Shared → List Slot
none_two_step_slots start target m s =
    always (times_none_two_step start target m s.h0 ∷ times_none_single_step start target m ∷ [])

unfoldable pub none_two_step_tries : Start → Target → Constants → Limits → List Try
none_two_step_tries start target k m =
    held (try_of start target m None) (none_two_step_slots start target m (none_two_step_shared start target k m))

abbrev pub time_none_two_step : Candidates → Start → Target → Constants → Limits → CheckTree
time_none_two_step c start target k m = tries true c (none_two_step_tries start target k m)
