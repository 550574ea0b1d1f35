-- `time_all_single_step`: the moves without jerk, on one profile. Definitions only.
use Rattle.std.specs.Prelude.{Bool, true, false, cond, List, [], ◌∷◌, Float}
use Rattle.doubles.specs.Constants.{0ᶠ}
use Rattle.elementary.specs.Functions.{sqrt_of}
use Rattle.profile.specs.declared.Profile.{Profile}
use Rattle.profile_check.specs.Check.{Checked}
use Rattle.profile.specs.declared.Start.{Start}
use Rattle.profile.specs.declared.Target.{Target}
use Rattle.profile.specs.declared.Limits.{Limits}
use Rattle.profile.specs.declared.ReachedLimits.TheVariants.{None}
use Rattle.phase_times.specs.TimeAllSingleStep.{changes_acceleration, starts_accelerated, starts_moving}
use Rattle.phase_times.specs.TimeAllSingleStep.{starts_at_target}
use Rattle.phase_times.specs.TimeAllSingleStep.{has_phase3, single_step_radicand, times_single_step_solution1}
use Rattle.phase_times.specs.TimeAllSingleStep.{times_single_step_solution2, times_at_constant_speed, zero_times}
use Rattle.phase_times.specs.declared.constants.Constants.{Constants}
use Rattle.trees.specs.Tree.{Tree}
use Rattle.trees.specs.InTurn.{in_turn}
use Rattle.candidates.specs.Try.{profile_of}
use Rattle.candidates.specs.declared.Try.{Try}
use Rattle.position_third_step1.specs.Slots.{Slot, held, numbers}
use Rattle.position_third_step1.specs.declared.families.Shared.{Shared}

-- its checks are made at jerk 0
abbrev pub jerkless_try : Start → Target → Limits → List Float → Try
jerkless_try start target m t = record { start = start; target = target; t = t; reached = None; jf = 0ᶠ; limits = m }

-- h0 is the square root
unfoldable pub single_step_shared : Start → Constants → Shared
single_step_shared start k = numbers (sqrt_of (single_step_radicand start k)) 0ᶠ 0ᶠ 0ᶠ

-- at constant acceleration. A solution whose phase 3 is negative or a NaN is not put to the check
abbrev pub accelerated_slots : Start → (root : Float) → List Slot
accelerated_slots start root =
    let t1 = times_single_step_solution1 start root in
    let t2 = times_single_step_solution2 start root in
    (has_phase3 t1, t1) ∷ (has_phase3 t2, t2) ∷ []

-- at constant acceleration, at constant velocity, at rest
unfoldable pub single_step_slots : Start → Target → Constants → Shared → List Slot
single_step_slots start target k s =
    cond (changes_acceleration start target) []
    (cond (starts_accelerated start) (accelerated_slots start s.h0)
    (cond (starts_moving start) ((true, times_at_constant_speed start k) ∷ []) ((starts_at_target k, zero_times) ∷ [])))

unfoldable pub single_step_tries : Start → Target → Constants → Limits → List Try
single_step_tries start target k m =
    held (jerkless_try start target m) (single_step_slots start target k (single_step_shared start k))

-- a no, and the profile as it came
abbrev pub refusal : Profile → Checked
refusal q = record { ok = false; profile = q }

-- a yes, and the profile of the try, with the durations of the one before
unfoldable pub acceptance : Checked → Try → Checked
acceptance d x = record { ok = true; profile = profile_of d.profile.brake d.profile.accel x }

-- the tries up to the first success
abbrev pub first_accepted : Profile → List Try → Tree Try Bool Checked
first_accepted q xs = in_turn acceptance true (refusal q) xs

abbrev pub time_all_single_step : Profile → Start → Target → Constants → Limits → Tree Try Bool Checked
time_all_single_step q start target k m = first_accepted q (single_step_tries start target k m)
