-- `time_all_vel`: all four tries are named Vel. Definitions only.
use Rattle.std.specs.Prelude.{true, List, [], ◌∷◌, Float}
use Rattle.doubles.specs.Constants.{0ᶠ}
use Rattle.elementary.specs.Functions.{sqrt_of}
use Rattle.profile.specs.declared.Start.{Start}
use Rattle.profile.specs.declared.Target.{Target}
use Rattle.profile.specs.declared.Limits.{Limits}
use Rattle.profile.specs.declared.ReachedLimits.TheVariants.{Vel}
use Rattle.phase_times.specs.TimeAllVel.{t_acc0_radicand, t_acc1_radicand, times_acc0_acc1_vel, times_acc1_vel}
use Rattle.phase_times.specs.TimeAllVel.{times_acc0_vel, times_vel}
use Rattle.phase_times.specs.declared.constants.Constants.{Constants}
use Rattle.candidates.specs.declared.Try.{Try}
use Rattle.candidates.specs.declared.Candidates.{Candidates}
use Rattle.position_third_step1.specs.CheckTree.{CheckTree, tries, try_of}
use Rattle.position_third_step1.specs.Slots.{Slot, always, held, numbers}
use Rattle.position_third_step1.specs.declared.families.Shared.{Shared}

abbrev pub t_acc0 : Start → Constants → Limits → Float
t_acc0 start k m = sqrt_of (t_acc0_radicand start k m)

abbrev pub t_acc1 : Target → Constants → Limits → Float
t_acc1 target k m = sqrt_of (t_acc1_radicand target k m)

-- h0 and h1 are t_acc0 and t_acc1
unfoldable pub all_vel_shared : Start → Target → Constants → Limits → Shared
all_vel_shared start target k m = numbers (t_acc0 start k m) (t_acc1 target k m) 0ᶠ 0ᶠ

-- ACC0_ACC1_VEL, ACC1_VEL, ACC0_VEL, VEL. The second and the fourth keep phases 4 to 6 of the try before them
abbrev pub all_vel_slots : Start → Target → Constants → Limits → Shared → List Slot
all_vel_slots start target k m s =
    let first = times_acc0_acc1_vel start target k m in
    let third = times_acc0_vel start target k m s.h1 in
    always
    (first
    ∷ times_acc1_vel start target k m s.h0 first
    ∷ third
    ∷ times_vel start target k m s.h0 s.h1 third
    ∷ [])

unfoldable pub all_vel_tries : Start → Target → Constants → Limits → List Try
all_vel_tries start target k m =
    held (try_of start target m Vel) (all_vel_slots start target k m (all_vel_shared start target k m))

-- it stops at its first success, whatever `return_after_found`
abbrev pub time_all_vel : Candidates → Start → Target → Constants → Limits → CheckTree
time_all_vel c start target k m = tries true c (all_vel_tries start target k m)
