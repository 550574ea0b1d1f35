-- `time_acc0_acc1`. Definitions only.
use Rattle.std.specs.Prelude.{Bool, cond, List, [], ◌∷◌, Float}
use Rattle.doubles.specs.Operators.{◌≤ᶠ◌}
use Rattle.doubles.specs.Constants.{0ᶠ}
use Rattle.elementary.specs.Functions.{sqrt_of}
use Rattle.profile.specs.declared.Start.{Start}
use Rattle.profile.specs.declared.Target.{Target}
use Rattle.profile.specs.declared.Limits.{Limits}
use Rattle.profile.specs.declared.ReachedLimits.TheVariants.{Acc0Acc1}
use Rattle.phase_times.specs.TimeAcc0Acc1.{acc0_acc1_radicand, acc0_acc1_h1, acc0_acc1_h2, acc0_acc1_h3}
use Rattle.phase_times.specs.TimeAcc0Acc1.{admits_acc0_acc1_solution2, admits_acc0_acc1_solution1}
use Rattle.phase_times.specs.TimeAcc0Acc1.{times_acc0_acc1_solution2, times_acc0_acc1_solution1}
use Rattle.phase_times.specs.declared.constants.Constants.{Constants}
use Rattle.candidates.specs.declared.Try.{Try}
use Rattle.candidates.specs.declared.Candidates.{Candidates}
use Rattle.position_third_step1.specs.CheckTree.{CheckTree, tries, try_of}
use Rattle.position_third_step1.specs.Slots.{Slot, held, numbers}
use Rattle.position_third_step1.specs.declared.families.Shared.{Shared}

-- h0 is the radicand
unfoldable pub acc0_acc1_shared : Start → Target → Constants → Limits → Shared
acc0_acc1_shared start target k m =
    let radicand = acc0_acc1_radicand start target k m in
    numbers radicand (acc0_acc1_h1 (sqrt_of radicand)) (acc0_acc1_h2 start k m) (acc0_acc1_h3 target k m)

-- solution 2, then solution 1, each where its guard admits it
abbrev pub acc0_acc1_solutions : Start → Target → Limits → (h1 h2 h3 : Float) → List Slot
acc0_acc1_solutions start target m h1 h2 h3 =
    (admits_acc0_acc1_solution2 m h1 h2 h3, times_acc0_acc1_solution2 start target m h1 h2 h3)
    ∷ (admits_acc0_acc1_solution1 m h1 h2 h3, times_acc0_acc1_solution1 start target m h1 h2 h3)
    ∷ []

-- none for a radicand below 0, or a NaN
unfoldable pub acc0_acc1_slots : Start → Target → Limits → Shared → List Slot
acc0_acc1_slots start target m s = cond (0ᶠ ≤ᶠ s.h0) (acc0_acc1_solutions start target m s.h1 s.h2 s.h3) []

unfoldable pub acc0_acc1_tries : Start → Target → Constants → Limits → List Try
acc0_acc1_tries start target k m =
    held (try_of start target m Acc0Acc1) (acc0_acc1_slots start target m (acc0_acc1_shared start target k m))

abbrev pub time_acc0_acc1 : Candidates → Start → Target → Constants → Limits → (return-after-found : Bool) → CheckTree
time_acc0_acc1 c start target k m return-after-found = tries return-after-found c (acc0_acc1_tries start target k m)
