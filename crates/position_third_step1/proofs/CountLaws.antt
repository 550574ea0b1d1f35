-- How many slots a family has. Assumes nothing.
use Prim.Native.Nat.{◌≤◌}
use mathlib.Core.Bool.{Bool, true, false, cond}
use mathlib.Core.List.{List, [], ◌∷◌}
use native.Mathlib.Omega.{arith}
use lib.ListN.{length}
use Rattle.doubles.specs.Operators.{◌≤ᶠ◌}
use Rattle.doubles.specs.Constants.{0ᶠ}
use Rattle.profile.specs.declared.Start.{Start}
use Rattle.profile.specs.declared.Target.{Target}
use Rattle.profile.specs.declared.Limits.{Limits}
use Rattle.phase_times.specs.TimeAllSingleStep.{changes_acceleration, starts_accelerated, starts_moving}
use Rattle.phase_times.specs.TimeAllSingleStep.{starts_at_target}
use Rattle.phase_times.specs.TimeAllSingleStep.{times_at_constant_speed, zero_times}
use Rattle.phase_times.specs.declared.constants.Constants.{Constants}
use Rattle.position_third_step1.specs.Slots.{Slot, always}
use Rattle.position_third_step1.specs.TimeAcc0Acc1.{acc0_acc1_solutions, acc0_acc1_slots}
use Rattle.position_third_step1.specs.TimeAllNoneAcc0Acc1.{none_shared, acc0_shared, acc1_shared}
use Rattle.position_third_step1.specs.TimeAllSingleStep.{accelerated_slots, single_step_slots}
use Rattle.position_third_step1.specs.Families.{shared_of, slots_of}
use Rattle.position_third_step1.specs.declared.families.Shared.{Shared}
use Rattle.position_third_step1.specs.declared.families.Family.{Family}
use Rattle.position_third_step1.specs.declared.families.Family.TheVariants.{AllVel, None, Acc0, Acc1, Acc0Acc1}
use Rattle.position_third_step1.specs.declared.families.Family.TheVariants.{NoneTwoStep, Acc0TwoStep, VelTwoStep}
use Rattle.position_third_step1.specs.declared.families.Family.TheVariants.{Acc1VelTwoStep, SingleStep}
use Rattle.position_third_step1.proofs.RootLaws.{four_roots}
use Rattle.position_third_step1.proofs.SlotLaws.{root_slots_law}

either : (b : Bool) (l n : List Slot) → length l ≤ 4 → length n ≤ 4 → length (cond b l n) ≤ 4
either true l n h g = h
either false l n h g = g

solutions : (start : Start) (target : Target) (m : Limits) (s : Shared) → length (acc0_acc1_slots start target m s) ≤ 4
unfolding acc0_acc1_slots
solutions start target m s =
    either (0ᶠ ≤ᶠ s.h0) (acc0_acc1_solutions start target m s.h1 s.h2 s.h3) [] (omega arith) (omega arith)

jerkless : (start : Start) (target : Target) (k : Constants) (s : Shared)
    → length (single_step_slots start target k s) ≤ 4
unfolding single_step_slots
jerkless start target k s =
    either (changes_acceleration start target) [] accelerated_or_not (omega arith)
    (either (starts_accelerated start) (accelerated_slots start s.h0) moving_or_not (omega arith)
    (either (starts_moving start) moving resting (omega arith) (omega arith)))
  where
    moving : List Slot
    moving = (true, times_at_constant_speed start k) ∷ []

    resting : List Slot
    resting = (starts_at_target k, zero_times) ∷ []

    moving_or_not : List Slot
    moving_or_not = cond (starts_moving start) moving resting

    accelerated_or_not : List Slot
    accelerated_or_not = cond (starts_accelerated start) (accelerated_slots start s.h0) moving_or_not

-- at most four
pub four_slots : (start : Start) (target : Target) (k : Constants) (m : Limits) (f : Family)
    → length (slots_of start target k m f (shared_of start target k m f)) ≤ 4
unfolding slots_of shared_of always none_shared acc0_shared acc1_shared
four_slots start target k m AllVel = omega arith
four_slots start target k m None = rw (root_slots_law _ _ _) (four_roots _ _)
four_slots start target k m Acc0 = rw (root_slots_law _ _ _) (four_roots _ _)
four_slots start target k m Acc1 = rw (root_slots_law _ _ _) (four_roots _ _)
four_slots start target k m Acc0Acc1 = solutions start target m _
four_slots start target k m NoneTwoStep = omega arith
four_slots start target k m Acc0TwoStep = omega arith
four_slots start target k m VelTwoStep = omega arith
four_slots start target k m Acc1VelTwoStep = omega arith
four_slots start target k m SingleStep = jerkless start target k _
