-- Which family is tried first, second, and so on: call by call, and in document 01's words. Assumes nothing.
use mathlib.Core.Path.{◌≡◌, refl}
use mathlib.Core.Bool.{true, false}
use mathlib.Core.List.{List, [], ◌∷◌, ◌++◌, map}
use Rattle.profile.specs.Limits.{swapped_limits}
use Rattle.profile.specs.declared.Start.{Start}
use Rattle.profile.specs.declared.Target.{Target}
use Rattle.profile.specs.declared.Limits.{Limits}
use Rattle.phase_times.specs.declared.constants.Constants.{Constants}
use Rattle.position_third_step1.specs.TimeAllVel.{time_all_vel}
use Rattle.position_third_step1.specs.TimeAcc0Acc1.{time_acc0_acc1}
use Rattle.position_third_step1.specs.TimeAllNoneAcc0Acc1.{time_all_none_acc0_acc1}
use Rattle.position_third_step1.specs.TwoStep.{time_acc1_vel_two_step, time_acc0_two_step, time_vel_two_step}
use Rattle.position_third_step1.specs.TwoStep.{time_none_two_step}
use Rattle.search.specs.Choices.{towards_target}
use Rattle.get_profile.specs.Families.{Search, each_of, first_of}
use Rattle.get_profile.specs.Calls.{FamilyName, all_vel, none_acc0_acc1, acc0_acc1, none_two_step, acc0_two_step}
use Rattle.get_profile.specs.Calls.{vel_two_step, acc1_vel_two_step}
use Rattle.get_profile.specs.Calls.{Way, given, swapped, Call, itself_order, resting_order, moving_order}
use Rattle.get_profile.specs.Calls.{two_step_order}
use Rattle.get_profile.specs.GetProfile.{resting, moving, two_step, first_search}

-- ---- in document 01's words

-- families in one direction; each family in both
abbrev one_way : Way → List FamilyName → List Call
one_way w names = map (λ (n : FamilyName). (n, w)) names

abbrev both_ways : List FamilyName → List Call
both_ways [] = []
both_ways (n ∷ ns) = (n, given) ∷ (n, swapped) ∷ both_ways ns

-- a resting target: in the direction of pf - p0 first
pub resting_order_law : let families = all_vel ∷ none_acc0_acc1 ∷ acc0_acc1 ∷ [] in resting_order
    ≡ one_way given families ++ one_way swapped families
resting_order_law = refl

-- a rest that is its own target: only time_all_none_acc0_acc1, once
pub itself_order_law : itself_order ≡ one_way given (none_acc0_acc1 ∷ [])
itself_order_law = refl

-- else all families, both directions
pub moving_order_law : moving_order ≡ both_ways (none_acc0_acc1 ∷ acc0_acc1 ∷ all_vel ∷ [])
moving_order_law = refl

-- the two-step families none, acc0, vel, acc1_vel, each in both directions
pub two_step_order_law : two_step_order ≡ both_ways (none_two_step ∷ acc0_two_step ∷ vel_two_step ∷ acc1_vel_two_step ∷ [])
two_step_order_law = refl

-- ---- call by call. s are the limits m swapped
module _ (start : Start) (target : Target) (k : Constants) where
  -- up to the first success
  abbrev pub resting_calls : (m s : Limits) → Search
  resting_calls m s =
      first_of
      ((λ c. time_all_vel c start target k m)
      ∷ (λ c. time_all_none_acc0_acc1 c start target k m true)
      ∷ (λ c. time_acc0_acc1 c start target k m true)
      ∷ (λ c. time_all_vel c start target k s)
      ∷ (λ c. time_all_none_acc0_acc1 c start target k s true)
      ∷ (λ c. time_acc0_acc1 c start target k s true)
      ∷ [])

  -- all of them
  abbrev pub moving_calls : (m s : Limits) → Search
  moving_calls m s =
      each_of
      ((λ c. time_all_none_acc0_acc1 c start target k m false)
      ∷ (λ c. time_all_none_acc0_acc1 c start target k s false)
      ∷ (λ c. time_acc0_acc1 c start target k m false)
      ∷ (λ c. time_acc0_acc1 c start target k s false)
      ∷ (λ c. time_all_vel c start target k m)
      ∷ (λ c. time_all_vel c start target k s)
      ∷ [])

  -- up to the first success
  abbrev pub two_step_calls : (m s : Limits) → Search
  two_step_calls m s =
      first_of
      ((λ c. time_none_two_step c start target k m)
      ∷ (λ c. time_none_two_step c start target k s)
      ∷ (λ c. time_acc0_two_step c start target k m)
      ∷ (λ c. time_acc0_two_step c start target k s)
      ∷ (λ c. time_vel_two_step c start target k m)
      ∷ (λ c. time_vel_two_step c start target k s)
      ∷ (λ c. time_acc1_vel_two_step c start target k m)
      ∷ (λ c. time_acc1_vel_two_step c start target k s)
      ∷ [])

  module _ (m : Limits) where
    pub itself_calls : first_search start target k true true m
        ≡ first_of ((λ c. time_all_none_acc0_acc1 c start target k (towards_target k m) true) ∷ [])
    unfolding first_search
    itself_calls = refl

    pub resting_calls_law : resting start target k m ≡ resting_calls m (swapped_limits m)
    unfolding resting
    resting_calls_law = refl

    pub moving_calls_law : moving start target k m ≡ moving_calls m (swapped_limits m)
    unfolding moving
    moving_calls_law = refl

    pub two_step_calls_law : two_step start target k m ≡ two_step_calls m (swapped_limits m)
    unfolding two_step
    two_step_calls_law = refl
