-- The calls of a search: which families are tried, with which limits, in which order. Definitions only.
use Rattle.std.specs.Prelude.{Bool, true, List, [], ◌∷◌, ◌++◌, map}
use Rattle.profile.specs.Limits.{swapped_limits}
use Rattle.profile.specs.declared.Start.{Start}
use Rattle.profile.specs.declared.Target.{Target}
use Rattle.profile.specs.declared.Limits.{Limits}
use Rattle.phase_times.specs.declared.constants.Constants.{Constants}
use Rattle.candidates.specs.declared.Try.{Try}
use Rattle.position_third_step1.specs.CheckTree.{tries}
use Rattle.position_third_step1.specs.TimeAllVel.{all_vel_tries}
use Rattle.position_third_step1.specs.TimeAcc0Acc1.{acc0_acc1_tries}
use Rattle.position_third_step1.specs.TimeAllNoneAcc0Acc1.{none_acc0_acc1_tries}
use Rattle.position_third_step1.specs.TwoStep.{acc1_vel_two_step_tries, acc0_two_step_tries, vel_two_step_tries}
use Rattle.position_third_step1.specs.TwoStep.{none_two_step_tries}
use Rattle.get_profile.specs.Families.{Search}

-- the families by the Rust's names
pub data FamilyName : Type 0 where
  all_vel none_acc0_acc1 acc0_acc1 none_two_step acc0_two_step vel_two_step acc1_vel_two_step : FamilyName

-- with the limits that the search is given, or with those for the opposite direction
pub data Way : Type 0 where
  given swapped : Way

abbrev pub limits_of : Way → Limits → Limits
limits_of given m = m
limits_of swapped m = swapped_limits m

abbrev pub Call : Type 0
Call = FamilyName × Way

-- ---- the orders, call by call as in the Rust

-- a rest that is its own target
abbrev pub itself_order : List Call
itself_order = (none_acc0_acc1, given) ∷ []

-- any other resting target
abbrev pub resting_order : List Call
resting_order =
    (all_vel, given)
    ∷ (none_acc0_acc1, given)
    ∷ (acc0_acc1, given)
    ∷ (all_vel, swapped)
    ∷ (none_acc0_acc1, swapped)
    ∷ (acc0_acc1, swapped)
    ∷ []

-- any other target
abbrev pub moving_order : List Call
moving_order =
    (none_acc0_acc1, given)
    ∷ (none_acc0_acc1, swapped)
    ∷ (acc0_acc1, given)
    ∷ (acc0_acc1, swapped)
    ∷ (all_vel, given)
    ∷ (all_vel, swapped)
    ∷ []

-- with none found
abbrev pub two_step_order : List Call
two_step_order =
    (none_two_step, given)
    ∷ (none_two_step, swapped)
    ∷ (acc0_two_step, given)
    ∷ (acc0_two_step, swapped)
    ∷ (vel_two_step, given)
    ∷ (vel_two_step, swapped)
    ∷ (acc1_vel_two_step, given)
    ∷ (acc1_vel_two_step, swapped)
    ∷ []

-- ---- what a call tries

-- whether it stops at its first success: `time_all_vel` and the two-step families always do
abbrev pub stops_of : (return-after-found : Bool) → FamilyName → Bool
stops_of return-after-found all_vel = true
stops_of return-after-found none_acc0_acc1 = return-after-found
stops_of return-after-found acc0_acc1 = return-after-found
stops_of return-after-found none_two_step = true
stops_of return-after-found acc0_two_step = true
stops_of return-after-found vel_two_step = true
stops_of return-after-found acc1_vel_two_step = true

module _ (start : Start) (target : Target) (k : Constants) where
  abbrev pub call_tries_of : FamilyName → Limits → List Try
  call_tries_of all_vel m = all_vel_tries start target k m
  call_tries_of none_acc0_acc1 m = none_acc0_acc1_tries start target k m
  call_tries_of acc0_acc1 m = acc0_acc1_tries start target k m
  call_tries_of none_two_step m = none_two_step_tries start target k m
  call_tries_of acc0_two_step m = acc0_two_step_tries start target k m
  call_tries_of vel_two_step m = vel_two_step_tries start target k m
  call_tries_of acc1_vel_two_step m = acc1_vel_two_step_tries start target k m

  abbrev pub call_of : (return-after-found : Bool) → Limits → Call → Search
  call_of return-after-found m x =
      λ c. tries (stops_of return-after-found x.0) c (call_tries_of x.0 (limits_of x.1 m))

  abbrev pub calls_of : (return-after-found : Bool) → Limits → List Call → List Search
  calls_of return-after-found m order = map (call_of return-after-found m) order

  -- the tries of all calls
  unfoldable pub call_tries : Limits → List Call → List Try
  call_tries m [] = []
  call_tries m (s ∷ ss) = call_tries_of s.0 (limits_of s.1 m) ++ call_tries m ss
