-- What is promised of every accepted move: demand 3, and what its duration and its boundary are. Definitions only.
use Rattle.std.specs.Prelude.{◌≡◌, true, false, T, Float}
use Rattle.doubles.specs.Operators.{◌≤ᶠ◌}
use Rattle.doubles.specs.Constants.{0ᶠ}
use Rattle.doubles.specs.Value.{Finite}
use Rattle.profile.specs.Boundary.{start_of, target_of}
use Rattle.profile.specs.declared.Profile.{Profile}
use Rattle.profile.specs.declared.Limits.{Limits}
use Rattle.profile.specs.declared.ControlSigns.TheVariants.{UDDU}
use Rattle.profile_check.specs.Check.{checked}
use Rattle.block.specs.Plans.{Each}
use Rattle.refusals.specs.Numbers.{number_of}
use Rattle.block.specs.Blocks.{Answer, plan_in}
use Rattle.replay.specs.Replay.{stored_rows}
use Rattle.replay.specs.Promise.{EndsAt}
use Rattle.get_profile.specs.GetProfile.{EitherWay, JerkOf}
use Rattle.planner.specs.declared.Move.{Move}

-- replayed in exact fractions from the move's start, with the move's j_max, the profile ends at the move's target: at
-- most the tolerance plus the profile's own
-- allowance away. Every check of a plan is made with `set_limits` false, so no row's acceleration was stored
abbrev pub Arrives : Move → Profile → Type 0
Arrives x q = EndsAt x.start x.target x.limits.j_max q (stored_rows false q.limits)

-- where a move is accepted, its plan's profile arrives, and so does the far profile beside each stretch between two
-- times
abbrev pub Promise : Move → Answer → Type 0
Promise x r = number_of r ≡ 0 → Each (Arrives x) (plan_in r)

-- ---- what else users rely on

-- the plan's duration is finite and at least 0, which -0 is too
abbrev pub FiniteDuration : Answer → Type 0
FiniteDuration r = number_of r ≡ 0 → Finite (plan_in r).t_min × T (0ᶠ ≤ᶠ (plan_in r).t_min)

-- the profile has the move's start and target, and its durations
pub record OfMove (x : Move) (q : Profile) : Type 0 where
  pub start_is : start_of q ≡ x.start
  pub target_is : target_of q ≡ x.target
  pub brake_is : q.brake ≡ x.brake
  pub accel_is : q.accel ≡ x.accel

-- the check makes the profile of its own boundary and times: with the move's limits, as they are or for the opposite
-- direction, and at their jerk,
-- or on the single-step path at jerk 0
pub record CheckedFor (x : Move) (q : Profile) : Type 0 where
  pub limits : Limits
  pub jf : Float
  pub limits_are : EitherWay x.limits limits
  pub jerk_is : JerkOf x.limits limits jf
  pub checked_is : checked q UDDU q.limits false jf limits ≡ record { ok = true; profile = q }
