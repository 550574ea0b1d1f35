-- The answer to a move: document 01's refusals 1, 2 and 3 in the order of its table, then `get_profile` on a fresh
-- planner and a fresh block. Definitions only.
use Rattle.std.specs.Prelude.{◌≡◌, Bool, true, false, not, cond, ◌&&◌, ◌||◌, ◌⊎◌, Err}
use Rattle.std.specs.Float.Ieee.Scale.{finite}
use Rattle.doubles.specs.Operators.{◌<ᶠ◌}
use Rattle.doubles.specs.Constants.{0ᶠ}
use Rattle.profile.specs.Tolerances.{t_max}
use Rattle.profile.specs.Boundary.{empty_profile, with_boundary}
use Rattle.profile.specs.declared.Profile.{Profile}
use Rattle.profile.specs.declared.Start.{Start}
use Rattle.profile.specs.declared.Target.{Target}
use Rattle.profile.specs.declared.Limits.{Limits}
use Rattle.refusals.specs.declared.Refusal.TheVariants.{NotFinite, WrongSign, WrongDuration}
use Rattle.refusals.specs.Numbers.{number_of}
use Rattle.block.specs.Blocks.{Answer}
use Rattle.get_profile.specs.GetProfile.{get_profile_answer}
use Rattle.planner.specs.declared.Move.{Move}

-- ---- the 13 numbers are neither NaN nor infinite
unfoldable pub finite_start : Start → Bool
finite_start s = finite s.p0 && finite s.v0 && finite s.a0

unfoldable pub finite_target : Target → Bool
finite_target g = finite g.pf && finite g.vf && finite g.af

unfoldable pub finite_limits : Limits → Bool
finite_limits m =
    finite m.v_max && finite m.v_min && finite m.a_max && finite m.a_min && finite m.j_max

unfoldable pub finite_move : Move → Bool
finite_move x =
    finite_start x.start
    && finite_target x.target
    && finite_limits x.limits
    && finite x.brake
    && finite x.accel

-- v_max, a_max or j_max < 0, or v_min or a_min > 0
unfoldable pub wrong_sign : Limits → Bool
wrong_sign m = (m.v_max <ᶠ 0ᶠ) || (m.a_max <ᶠ 0ᶠ) || (m.j_max <ᶠ 0ᶠ) || (0ᶠ <ᶠ m.v_min) || (0ᶠ <ᶠ m.a_min)

-- brake or accel duration < 0 or > 1e12
unfoldable pub wrong_duration : Move → Bool
wrong_duration x = (x.brake <ᶠ 0ᶠ) || (t_max <ᶠ x.brake) || (x.accel <ᶠ 0ᶠ) || (t_max <ᶠ x.accel)

-- ---- the answer

-- the input profile: the start, the target and the durations of the move
abbrev pub input_of : Move → Profile
input_of x = with_boundary empty_profile x.start x.target x.brake x.accel

unfoldable pub answer_of : Move → Answer
answer_of x =
    cond (not (finite_move x)) (Err NotFinite)
    (cond (wrong_sign x.limits) (Err WrongSign)
    (cond (wrong_duration x) (Err WrongDuration)
    (get_profile_answer (input_of x) x.limits)))

-- ---- what is said of refusals

-- none of refusals 1, 2 and 3 applies
pub record Admitted (x : Move) : Type 0 where
  pub finite : finite_move x ≡ true
  pub signs : wrong_sign x.limits ≡ false
  pub durations : wrong_duration x ≡ false

-- the families were tried: a plan, or refusal 4 or 5
abbrev pub Tried : Answer → Type 0
Tried r = (number_of r ≡ 0) ⊎ ((number_of r ≡ 4) ⊎ (number_of r ≡ 5))
