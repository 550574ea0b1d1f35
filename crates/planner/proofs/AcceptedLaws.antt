-- A profile that the check accepted from a move's start to its target: its boundary is the move's, and its replay ends
-- at the target. Assumes nothing.
use mathlib.Core.Path.{◌≡◌, refl, ap, ◌∙◌, subst}
use mathlib.Core.Bool.{true, false}
use lib.Ieee.{Float}
use Rattle.doubles.specs.Operators.{at}
use Rattle.profile.specs.Boundary.{start_of, target_of, empty_profile, with_boundary}
use Rattle.profile.specs.declared.Profile.{Profile}
use Rattle.profile.specs.declared.Start.{Start}
use Rattle.profile.specs.declared.Target.{Target}
use Rattle.profile.specs.declared.ControlSigns.TheVariants.{UDDU}
use Rattle.profile_check.specs.Accepted.{Accepted}
use Rattle.profile_check.proofs.Accepted.{accepts_tells}
use Rattle.candidates.specs.Try.{passes, profile_of}
use Rattle.candidates.specs.declared.Try.{Try}
use Rattle.candidates.proofs.CheckLaws.{start_of_law, target_of_law, brake_of, accel_of, checked_again}
use Rattle.replay.specs.Replay.{stored_rows}
use Rattle.replay.specs.Promise.{EndsAt}
use Rattle.replay.proofs.CheckedReplay.{ProfileFits, none_stored, accepted_ends_at}
use Rattle.get_profile.specs.Answered.{AcceptedFor}
use Rattle.planner.specs.Answers.{input_of}
use Rattle.planner.specs.Promise.{Arrives, OfMove, CheckedFor}
use Rattle.planner.specs.declared.Move.{Move}

-- the numbers of a profile are doubles
abbrev pub OfDoubles : Profile → Type 0
OfDoubles q = ProfileFits q (λ i. at q.j i)

-- ---- the input's boundary is the move's
module _ (x : Move) where
  input_start : start_of (input_of x) ≡ x.start
  unfolding with_boundary empty_profile
  input_start = refl

  input_target : target_of (input_of x) ≡ x.target
  unfolding with_boundary
  input_target = refl

  input_brake : (input_of x).brake ≡ x.brake
  unfolding with_boundary
  input_brake = refl

  input_accel : (input_of x).accel ≡ x.accel
  unfolding with_boundary
  input_accel = refl

-- ---- a try that passes
pub passed_tells : (brake accel : Float) (y : Try) → passes y ≡ true
    → Accepted (profile_of brake accel y) false y.jf y.limits
unfolding passes profile_of with_boundary empty_profile
passed_tells brake accel y h =
    accepts_tells (with_boundary empty_profile y.start y.target brake accel) y.t UDDU y.reached false y.jf
    y.limits (rw h tt)

module _ (x : Move) (q : Profile) (h : AcceptedFor (input_of x) x.limits q) where
  pub accepted_tells : Accepted q false h.x.jf h.x.limits
  accepted_tells = rw h.profile_is (passed_tells (input_of x).brake (input_of x).accel h.x h.passed)

  pub of_move : OfMove x q
  of_move =
      record {
        start_is = ap start_of h.profile_is ∙ start_of_law _ _ h.x ∙ h.is_of.start_is ∙ input_start x;
        target_is = ap target_of h.profile_is ∙ target_of_law _ _ h.x ∙ h.is_of.target_is ∙ input_target x;
        brake_is = ap (λ (r : Profile). r.brake) h.profile_is ∙ brake_of _ _ h.x ∙ input_brake x;
        accel_is = ap (λ (r : Profile). r.accel) h.profile_is ∙ accel_of _ _ h.x ∙ input_accel x;
      }

  pub checked_for : CheckedFor x q
  checked_for =
      record {
        limits = h.x.limits;
        jf = h.x.jf;
        limits_are = h.is_of.limits_are;
        jerk_is = h.is_of.jerk_is;
        checked_is = rw h.profile_is (checked_again (input_of x).brake (input_of x).accel h.x h.passed);
      }

  pub arrives : OfDoubles q → Arrives x q
  arrives d =
      subst (λ (s : Start). EndsAt s x.target x.limits.j_max q (stored_rows false q.limits))
      of_move.start_is
      (subst (λ (g : Target). EndsAt (start_of q) g x.limits.j_max q (stored_rows false q.limits))
      of_move.target_is
      (accepted_ends_at q false h.x.jf h.x.limits d (none_stored q.limits) accepted_tells
      x.limits.j_max))
