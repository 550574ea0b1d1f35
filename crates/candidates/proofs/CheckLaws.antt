-- A try and the check's definition. Assumes nothing.
use mathlib.Core.Path.{◌≡◌, refl, ap, ◌∙◌}
use mathlib.Core.Bool.{Bool, true, false}
use mathlib.Core.List.{List}
use lib.Ieee.{Float}
use Rattle.profile.specs.Boundary.{start_of, target_of, with_boundary, empty_profile}
use Rattle.profile_rows.specs.Rows.{rows_of}
use Rattle.profile_check.specs.Check.{accepted, filled, checked}
use Rattle.profile.specs.declared.Profile.{Profile}
use Rattle.profile.specs.declared.Limits.{Limits}
use Rattle.profile.specs.declared.ReachedLimits.{ReachedLimits}
use Rattle.profile.specs.declared.ControlSigns.{ControlSigns}
use Rattle.profile.specs.declared.ControlSigns.TheVariants.{UDDU}
use Rattle.candidates.specs.Try.{passes, profile_of}
use Rattle.candidates.specs.declared.Try.{Try}

-- the check fills in everything but the boundary
pub filled_boundary : (q r : Profile) (t : List Float) (signs : ControlSigns) (reached : ReachedLimits) (set-limits : Bool) (jf : Float) (m : Limits)
    → start_of q ≡ start_of r → target_of q ≡ target_of r → q.brake ≡ r.brake → q.accel ≡ r.accel → filled q t signs reached set-limits jf m ≡ filled r t signs reached set-limits jf m
unfolding filled
filled_boundary q r t signs reached set-limits jf m e f b a =
    let pf : q.pf ≡ r.pf = ap (λ z. z.pf) f in
    let vf : q.vf ≡ r.vf = ap (λ z. z.vf) f in
    let af : q.af ≡ r.af = ap (λ z. z.af) f in
    rw (e, pf, vf, af, b, a)

-- g has the try's boundary and times
module _ (x : Try) (g : Profile) (es : start_of g ≡ x.start) (et : target_of g ≡ x.target) (e : g.t ≡ x.t) where
  accepted_is : accepted (start_of g) (target_of g) g.t UDDU x.reached false x.jf x.limits ≡ passes x
  unfolding passes
  accepted_is = rw (es, et, e)

  filled_is : filled g g.t UDDU x.reached false x.jf x.limits ≡ profile_of g.brake g.accel x
  unfolding profile_of with_boundary empty_profile
  filled_is =
      let boundary = with_boundary empty_profile x.start x.target g.brake g.accel in
      filled_boundary g boundary g.t UDDU x.reached false x.jf x.limits es et refl refl
      ∙ ap (λ (t : List Float). filled boundary t UDDU x.reached false x.jf x.limits) e

  -- where the try passes, the check says yes and gives the try's profile
  pub checked_yes : passes x ≡ true
      → checked g UDDU x.reached false x.jf x.limits ≡ record { ok = true; profile = profile_of g.brake g.accel x }
  unfolding checked
  checked_yes h = rw (accepted_is, h, filled_is)

  -- and else no, and gives what it was given
  pub checked_no : passes x ≡ false
      → checked g UDDU x.reached false x.jf x.limits ≡ record { ok = false; profile = g }
  unfolding checked
  checked_no h = rw (accepted_is, h)

module _ (brake accel : Float) (x : Try) where
  -- the boundary of the try's profile
  pub start_of_law : start_of (profile_of brake accel x) ≡ x.start
  unfolding profile_of filled with_boundary empty_profile rows_of
  start_of_law = refl

  pub target_of_law : target_of (profile_of brake accel x) ≡ x.target
  unfolding profile_of filled with_boundary
  target_of_law = refl

  pub brake_of : (profile_of brake accel x).brake ≡ brake
  unfolding profile_of filled with_boundary
  brake_of = refl

  pub accel_of : (profile_of brake accel x).accel ≡ accel
  unfolding profile_of filled with_boundary
  accel_of = refl

  -- and the check makes the same profile of it again
  pub checked_again : passes x ≡ true
      → checked (profile_of brake accel x) UDDU (profile_of brake accel x).limits false x.jf x.limits ≡ record { ok = true; profile = profile_of brake accel x }
  unfolding profile_of filled with_boundary
  checked_again h = checked_yes x (profile_of brake accel x) start_of_law target_of_law refl h
