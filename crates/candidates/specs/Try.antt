-- A try: what the check says of it, and the profile that it makes of it. Definitions only.
use Rattle.std.specs.Prelude.{Bool, false, Float}
use Rattle.profile.specs.Boundary.{with_boundary, empty_profile}
use Rattle.profile_check.specs.Check.{accepted, filled}
use Rattle.profile.specs.declared.Profile.{Profile}
use Rattle.profile.specs.declared.ControlSigns.TheVariants.{UDDU}
use Rattle.candidates.specs.declared.Try.{Try}

-- whether the check accepts it. Every check of step 1 has UDDU and stores no limit
unfoldable pub passes : Try → Bool
passes x = accepted x.start x.target x.t UDDU x.reached false x.jf x.limits

-- the profile that the check makes of it, with these durations
unfoldable pub profile_of : (brake accel : Float) → Try → Profile
profile_of brake accel x =
    let boundary = with_boundary empty_profile x.start x.target brake accel in
    filled boundary x.t UDDU x.reached false x.jf x.limits
