-- A profile for worked examples of selection: empty but for its total. Definitions only.
use Rattle.std.specs.Prelude.{[], ◌∷◌, Float}
use Rattle.doubles.specs.Constants.{0ᶠ}
use Rattle.profile.specs.Boundary.{empty_profile}
use Rattle.profile.specs.With.{with_sums}
use Rattle.profile.specs.declared.Profile.{Profile}

abbrev pub taking : Float → Profile
taking t = with_sums empty_profile (0ᶠ ∷ 0ᶠ ∷ 0ᶠ ∷ 0ᶠ ∷ 0ᶠ ∷ 0ᶠ ∷ t ∷ [])
