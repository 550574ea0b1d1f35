-- Profiles for the worked examples, from their numbers. Definitions only.
use Prim.Native.Nat.{ℕ}
use mathlib.Core.List.{List}
use lib.ListN.{replicate}
use lib.Ieee.{Float, neg}
use Rattle.doubles.specs.Constants.{0ᶠ, 1ᶠ}
use Rattle.profile.specs.Boundary.{start_of, boundary_set, empty_profile}
use Rattle.profile.specs.With.{with_phases, with_rows, with_names}
use Rattle.profile.specs.declared.Profile.{Profile}
use Rattle.profile.specs.declared.Target.{Target}
use Rattle.profile.specs.declared.Direction.TheVariants.{UP}
use Rattle.profile.specs.declared.ControlSigns.TheVariants.{UDDU}
use Rattle.profile.specs.declared.ReachedLimits.{ReachedLimits}
use Rattle.profile.specs.declared.ReachedLimits.TheVariants.{None}

abbrev pub -1ᶠ : Float
-1ᶠ = neg 1ᶠ

abbrev pub zeros : ℕ → List Float
zeros k = replicate k 0ᶠ

unfoldable pub of_numbers : ReachedLimits → Target → (t sums j a v p : List Float) → Profile
of_numbers reached target t sums j a v p =
    let bounded = boundary_set (with_phases empty_profile t sums j) (start_of empty_profile) target in
    with_rows (with_names bounded reached UP UDDU) a v p

-- from rest at 0, as it is put to the check
unfoldable pub from_rest : List Float → Target → Profile
unfolding of_numbers
from_rest t target = of_numbers None target t (zeros 7) (zeros 7) (zeros 8) (zeros 8) (zeros 8)
