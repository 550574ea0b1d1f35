-- Phase times of the two tries of time_none_two_step. Definitions only.
use Rattle.std.specs.Prelude.{List, [], ◌∷◌, Float}
use Rattle.doubles.specs.Operators.{◌+ᶠ◌, ◌-ᶠ◌, ◌*ᶠ◌, ◌/ᶠ◌}
use Rattle.doubles.specs.Constants.{0ᶠ, 2ᶠ}
use Rattle.profile.specs.declared.Start.{Start}
use Rattle.profile.specs.declared.Target.{Target}
use Rattle.profile.specs.declared.Limits.{Limits}
use Rattle.phase_times.specs.declared.constants.Constants.{Constants}

module _ (start : Start) (target : Target) (k : Constants) (m : Limits) where
  open start use {v0}
  open target use {vf}
  open k use {a0_a0 as a0-a0, af_af as af-af}
  open m use {j_max as j-max}

  -- h0 is the square root of it, scaled
  unfoldable pub none_two_step_radicand : Float
  none_two_step_radicand = (a0-a0 +ᶠ af-af) /ᶠ 2ᶠ +ᶠ j-max *ᶠ (vf -ᶠ v0)

module _ (start : Start) (target : Target) (m : Limits) where
  open start use {a0}
  open target use {af}
  open m use {j_max as j-max}

  -- two step
  unfoldable pub times_none_two_step : Float → List Float
  times_none_two_step h0 =
      let t0 = (h0 -ᶠ a0) /ᶠ j-max in
      let t2 = (h0 -ᶠ af) /ᶠ j-max in
      t0 ∷ 0ᶠ ∷ t2 ∷ 0ᶠ ∷ 0ᶠ ∷ 0ᶠ ∷ 0ᶠ ∷ []

  -- single step
  unfoldable pub times_none_single_step : List Float
  times_none_single_step =
      let t0 = (af -ᶠ a0) /ᶠ j-max in
      t0 ∷ 0ᶠ ∷ 0ᶠ ∷ 0ᶠ ∷ 0ᶠ ∷ 0ᶠ ∷ 0ᶠ ∷ []
