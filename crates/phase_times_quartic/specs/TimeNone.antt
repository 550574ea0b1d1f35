-- The try NONE of time_all_none_acc0_acc1: its polynomial, the correction of a root, and the phase times. Definitions
-- only.
use Rattle.std.specs.Prelude.{cond, List, [], ◌∷◌, Float}
use Rattle.doubles.specs.Operators.{◌+ᶠ◌, ◌-ᶠ◌, ◌*ᶠ◌, ◌/ᶠ◌, -ᶠ◌, ◌<ᶠ◌}
use Rattle.doubles.specs.Constants.{0ᶠ, 2ᶠ, 3ᶠ, 4ᶠ, 6ᶠ, 8ᶠ, 12ᶠ, eps}
use Rattle.profile.specs.declared.Start.{Start}
use Rattle.profile.specs.declared.Target.{Target}
use Rattle.profile.specs.declared.Limits.{Limits}
use Rattle.phase_times.specs.declared.constants.Constants.{Constants}
use Rattle.phase_times_quartic.specs.declared.quartic.Quartic.{Quartic}
use Rattle.phase_times_quartic.specs.declared.root_range.RootRange.{RootRange}

module _ (start : Start) (target : Target) (k : Constants) (m : Limits) where
  open start use {v0, a0}
  open target use {vf, af}
  open k use {pd, a0_a0 as a0-a0, a0_p3 as a0-p3, af_af as af-af, af_p3 as af-p3}
  open m use {j_max as j-max}

  unfoldable pub h2_none : Float
  h2_none = (a0-a0 -ᶠ af-af) /ᶠ (2ᶠ *ᶠ j-max) +ᶠ (vf -ᶠ v0)

  unfoldable pub polynom_none : Float → Quartic
  polynom_none h2-none =
      let j-max-j-max = j-max *ᶠ j-max in
      let h2-h2 = h2-none *ᶠ h2-none in
      let c1 = -ᶠ 2ᶠ *ᶠ (a0-a0 +ᶠ af-af -ᶠ 2ᶠ *ᶠ j-max *ᶠ (v0 +ᶠ vf)) /ᶠ j-max-j-max in
      let c2 = 4ᶠ *ᶠ (a0-p3 -ᶠ af-p3 +ᶠ 3ᶠ *ᶠ j-max *ᶠ (af *ᶠ vf -ᶠ a0 *ᶠ v0)) /ᶠ (3ᶠ *ᶠ j-max-j-max *ᶠ j-max)
      -ᶠ 4ᶠ *ᶠ pd /ᶠ j-max in
      let c3 = -ᶠ h2-h2 /ᶠ j-max-j-max in
      record { c0 = 0ᶠ; c1 = c1; c2 = c2; c3 = c3 }

  -- a single Newton step (regarding pd)
  unfoldable pub newton_none : Float → Float → Float
  newton_none h2-none t =
      let h2-h2 = h2-none *ᶠ h2-none in
      let h1 = j-max *ᶠ t *ᶠ t in
      let orig-numerator = 4ᶠ *ᶠ a0-p3
      +ᶠ 2ᶠ *ᶠ af-p3
      -ᶠ 6ᶠ *ᶠ a0-a0 *ᶠ (af +ᶠ 2ᶠ *ᶠ j-max *ᶠ t)
      +ᶠ 12ᶠ *ᶠ (af -ᶠ a0) *ᶠ j-max *ᶠ v0
      +ᶠ 3ᶠ *ᶠ k.j_max_j_max *ᶠ (-ᶠ 4ᶠ *ᶠ pd +ᶠ (h1 +ᶠ 8ᶠ *ᶠ v0) *ᶠ t) in
      let orig = -ᶠ h2-h2 /ᶠ (4ᶠ *ᶠ j-max *ᶠ t) +ᶠ h2-none *ᶠ (af /ᶠ j-max +ᶠ t) +ᶠ orig-numerator /ᶠ (12ᶠ *ᶠ k.j_max_j_max) in
      let deriv = h2-none +ᶠ 2ᶠ *ᶠ v0 -ᶠ a0-a0 /ᶠ j-max +ᶠ h2-h2 /ᶠ (4ᶠ *ᶠ h1) +ᶠ (3ᶠ *ᶠ h1) /ᶠ 4ᶠ in
      let delta-t = orig /ᶠ deriv in
      t -ᶠ delta-t

  -- a root above EPSILON is corrected once
  unfoldable pub corrected_none : Float → Float → Float
  corrected_none h2-none t = cond (eps <ᶠ t) (newton_none h2-none t) t

module _ (start : Start) (target : Target) (m : Limits) where
  open start use {a0}
  open target use {af}
  open m use {a_max as a-max, a_min as a-min, j_max as j-max}

  unfoldable pub range_none : RootRange
  range_none = record { t_min = (a0 -ᶠ af) /ᶠ j-max; t_max = (a-max -ᶠ a-min) /ᶠ j-max }

  unfoldable pub times_none : Float → Float → List Float
  times_none h2-none t =
      let h0 = h2-none /ᶠ (2ᶠ *ᶠ j-max *ᶠ t) in
      let t0 = h0 +ᶠ t /ᶠ 2ᶠ -ᶠ a0 /ᶠ j-max in
      let t6 = -ᶠ h0 +ᶠ t /ᶠ 2ᶠ +ᶠ af /ᶠ j-max in
      t0 ∷ 0ᶠ ∷ t ∷ 0ᶠ ∷ 0ᶠ ∷ 0ᶠ ∷ t6 ∷ []
