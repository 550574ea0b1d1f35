-- The try ACC0 of time_all_none_acc0_acc1: its polynomial, the correction of a root, and the phase times. Definitions
-- only.
use Rattle.std.specs.Prelude.{cond, List, [], ◌∷◌, Float}
use Rattle.doubles.specs.Operators.{◌+ᶠ◌, ◌-ᶠ◌, ◌*ᶠ◌, ◌/ᶠ◌, -ᶠ◌, ◌<ᶠ◌}
use Rattle.doubles.specs.Constants.{0ᶠ, 2ᶠ, 3ᶠ, 6ᶠ, 8ᶠ, 12ᶠ, 24ᶠ, eps}
use Rattle.profile.specs.declared.Start.{Start}
use Rattle.profile.specs.declared.Target.{Target}
use Rattle.profile.specs.declared.Limits.{Limits}
use Rattle.phase_times.specs.declared.constants.Constants.{Constants}
use Rattle.phase_times_quartic.specs.declared.quartic.Quartic.{Quartic}
use Rattle.phase_times_quartic.specs.declared.root_range.RootRange.{RootRange}

module _ (start : Start) (target : Target) (k : Constants) (m : Limits) where
  open start use {v0, a0}
  open target use {vf, af}
  open k use {pd, v0_v0 as v0-v0, vf_vf as vf-vf}
  open k use {a0_a0 as a0-a0, a0_p3 as a0-p3, a0_p4 as a0-p4, af_af as af-af, af_p3 as af-p3, af_p4 as af-p4}
  open m use {a_max as a-max, j_max as j-max}

  unfoldable pub h0_acc0 : Float
  h0_acc0 =
      3ᶠ *ᶠ (af-p4 -ᶠ a0-p4)
      +ᶠ 8ᶠ *ᶠ (a0-p3 -ᶠ af-p3) *ᶠ a-max
      +ᶠ 24ᶠ *ᶠ a-max *ᶠ j-max *ᶠ (af *ᶠ vf -ᶠ a0 *ᶠ v0)
      -ᶠ 6ᶠ *ᶠ a0-a0 *ᶠ (a-max *ᶠ a-max -ᶠ 2ᶠ *ᶠ j-max *ᶠ v0)
      +ᶠ 6ᶠ *ᶠ af-af *ᶠ (a-max *ᶠ a-max -ᶠ 2ᶠ *ᶠ j-max *ᶠ vf)
      +ᶠ 12ᶠ *ᶠ j-max *ᶠ (j-max *ᶠ (vf-vf -ᶠ v0-v0 -ᶠ 2ᶠ *ᶠ a-max *ᶠ pd) -ᶠ a-max *ᶠ a-max *ᶠ (vf -ᶠ v0))

  unfoldable pub h3_acc0 : Float
  h3_acc0 = (a0-a0 -ᶠ af-af) /ᶠ (2ᶠ *ᶠ a-max *ᶠ j-max) +ᶠ (vf -ᶠ v0) /ᶠ a-max

module _ (target : Target) (k : Constants) (m : Limits) where
  open target use {vf}
  open k use {af_af as af-af}
  open m use {a_max as a-max, j_max as j-max}

  unfoldable pub h2_acc0 : Float
  h2_acc0 = -ᶠ af-af +ᶠ a-max *ᶠ a-max +ᶠ 2ᶠ *ᶠ j-max *ᶠ vf

module _ (target : Target) (m : Limits) where
  open target use {af}
  open m use {a_max as a-max, a_min as a-min, j_max as j-max}

  unfoldable pub range_acc0 : RootRange
  range_acc0 = record { t_min = (a-max -ᶠ af) /ᶠ j-max; t_max = (a-max -ᶠ a-min) /ᶠ j-max }

module _ (k : Constants) (m : Limits) where
  open m use {a_max as a-max, j_max as j-max}

  unfoldable pub polynom_acc0 : Float → Float → Quartic
  polynom_acc0 h0-acc0 h2-acc0 =
      let j-max-j-max = j-max *ᶠ j-max in
      let c0 = -ᶠ 2ᶠ *ᶠ a-max /ᶠ j-max in
      let c1 = h2-acc0 /ᶠ j-max-j-max in
      let c3 = h0-acc0 /ᶠ (12ᶠ *ᶠ k.j_max_j_max *ᶠ k.j_max_j_max) in
      record { c0 = c0; c1 = c1; c2 = 0ᶠ; c3 = c3 }

  -- a single Newton step (regarding pd)
  unfoldable pub newton_acc0 : Float → Float → Float → Float
  newton_acc0 h0-acc0 h2-acc0 t =
      let h1 = j-max *ᶠ t in
      let orig = h0-acc0 /ᶠ (12ᶠ *ᶠ k.j_max_j_max *ᶠ t) +ᶠ t *ᶠ (h2-acc0 +ᶠ h1 *ᶠ (h1 -ᶠ 2ᶠ *ᶠ a-max)) in
      let deriv = 2ᶠ *ᶠ (h2-acc0 +ᶠ h1 *ᶠ (2ᶠ *ᶠ h1 -ᶠ 3ᶠ *ᶠ a-max)) in
      let delta-t = orig /ᶠ deriv in
      t -ᶠ delta-t

  -- a root above EPSILON is corrected once
  unfoldable pub corrected_acc0 : Float → Float → Float → Float
  corrected_acc0 h0-acc0 h2-acc0 t = cond (eps <ᶠ t) (newton_acc0 h0-acc0 h2-acc0 t) t

module _ (start : Start) (target : Target) (m : Limits) where
  open start use {a0}
  open target use {af}
  open m use {a_max as a-max, j_max as j-max}

  unfoldable pub times_acc0 : Float → Float → List Float
  times_acc0 h3-acc0 t =
      let t0 = (-ᶠ a0 +ᶠ a-max) /ᶠ j-max in
      let t1 = h3-acc0 -ᶠ 2ᶠ *ᶠ t +ᶠ (j-max /ᶠ a-max) *ᶠ t *ᶠ t in
      let t6 = (af -ᶠ a-max) /ᶠ j-max +ᶠ t in
      t0 ∷ t1 ∷ t ∷ 0ᶠ ∷ 0ᶠ ∷ 0ᶠ ∷ t6 ∷ []
