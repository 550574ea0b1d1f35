-- The try ACC1 of time_all_none_acc0_acc1: its polynomial, the correction of a root, and the phase times. Definitions
-- only.
use Rattle.std.specs.Prelude.{List, [], ◌∷◌, Float}
use Rattle.doubles.specs.Operators.{◌+ᶠ◌, ◌-ᶠ◌, ◌*ᶠ◌, ◌/ᶠ◌, -ᶠ◌}
use Rattle.doubles.specs.Constants.{0ᶠ, 2ᶠ, 3ᶠ, 4ᶠ, 5ᶠ, 6ᶠ}
use Rattle.profile.specs.declared.Start.{Start}
use Rattle.profile.specs.declared.Target.{Target}
use Rattle.profile.specs.declared.Limits.{Limits}
use Rattle.phase_times.specs.declared.constants.Constants.{Constants}
use Rattle.phase_times_quartic.specs.declared.quartic.Quartic.{Quartic}
use Rattle.phase_times_quartic.specs.declared.root_range.RootRange.{RootRange}

module _ (start : Start) (target : Target) (k : Constants) (m : Limits) where
  open start use {v0, a0}
  open target use {vf, af}
  open k use {pd, v0_v0 as v0-v0, vf_vf as vf-vf}
  open k use {a0_a0 as a0-a0, a0_p3 as a0-p3, a0_p4 as a0-p4, af_af as af-af, af_p3 as af-p3, af_p4 as af-p4}
  open m use {a_min as a-min, j_max as j-max}

  unfoldable pub h0_acc1 : Float
  h0_acc1 =
      let j-factor = af-af *ᶠ vf
      +ᶠ a0-a0 *ᶠ v0
      +ᶠ 2ᶠ *ᶠ a-min *ᶠ (j-max *ᶠ pd -ᶠ a0 *ᶠ v0 -ᶠ af *ᶠ vf)
      +ᶠ a-min *ᶠ a-min *ᶠ (v0 +ᶠ vf)
      +ᶠ j-max *ᶠ (v0-v0 -ᶠ vf-vf) in
      (a0-p4 -ᶠ af-p4) /ᶠ 4ᶠ
      +ᶠ 2ᶠ *ᶠ (af-p3 -ᶠ a0-p3) *ᶠ a-min /ᶠ 3ᶠ
      +ᶠ (a0-a0 -ᶠ af-af) *ᶠ a-min *ᶠ a-min /ᶠ 2ᶠ
      +ᶠ j-max *ᶠ j-factor

  unfoldable pub h3_acc1 : Float
  h3_acc1 = -ᶠ (a0-a0 +ᶠ af-af) /ᶠ (2ᶠ *ᶠ j-max *ᶠ a-min) +ᶠ a-min /ᶠ j-max +ᶠ (vf -ᶠ v0) /ᶠ a-min

module _ (start : Start) (k : Constants) (m : Limits) where
  open start use {v0, a0}
  open k use {a0_a0 as a0-a0}
  open m use {a_min as a-min, j_max as j-max}

  unfoldable pub h2_acc1 : Float
  h2_acc1 = a0-a0 -ᶠ a0 *ᶠ a-min +ᶠ 2ᶠ *ᶠ j-max *ᶠ v0

  unfoldable pub polynom_acc1 : Float → Float → Quartic
  polynom_acc1 h0-acc1 h2-acc1 =
      let j-max-j-max = j-max *ᶠ j-max in
      let c0 = 2ᶠ *ᶠ (2ᶠ *ᶠ a0 -ᶠ a-min) /ᶠ j-max in
      let c1 = (5ᶠ *ᶠ a0-a0 +ᶠ a-min *ᶠ (a-min -ᶠ 6ᶠ *ᶠ a0) +ᶠ 2ᶠ *ᶠ j-max *ᶠ v0) /ᶠ j-max-j-max in
      let c2 = 2ᶠ *ᶠ (a0 -ᶠ a-min) *ᶠ h2-acc1 /ᶠ (j-max-j-max *ᶠ j-max) in
      let c3 = h0-acc1 /ᶠ (k.j_max_j_max *ᶠ k.j_max_j_max) in
      record { c0 = c0; c1 = c1; c2 = c2; c3 = c3 }

module _ (start : Start) (m : Limits) where
  open start use {a0}
  open m use {a_max as a-max, a_min as a-min, j_max as j-max}

  unfoldable pub range_acc1 : RootRange
  range_acc1 = record { t_min = (a-min -ᶠ a0) /ᶠ j-max; t_max = (a-max -ᶠ a0) /ᶠ j-max }

module _ (start : Start) (target : Target) (m : Limits) where
  open start use {a0}
  open target use {af}
  open m use {a_min as a-min, j_max as j-max}

  unfoldable pub times_acc1 : Float → Float → List Float
  times_acc1 h3-acc1 t =
      let t2 = (a0 -ᶠ a-min) /ᶠ j-max +ᶠ t in
      let t5 = h3-acc1 -ᶠ (2ᶠ *ᶠ a0 +ᶠ j-max *ᶠ t) *ᶠ t /ᶠ a-min in
      let t6 = (af -ᶠ a-min) /ᶠ j-max in
      t ∷ 0ᶠ ∷ t2 ∷ 0ᶠ ∷ 0ᶠ ∷ t5 ∷ t6 ∷ []
