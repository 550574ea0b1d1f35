-- Phase times of the two solutions of time_acc0_acc1, the numbers h1 to h3 and the guards. Definitions only.
use Rattle.std.specs.Prelude.{Bool, ◌&&◌, List, [], ◌∷◌, Float}
use Rattle.doubles.specs.Operators.{◌+ᶠ◌, ◌-ᶠ◌, ◌*ᶠ◌, ◌/ᶠ◌, -ᶠ◌, ◌<ᶠ◌}
use Rattle.doubles.specs.Constants.{0ᶠ, 2ᶠ, 3ᶠ, 4ᶠ, 6ᶠ, 8ᶠ, 12ᶠ}
use Rattle.profile.specs.declared.Start.{Start}
use Rattle.profile.specs.declared.Target.{Target}
use Rattle.profile.specs.declared.Limits.{Limits}
use Rattle.phase_times.specs.declared.constants.Constants.{Constants}

module _ (start : Start) (target : Target) (k : Constants) (m : Limits) where
  open start use {v0, a0}
  open target use {vf, af}
  open k use {pd, v0_v0 as v0-v0, vf_vf as vf-vf, j_max_j_max as j-max-j-max}
  open k use {a0_a0 as a0-a0, a0_p3 as a0-p3, a0_p4 as a0-p4, af_af as af-af, af_p3 as af-p3, af_p4 as af-p4}
  open m use {a_max as a-max, a_min as a-min, j_max as j-max}

  -- h1 as the Rust first has it. The family goes on where it is at least 0, so not for a NaN
  unfoldable pub acc0_acc1_radicand : Float
  acc0_acc1_radicand =
      let a-factor = 8ᶠ *ᶠ (a0-p3 -ᶠ af-p3)
      +ᶠ 3ᶠ *ᶠ a-max *ᶠ a-min *ᶠ (a-max -ᶠ a-min)
      +ᶠ 6ᶠ *ᶠ a-min *ᶠ af-af
      -ᶠ 6ᶠ *ᶠ a-max *ᶠ a0-a0 in
      let j-factor = a-max *ᶠ a-min *ᶠ ((a-max -ᶠ 2ᶠ *ᶠ a0) *ᶠ v0 -ᶠ (a-min -ᶠ 2ᶠ *ᶠ af) *ᶠ vf)
      +ᶠ a-min *ᶠ a0-a0 *ᶠ v0
      -ᶠ a-max *ᶠ af-af *ᶠ vf in
      let numerator = 3ᶠ *ᶠ (af-p4 *ᶠ a-max -ᶠ a0-p4 *ᶠ a-min) +ᶠ a-max *ᶠ a-min *ᶠ a-factor +ᶠ 12ᶠ *ᶠ j-max *ᶠ j-factor in
      numerator /ᶠ (3ᶠ *ᶠ (a-max -ᶠ a-min) *ᶠ j-max-j-max)
      +ᶠ 4ᶠ *ᶠ (a-max *ᶠ vf-vf -ᶠ a-min *ᶠ v0-v0 -ᶠ 2ᶠ *ᶠ a-min *ᶠ a-max *ᶠ pd) /ᶠ (a-max -ᶠ a-min)

-- h1 from then on; root is the square root of the radicand
unfoldable pub acc0_acc1_h1 : Float → Float
acc0_acc1_h1 root = root /ᶠ 2ᶠ

module _ (start : Start) (k : Constants) (m : Limits) where
  open start use {v0}
  open k use {a0_a0 as a0-a0}
  open m use {a_max as a-max, a_min as a-min, j_max as j-max}

  unfoldable pub acc0_acc1_h2 : Float
  acc0_acc1_h2 = a0-a0 /ᶠ (2ᶠ *ᶠ a-max *ᶠ j-max) +ᶠ (a-min -ᶠ 2ᶠ *ᶠ a-max) /ᶠ (2ᶠ *ᶠ j-max) -ᶠ v0 /ᶠ a-max

module _ (target : Target) (k : Constants) (m : Limits) where
  open target use {vf}
  open k use {af_af as af-af}
  open m use {a_max as a-max, a_min as a-min, j_max as j-max}

  unfoldable pub acc0_acc1_h3 : Float
  acc0_acc1_h3 = -ᶠ af-af /ᶠ (2ᶠ *ᶠ a-min *ᶠ j-max) -ᶠ (a-max -ᶠ 2ᶠ *ᶠ a-min) /ᶠ (2ᶠ *ᶠ j-max) +ᶠ vf /ᶠ a-min

module _ (m : Limits) where
  open m use {a_max as a-max, a_min as a-min}

  -- the guards of both solutions are strict: phases 1 and 5 take time
  unfoldable pub admits_acc0_acc1_solution2 : Float → Float → Float → Bool
  admits_acc0_acc1_solution2 h1 h2 h3 = (h1 /ᶠ a-max <ᶠ h2) && (-ᶠ h1 /ᶠ a-min <ᶠ h3)

  unfoldable pub admits_acc0_acc1_solution1 : Float → Float → Float → Bool
  admits_acc0_acc1_solution1 h1 h2 h3 = (-ᶠ h1 /ᶠ a-max <ᶠ h2) && (h1 /ᶠ a-min <ᶠ h3)

module _ (start : Start) (target : Target) (m : Limits) where
  open start use {a0}
  open target use {af}
  open m use {a_max as a-max, a_min as a-min, j_max as j-max}

  unfoldable pub times_acc0_acc1_solution2 : Float → Float → Float → List Float
  times_acc0_acc1_solution2 h1 h2 h3 =
      let t0 = (-ᶠ a0 +ᶠ a-max) /ᶠ j-max in
      let t1 = h2 -ᶠ h1 /ᶠ a-max in
      let t2 = a-max /ᶠ j-max in
      let t4 = -ᶠ a-min /ᶠ j-max in
      let t5 = h3 +ᶠ h1 /ᶠ a-min in
      let t6 = t4 +ᶠ af /ᶠ j-max in
      t0 ∷ t1 ∷ t2 ∷ 0ᶠ ∷ t4 ∷ t5 ∷ t6 ∷ []

  unfoldable pub times_acc0_acc1_solution1 : Float → Float → Float → List Float
  times_acc0_acc1_solution1 h1 h2 h3 =
      let t0 = (-ᶠ a0 +ᶠ a-max) /ᶠ j-max in
      let t1 = h2 +ᶠ h1 /ᶠ a-max in
      let t2 = a-max /ᶠ j-max in
      let t4 = -ᶠ a-min /ᶠ j-max in
      let t5 = h3 -ᶠ h1 /ᶠ a-min in
      let t6 = t4 +ᶠ af /ᶠ j-max in
      t0 ∷ t1 ∷ t2 ∷ 0ᶠ ∷ t4 ∷ t5 ∷ t6 ∷ []
