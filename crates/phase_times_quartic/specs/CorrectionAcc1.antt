-- The corrections of a root of the try ACC1 (regarding pd): one to three Newton steps. Definitions only.
use Rattle.std.specs.Prelude.{cond, Float, Option, Some, None}
use Rattle.std.specs.Float.{binary64}
use Rattle.std.specs.Float.Ieee.{of_bits}
use Rattle.doubles.specs.Operators.{◌+ᶠ◌, ◌-ᶠ◌, ◌*ᶠ◌, ◌/ᶠ◌, -ᶠ◌, ◌<ᶠ◌}
use Rattle.doubles.specs.Constants.{2ᶠ, 4ᶠ, 5ᶠ, eps}
use Rattle.doubles.specs.Functions.{absᶠ, minᶠ}
use Rattle.profile.specs.declared.Start.{Start}
use Rattle.profile.specs.declared.Limits.{Limits}
use Rattle.phase_times.specs.declared.constants.Constants.{Constants}

module _ (start : Start) (k : Constants) (m : Limits) where
  open start use {v0, a0}
  open k use {a0_a0 as a0-a0, a0_p3 as a0-p3}
  open m use {a_min as a-min, j_max as j-max}

  -- as the Rust computes it before each of the three corrections
  unfoldable pub orig_acc1 : Float → Float → Float
  orig_acc1 h0-acc1 t =
      let h5 = a0-p3 +ᶠ 2ᶠ *ᶠ j-max *ᶠ a0 *ᶠ v0 in
      let h1 = j-max *ᶠ t in
      let h1-factor = h5
      +ᶠ a0 *ᶠ (a-min -ᶠ 2ᶠ *ᶠ h1) *ᶠ (a-min -ᶠ h1)
      +ᶠ a0-a0 *ᶠ (5ᶠ *ᶠ h1 /ᶠ 2ᶠ -ᶠ 2ᶠ *ᶠ a-min)
      +ᶠ a-min *ᶠ a-min *ᶠ h1 /ᶠ 2ᶠ
      +ᶠ j-max *ᶠ (h1 /ᶠ 2ᶠ -ᶠ a-min) *ᶠ (h1 *ᶠ t +ᶠ 2ᶠ *ᶠ v0) in
      -ᶠ (h0-acc1 /ᶠ 2ᶠ +ᶠ h1 *ᶠ h1-factor) /ᶠ j-max

module _ (start : Start) (m : Limits) where
  open start use {a0}
  open m use {a_min as a-min, j_max as j-max}

  unfoldable pub deriv_acc1 : Float → Float → Float
  deriv_acc1 h2-acc1 t =
      let h1 = j-max *ᶠ t in
      (a-min -ᶠ a0 -ᶠ h1) *ᶠ (h2-acc1 +ᶠ h1 *ᶠ (4ᶠ *ᶠ a0 -ᶠ a-min +ᶠ 2ᶠ *ᶠ h1))

-- the double of the Rust's 1e-9
abbrev pub 1e-9ᶠ : Float
1e-9ᶠ = of_bits binary64 0x3e11_2e0b_e826_d695

module _ (start : Start) (k : Constants) (m : Limits) (h0-acc1 h2-acc1 : Float) where
  abbrev orig : Float → Float
  orig t = orig_acc1 start k m h0-acc1 t

  abbrev deriv : Float → Float
  deriv t = deriv_acc1 start m h2-acc1 t

  -- the only correction that t bounds: it leaves no negative root, and 0 for a NaN
  unfoldable pub first_correction_acc1 : Float → Float
  first_correction_acc1 t = t -ᶠ minᶠ (orig t /ᶠ deriv t) t

  -- the second or the third, where t needs one
  abbrev pub further_correction_acc1 : Float → Option Float
  further_correction_acc1 t = cond (1e-9ᶠ <ᶠ absᶠ (orig t)) (Some (t -ᶠ orig t /ᶠ deriv t)) None

  unfoldable pub third_correction_acc1 : Float → Float
  third_correction_acc1 t = cond (1e-9ᶠ <ᶠ absᶠ (orig t)) (t -ᶠ orig t /ᶠ deriv t) t

  -- with the third, which is tried only after it
  unfoldable pub second_correction_acc1 : Float → Float
  second_correction_acc1 t = cond (1e-9ᶠ <ᶠ absᶠ (orig t)) (third_correction_acc1 (t -ᶠ orig t /ᶠ deriv t)) t

  -- a root above EPSILON is corrected once to three times
  unfoldable pub corrected_acc1 : Float → Float
  corrected_acc1 t = cond (eps <ᶠ t) (second_correction_acc1 (first_correction_acc1 t)) t
