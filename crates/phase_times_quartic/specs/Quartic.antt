-- A monic quartic: shifted, and whether a root of at least 0 is possible. Definitions only.
use Rattle.std.specs.Prelude.{Bool, ◌||◌, Float}
use Rattle.doubles.specs.Operators.{◌+ᶠ◌, ◌*ᶠ◌, ◌<ᶠ◌, ◌≤ᶠ◌}
use Rattle.doubles.specs.Constants.{0ᶠ, 2ᶠ, 3ᶠ, 4ᶠ, 6ᶠ}
use Rattle.phase_times_quartic.specs.declared.quartic.Quartic.{Quartic}

module _ (q : Quartic) where
  open q use {c0, c1, c2, c3}

  -- polynom_acc0_min, of polynom_acc0 and t_min_acc0
  unfoldable pub shifted_quartic : Float → Quartic
  shifted_quartic t =
      record {
        c0 = c0 +ᶠ 4ᶠ *ᶠ t;
        c1 = c1 +ᶠ (3ᶠ *ᶠ c0 +ᶠ 6ᶠ *ᶠ t) *ᶠ t;
        c2 = c2 +ᶠ (2ᶠ *ᶠ c1 +ᶠ (3ᶠ *ᶠ c0 +ᶠ 4ᶠ *ᶠ t) *ᶠ t) *ᶠ t;
        c3 = c3 +ᶠ (c2 +ᶠ (c1 +ᶠ (c0 +ᶠ t) *ᶠ t) *ᶠ t) *ᶠ t;
      }

  -- polynom_acc0_has_solution of the shifted polynomial, polynom_acc1_has_solution of its own; a NaN does not say so
  unfoldable pub has_solution : Bool
  has_solution = (c0 <ᶠ 0ᶠ) || (c1 <ᶠ 0ᶠ) || (c2 <ᶠ 0ᶠ) || (c3 ≤ᶠ 0ᶠ)
