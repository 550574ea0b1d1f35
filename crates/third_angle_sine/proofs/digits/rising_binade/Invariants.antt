-- `third_angle_sine::digits::rising_binade` meets its contract. Assumes nothing.
use Prim.Native.Nat.{◌^◌, ◌≤◌}
use Rattle.elementary.specs.Nearest.{Above}
use Rattle.third_angle_sine.proofs.Rounding.{scaled}
use Rattle.algebraic.specs.Reals.{units}
use Rattle.third_angle_sine.proofs.digits.rising_binade.Given as goal

abbrev pub invariant-loop-e : goal.invariant-loop-e
invariant-loop-e l = (1 ≤ l.e) × Above (2 ^ 54) (scaled 0 (units l.t) l.e)
