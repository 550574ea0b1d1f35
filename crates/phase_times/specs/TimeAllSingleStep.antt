-- Phase times of time_all_single_step, where no jerk is allowed, and its conditions. Only phase 3 takes time.
-- Definitions only.
use Rattle.std.specs.Prelude.{Bool, List, [], ◌∷◌, Float}
use Rattle.doubles.specs.Operators.{◌+ᶠ◌, ◌-ᶠ◌, ◌*ᶠ◌, ◌/ᶠ◌, -ᶠ◌, ◌<ᶠ◌, ◌≤ᶠ◌, at}
use Rattle.doubles.specs.Constants.{0ᶠ, 2ᶠ, eps}
use Rattle.doubles.specs.Functions.{absᶠ}
use Rattle.profile.specs.declared.Start.{Start}
use Rattle.profile.specs.declared.Target.{Target}
use Rattle.phase_times.specs.declared.constants.Constants.{Constants}

module _ (start : Start) (target : Target) where
  open start use {a0}
  open target use {af}

  unfoldable pub changes_acceleration : Bool
  changes_acceleration = eps <ᶠ absᶠ (af -ᶠ a0)

module _ (start : Start) where
  open start use {v0, a0}

  unfoldable pub starts_accelerated : Bool
  starts_accelerated = eps <ᶠ absᶠ a0

  unfoldable pub starts_moving : Bool
  starts_moving = eps <ᶠ absᶠ v0

module _ (k : Constants) where
  open k use {pd}

  unfoldable pub starts_at_target : Bool
  starts_at_target = absᶠ pd <ᶠ eps

-- false for a NaN
unfoldable pub has_phase3 : List Float → Bool
has_phase3 t = 0ᶠ ≤ᶠ at t 3

module _ (start : Start) (k : Constants) where
  open start use {a0}
  open k use {pd, v0_v0 as v0-v0}

  -- q is the square root of it
  unfoldable pub single_step_radicand : Float
  single_step_radicand = 2ᶠ *ᶠ a0 *ᶠ pd +ᶠ v0-v0

module _ (start : Start) where
  open start use {v0, a0}

  unfoldable pub times_single_step_solution1 : Float → List Float
  times_single_step_solution1 q =
      let t3 = (-ᶠ v0 +ᶠ q) /ᶠ a0 in
      0ᶠ ∷ 0ᶠ ∷ 0ᶠ ∷ t3 ∷ 0ᶠ ∷ 0ᶠ ∷ 0ᶠ ∷ []

  unfoldable pub times_single_step_solution2 : Float → List Float
  times_single_step_solution2 q =
      let t3 = -ᶠ (v0 +ᶠ q) /ᶠ a0 in
      0ᶠ ∷ 0ᶠ ∷ 0ᶠ ∷ t3 ∷ 0ᶠ ∷ 0ᶠ ∷ 0ᶠ ∷ []

module _ (start : Start) (k : Constants) where
  open start use {v0}
  open k use {pd}

  unfoldable pub times_at_constant_speed : List Float
  times_at_constant_speed =
      let t3 = pd /ᶠ v0 in
      0ᶠ ∷ 0ᶠ ∷ 0ᶠ ∷ t3 ∷ 0ᶠ ∷ 0ᶠ ∷ 0ᶠ ∷ []

unfoldable pub zero_times : List Float
zero_times = 0ᶠ ∷ 0ᶠ ∷ 0ᶠ ∷ 0ᶠ ∷ 0ᶠ ∷ 0ᶠ ∷ 0ᶠ ∷ []
