-- The slots of a family, one by one. Assumes nothing.
use Prim.Native.Nat.{ℕ, zero, suc, ◌<◌}
use mathlib.Core.Path.{◌≡◌, refl, ap}
use mathlib.Core.Bool.{Bool, true, false, not, cond}
use mathlib.Core.List.{List, [], ◌∷◌}
use native.Mathlib.Omega.{arith}
use lib.Ieee.{Float}
use lib.ListN.{length}
use Rattle.doubles.specs.Operators.{at}
use Rattle.phase_times_quartic.specs.RootRange.{is_skipped}
use Rattle.phase_times_quartic.specs.declared.root_range.RootRange.{RootRange}
use Rattle.position_third_step1.specs.Slots.{Slot, slot_at, always}
use Rattle.phase_times.specs.TimeAllSingleStep.{changes_acceleration, starts_accelerated, starts_moving, starts_at_target}
use Rattle.phase_times.specs.TimeAllSingleStep.{times_at_constant_speed, zero_times}
use Rattle.phase_times.specs.declared.constants.Constants.{Constants}
use Rattle.position_third_step1.specs.TimeAllNoneAcc0Acc1.{root_slots}
use Rattle.position_third_step1.specs.TimeAllSingleStep.{accelerated_slots, single_step_slots}
use Rattle.position_third_step1.specs.declared.families.Shared.{Shared}
use Rattle.profile.specs.declared.Start.{Start}
use Rattle.profile.specs.declared.Target.{Target}

-- ---- times that are always tried
pub always_holds : (ts : List (List Float)) (i : ℕ) → i < length (always ts) → true ≡ (slot_at (always ts) i).0
unfolding always
always_holds [] i h = absurd (let none : ⊥ = omega arith in none)
always_holds (t ∷ ts) zero h = refl
always_holds (t ∷ ts) (suc i) h = always_holds ts i (omega arith)

-- ---- a slot for each root
module _ (range : RootRange) (times : Float → List Float) where
  pub root_slots_law : (ts : List Float) → length (root_slots range times ts) ≡ length ts
  unfolding root_slots
  root_slots_law [] = refl
  root_slots_law (t ∷ ts) = ap suc (root_slots_law ts)

  root_slot : (ts : List Float) (i : ℕ) → i < length ts
      → slot_at (root_slots range times ts) i ≡ (not (is_skipped range (at ts i)), times (at ts i))
  unfolding root_slots
  root_slot [] i h = absurd (let none : ⊥ = omega arith in none)
  root_slot (t ∷ ts) zero h = refl
  root_slot (t ∷ ts) (suc i) h = root_slot ts i (omega arith)

  pub slot_held : (ts : List Float) (i : ℕ) → i < length ts
      → (slot_at (root_slots range times ts) i).0 ≡ not (is_skipped range (at ts i))
  slot_held ts i h = ap (λ (s : Slot). s.0) (root_slot ts i h)

  pub slot_times : (ts : List Float) (i : ℕ) → i < length ts
      → (slot_at (root_slots range times ts) i).1 ≡ times (at ts i)
  slot_times ts i h = ap (λ (s : Slot). s.1) (root_slot ts i h)

-- ---- on the single-step path: with acceleration, where there are slots
none_left : (b : Bool) (xs : List Slot) (i : ℕ) → i < length (cond b [] xs) → b ≡ false
none_left true xs i h = absurd (let none : ⊥ = omega arith in none)
none_left false xs i h = refl

pub accelerated_slots_law : (start : Start) (target : Target) (k : Constants) (s : Shared) (i : ℕ)
    → starts_accelerated start ≡ true → i < length (single_step_slots start target k s)
    → single_step_slots start target k s ≡ accelerated_slots start s.h0
unfolding single_step_slots
accelerated_slots_law start target k s i a h =
    rw (
      none_left (changes_acceleration start target)
          (cond (starts_accelerated start) (accelerated_slots start s.h0)
          (cond (starts_moving start) ((true, times_at_constant_speed start k) ∷ []) ((starts_at_target k, zero_times) ∷ [])))
          i h,
      a,
    )

-- ---- what the check looks for of any family's slots
pub ruleset of_slots = (root_slots_law, slot_held, slot_times, always_holds)
