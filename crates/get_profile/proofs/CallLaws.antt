-- What is common to all calls of a search. Assumes nothing.
use Prim.Native.Nat.{ℕ, ◌+◌}
use mathlib.Core.Path.{◌≡◌, refl}
use mathlib.Core.Bool.{Bool, true}
use mathlib.Core.List.{List, [], ◌∷◌}
use Rattle.profile.specs.declared.Start.{Start}
use Rattle.profile.specs.declared.Target.{Target}
use Rattle.profile.specs.declared.Limits.{Limits}
use Rattle.phase_times.specs.declared.constants.Constants.{Constants}
use Rattle.trees.specs.InTurn.{Bounded}
use Rattle.trees.proofs.InTurnLaws.{asks_each, stays}
use Rattle.candidates.specs.List.{added}
use Rattle.position_third_step1.specs.CheckTree.{TryWith}
use Rattle.position_third_step1.proofs.FamilyLaws.{none_found, stops_at_first, checks_at_most, all_vel_bounded}
use Rattle.position_third_step1.proofs.FamilyLaws.{acc0_acc1_bounded}
use Rattle.position_third_step1.proofs.FamilyLaws.{none_acc0_acc1_bounded, acc1_vel_two_step_bounded}
use Rattle.position_third_step1.proofs.FamilyLaws.{acc0_two_step_bounded, vel_two_step_bounded, none_two_step_bounded}
use Rattle.get_profile.specs.Families.{Search, first_of, each_of}
use Rattle.get_profile.specs.Calls.{FamilyName, all_vel, none_acc0_acc1, acc0_acc1, none_two_step, acc0_two_step}
use Rattle.get_profile.specs.Calls.{vel_two_step, acc1_vel_two_step}
use Rattle.get_profile.specs.Calls.{Call, limits_of, stops_of, call_tries_of, call_of, calls_of, call_tries}
use Rattle.get_profile.proofs.FamiliesLaws.{Every, none, also, NoneFound, StopsAtFirst, first_stops, Asks}
use Rattle.get_profile.proofs.FamiliesLaws.{first_asks}
use Rattle.get_profile.proofs.FamiliesLaws.{each_asks, none_asks_first, none_asks_each, AtMostFrom}
use Rattle.get_profile.proofs.FamiliesLaws.{first_at_most, each_at_most, no_first, no_each}

-- how many tries a family has at most, and the calls of an order together
abbrev pub checks_of : FamilyName → ℕ
checks_of all_vel = 4
checks_of none_acc0_acc1 = 12
checks_of acc0_acc1 = 2
checks_of none_two_step = 2
checks_of acc0_two_step = 4
checks_of vel_two_step = 2
checks_of acc1_vel_two_step = 1

abbrev pub checks_in : List Call → ℕ
checks_in [] = 0
checks_in (s ∷ ss) = checks_of s.0 + checks_in ss

module _ (start : Start) (target : Target) (k : Constants) where
  -- no more tries than that, each with these limits and their jerk
  pub tries_bounded : (n : FamilyName) (m : Limits)
      → Bounded (TryWith start target m.j_max m) (checks_of n) (call_tries_of start target k n m)
  tries_bounded all_vel m = all_vel_bounded start target k m
  tries_bounded none_acc0_acc1 m = none_acc0_acc1_bounded start target k m
  tries_bounded acc0_acc1 m = acc0_acc1_bounded start target k m
  tries_bounded none_two_step m = none_two_step_bounded start target k m
  tries_bounded acc0_two_step m = acc0_two_step_bounded start target k m
  tries_bounded vel_two_step m = vel_two_step_bounded start target k m
  tries_bounded acc1_vel_two_step m = acc1_vel_two_step_bounded start target k m

  always_stops : (n : FamilyName) → stops_of true n ≡ true
  always_stops all_vel = refl
  always_stops none_acc0_acc1 = refl
  always_stops acc0_acc1 = refl
  always_stops none_two_step = refl
  always_stops acc0_two_step = refl
  always_stops vel_two_step = refl
  always_stops acc1_vel_two_step = refl

  -- with `return_after_found` every call stops at its first success
  call_stops : (m : Limits) (s : Call) → StopsAtFirst (call_of start target k true m s)
  call_stops m s c = rw (always_stops s.0) (stops_at_first c (call_tries_of start target k s.0 (limits_of s.1 m)))

  module _ (return-after-found : Bool) (m : Limits) where
    -- what holds of every call holds of all of an order
    pub every_call : (P : Search → Type 0) → ((s : Call) → P (call_of start target k return-after-found m s))
        → (order : List Call) → Every P (calls_of start target k return-after-found m order)
    every_call P h [] = none
    every_call P h (s ∷ ss) = also (h s) (every_call P h ss)

    pub calls_none_found : (order : List Call) → Every NoneFound (calls_of start target k return-after-found m order)
    calls_none_found = every_call NoneFound (λ s c. none_found (stops_of return-after-found s.0) c _)

    -- ---- where every answer is no
    call_asks : (s : Call)
        → Asks (call_of start target k return-after-found m s) (call_tries_of start target k s.0 (limits_of s.1 m))
    call_asks s c z =
        (asks_each added (stops_of return-after-found s.0) c _, stays added (stops_of return-after-found s.0) c _)

    pub first_calls_ask : (order : List Call)
        → Asks (first_of (calls_of start target k return-after-found m order)) (call_tries start target k m order)
    unfolding call_tries
    first_calls_ask [] = none_asks_first
    first_calls_ask (s ∷ ss) = first_asks _ _ (call_asks s) (first_calls_ask ss)

    pub each_calls_ask : (order : List Call)
        → Asks (each_of (calls_of start target k return-after-found m order)) (call_tries start target k m order)
    unfolding call_tries
    each_calls_ask [] = none_asks_each
    each_calls_ask (s ∷ ss) = each_asks _ _ (call_asks s) (each_calls_ask ss)

    -- ---- how many checks are made
    call_at_most : (s : Call) → AtMostFrom (checks_of s.0) (call_of start target k return-after-found m s)
    call_at_most s c = checks_at_most (stops_of return-after-found s.0) c (tries_bounded s.0 (limits_of s.1 m))

    pub first_calls_at_most : (order : List Call)
        → AtMostFrom (checks_in order) (first_of (calls_of start target k return-after-found m order))
    first_calls_at_most [] = no_first
    first_calls_at_most (s ∷ ss) = first_at_most (checks_in ss) _ (call_at_most s) (first_calls_at_most ss)

    pub each_calls_at_most : (order : List Call)
        → AtMostFrom (checks_in order) (each_of (calls_of start target k return-after-found m order))
    each_calls_at_most [] = no_each
    each_calls_at_most (s ∷ ss) = each_at_most (checks_in ss) _ (call_at_most s) (each_calls_at_most ss)

  pub first_calls_stop : (m : Limits) (order : List Call)
      → StopsAtFirst (first_of (calls_of start target k true m order))
  first_calls_stop m order = first_stops (every_call true m StopsAtFirst (call_stops m) order)
