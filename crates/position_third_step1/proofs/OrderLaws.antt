-- Which tries each family makes, in which order. Assumes nothing.
use mathlib.Core.Path.{◌≡◌, refl, ap, ◌∙◌}
use mathlib.Core.Bool.{Bool, true, false, cond, not}
use mathlib.Core.List.{List, [], ◌∷◌, ◌++◌, map, map-append}
use lib.Ieee.{Float}
use lib.ListN.{take, drop}
use Rattle.doubles.specs.Operators.{◌+ᶠ◌, ◌-ᶠ◌, ◌/ᶠ◌, -ᶠ◌, at}
use Rattle.doubles.specs.Constants.{0ᶠ}
use Rattle.elementary.specs.Functions.{sqrt_of}
use Rattle.profile.specs.declared.Start.{Start}
use Rattle.profile.specs.declared.Target.{Target}
use Rattle.profile.specs.declared.Limits.{Limits}
use Rattle.profile.specs.declared.ReachedLimits.{ReachedLimits}
use Rattle.profile.specs.declared.ReachedLimits.TheVariants.{Vel, Acc0, Acc1, Acc0Acc1, Acc1Vel, None}
use Rattle.phase_times.specs.TimeAllVel.{t_acc1_radicand, times_acc0_acc1_vel, times_acc1_vel, times_acc0_vel}
use Rattle.phase_times.specs.TimeAllVel.{times_vel}
use Rattle.phase_times.specs.TimeAcc0Acc1.{admits_acc0_acc1_solution2, admits_acc0_acc1_solution1}
use Rattle.phase_times.specs.TimeAcc0Acc1.{times_acc0_acc1_solution2, times_acc0_acc1_solution1}
use Rattle.phase_times.specs.TimeAllSingleStep.{has_phase3, times_single_step_solution1, times_single_step_solution2}
use Rattle.phase_times_two_step.specs.TimeAcc1VelTwoStep.{times_acc1_vel_two_step}
use Rattle.phase_times_two_step.specs.TimeAcc0TwoStep.{times_acc0_two_step, times_acc0_removed_pf}
use Rattle.phase_times_two_step.specs.TimeAcc0TwoStep.{times_acc0_removed_a_max, times_acc0_to_a_min}
use Rattle.phase_times_two_step.specs.TimeVelTwoStep.{times_vel_phase0, times_vel_phase2}
use Rattle.phase_times_two_step.specs.TimeNoneTwoStep.{times_none_two_step, times_none_single_step}
use Rattle.phase_times.specs.declared.constants.Constants.{Constants}
use Rattle.phase_times_quartic.specs.RootRange.{is_skipped}
use Rattle.phase_times_quartic.specs.declared.root_range.RootRange.{RootRange}
use Rattle.candidates.specs.declared.Try.{Try}
use Rattle.position_third_step1.specs.Order.{Shaped, names, kept_roots, root_names}
use Rattle.position_third_step1.specs.CheckTree.{try_of, only_if}
use Rattle.position_third_step1.specs.Slots.{always, held, numbers}
use Rattle.position_third_step1.specs.TimeAllVel.{all_vel_shared, all_vel_tries}
use Rattle.position_third_step1.specs.TimeAcc0Acc1.{acc0_acc1_solutions}
use Rattle.position_third_step1.specs.TimeAllNoneAcc0Acc1.{none_shared, acc0_shared, acc1_shared, root_slots}
use Rattle.position_third_step1.specs.TimeAllNoneAcc0Acc1.{none_tries, acc0_tries, acc1_tries, none_acc0_acc1_tries}
use Rattle.position_third_step1.specs.TimeAllSingleStep.{jerkless_try, accelerated_slots}
use Rattle.position_third_step1.specs.TwoStep.{acc1_vel_two_step_tries, acc0_two_step_tries}
use Rattle.position_third_step1.specs.TwoStep.{vel_two_step_tries, none_two_step_tries}

module _ (start : Start) (target : Target) (k : Constants) (m : Limits) where
  -- ACC0_ACC1_VEL, ACC1_VEL, ACC0_VEL, VEL: at a_max for a while in the first and the third, at a_min in the first and
  -- the second
  pub all_vel_order : Shaped ((Vel, []) ∷ (Vel, 1 ∷ []) ∷ (Vel, 5 ∷ []) ∷ (Vel, 1 ∷ 5 ∷ []) ∷ [])
      (all_vel_tries start target k m)
  unfolding all_vel_tries always held only_if times_acc1_vel times_acc0_vel times_vel
  all_vel_order = ((refl, tt), ((refl, (refl, tt)), ((refl, (refl, tt)), ((refl, (refl, (refl, tt))), tt))))

  -- the second and the fourth keep phases 4 to 6 of the try before them
  pub all_vel_reuses : let first = drop 4 (times_acc0_acc1_vel start target k m) in
      let third = drop 4 (times_acc0_vel start target k m (sqrt_of (t_acc1_radicand target k m))) in
      map (λ (x : Try). drop 4 x.t) (all_vel_tries start target k m) ≡ first ∷ first ∷ third ∷ third ∷ []
  unfolding all_vel_tries all_vel_shared numbers always held only_if
      times_acc0_acc1_vel times_acc1_vel times_acc0_vel times_vel
  all_vel_reuses = refl

  -- solution 2, which has h1 / a_max taken off in phase 1, before solution 1, which has it added
  pub acc0_acc1_order : (h1 h2 h3 : Float) → admits_acc0_acc1_solution2 m h1 h2 h3 ≡ true
      → admits_acc0_acc1_solution1 m h1 h2 h3 ≡ true
      → map (λ (x : Try). at x.t 1)
      (held (try_of start target m Acc0Acc1) (acc0_acc1_solutions start target m h1 h2 h3))
      ≡ (h2 -ᶠ h1 /ᶠ m.a_max) ∷ (h2 +ᶠ h1 /ᶠ m.a_max) ∷ []
  unfolding held only_if times_acc0_acc1_solution2 times_acc0_acc1_solution1
  acc0_acc1_order h1 h2 h3 two one = rw (two, one)

  -- two step; three step, removed pf; three step, removed a_max; three step with t = (a_max - a_min) / j_max
  pub acc0_two_step_order : Shaped
      ((Acc0, 0 ∷ 3 ∷ 4 ∷ 5 ∷ 6 ∷ [])
      ∷ (Acc0, 3 ∷ 4 ∷ 5 ∷ 6 ∷ [])
      ∷ (Acc0, 3 ∷ 4 ∷ 5 ∷ 6 ∷ [])
      ∷ (Acc0, 3 ∷ 4 ∷ 5 ∷ [])
      ∷ [])
      (acc0_two_step_tries start target k m)
  unfolding acc0_two_step_tries always held only_if
      times_acc0_two_step times_acc0_removed_pf times_acc0_removed_a_max times_acc0_to_a_min
  acc0_two_step_order = (
    (refl, (refl, (refl, (refl, (refl, (refl, tt)))))),
    (
      (refl, (refl, (refl, (refl, (refl, tt))))),
      ((refl, (refl, (refl, (refl, (refl, tt))))), ((refl, (refl, (refl, (refl, tt)))), tt)),
    ),
  )

  -- of the two with one shape it is the earlier that goes to a_max first
  pub acc0_two_step_second : map (λ (x : Try). at x.t 0) (take 2 (acc0_two_step_tries start target k m))
      ≡ 0ᶠ ∷ ((-ᶠ start.a0 +ᶠ m.a_max) /ᶠ m.j_max) ∷ []
  unfolding acc0_two_step_tries always held only_if times_acc0_two_step times_acc0_removed_pf
  acc0_two_step_second = refl

  -- phase 0 takes the acceleration to 0; phase 2 does
  pub vel_two_step_order : Shaped ((Vel, 1 ∷ 2 ∷ 5 ∷ []) ∷ (Vel, 0 ∷ 1 ∷ 5 ∷ []) ∷ [])
      (vel_two_step_tries start target k m)
  unfolding vel_two_step_tries always held only_if times_vel_phase0 times_vel_phase2
  vel_two_step_order = ((refl, (refl, (refl, (refl, tt)))), ((refl, (refl, (refl, (refl, tt)))), tt))

  -- two step; single step
  pub none_two_step_order : Shaped ((None, 1 ∷ 3 ∷ 4 ∷ 5 ∷ 6 ∷ []) ∷ (None, 1 ∷ 2 ∷ 3 ∷ 4 ∷ 5 ∷ 6 ∷ []) ∷ [])
      (none_two_step_tries start target k m)
  unfolding none_two_step_tries always held only_if times_none_two_step times_none_single_step
  none_two_step_order = (
    (refl, (refl, (refl, (refl, (refl, (refl, tt)))))),
    ((refl, (refl, (refl, (refl, (refl, (refl, (refl, tt))))))), tt),
  )

  pub acc1_vel_two_step_order : Shaped ((Acc1Vel, 0 ∷ 1 ∷ []) ∷ []) (acc1_vel_two_step_tries start target k m)
  unfolding acc1_vel_two_step_tries always held only_if times_acc1_vel_two_step
  acc1_vel_two_step_order = ((refl, (refl, (refl, tt))), tt)

  -- time_all_single_step at constant acceleration: the solution with the root added before the one with it taken off
  pub accelerated_order : (root : Float) → has_phase3 (times_single_step_solution1 start root) ≡ true
      → has_phase3 (times_single_step_solution2 start root) ≡ true
      → map (λ (x : Try). at x.t 3) (held (jerkless_try start target m) (accelerated_slots start root))
      ≡ ((-ᶠ start.v0 +ᶠ root) /ᶠ start.a0) ∷ (-ᶠ (start.v0 +ᶠ root) /ᶠ start.a0) ∷ []
  unfolding held only_if times_single_step_solution1 times_single_step_solution2
  accelerated_order root first second = rw (first, second)

  names_for : (reached : ReachedLimits) (range : RootRange) (times : Float → List Float) (ts : List Float)
      → names (held (try_of start target m reached) (root_slots range times ts))
      ≡ map (λ (t : Float). reached) (kept_roots range ts)
  unfolding root_slots held kept_roots only_if
  names_for reached range times [] = refl
  names_for reached range times (t ∷ ts) =
      by (is_skipped range t) (held (try_of start target m reached) (root_slots range times ts)) (kept_roots range ts)
      (names_for reached range times ts)
    where
      by : (b : Bool) (rest : List Try) (kept : List Float) → names rest ≡ map (λ (u : Float). reached) kept
          → names (only_if (not b) (try_of start target m reached (times t)) rest)
          ≡ map (λ (u : Float). reached) (cond b kept (t ∷ kept))
      by true rest kept e = e
      by false rest kept e = ap (λ (ns : List ReachedLimits). reached ∷ ns) e

  none_names : names (none_tries start target k m) ≡ root_names None (none_shared start target k m)
  unfolding none_tries
  none_names = names_for None _ _ _

  acc0_names : names (acc0_tries start target k m) ≡ root_names Acc0 (acc0_shared start target k m)
  unfolding acc0_tries
  acc0_names = names_for Acc0 _ _ _

  acc1_names : names (acc1_tries start target k m) ≡ root_names Acc1 (acc1_shared start target k m)
  unfolding acc1_tries
  acc1_names = names_for Acc1 _ _ _

  -- a try for each root that is kept: those of NONE, then of ACC0, then of ACC1
  pub none_acc0_acc1_order : names (none_acc0_acc1_tries start target k m)
      ≡ root_names None (none_shared start target k m)
      ++ (root_names Acc0 (acc0_shared start target k m) ++ root_names Acc1 (acc1_shared start target k m))
  unfolding none_acc0_acc1_tries
  none_acc0_acc1_order =
      let later = map-append (λ (x : Try). x.reached) (acc0_tries start target k m) (acc1_tries start target k m) in
      map-append _ (none_tries start target k m) _ ∙ rw (later, none_names, acc0_names, acc1_names)
