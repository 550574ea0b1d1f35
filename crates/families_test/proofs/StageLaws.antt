-- The stages of a search that are one family. Assumes nothing.
use Prim.Native.Nat.{ℕ, ◌-◌}
use Rattle.std.specs.Prelude.{eqb, get_or}
use Rattle.phase_times.specs.Constants.{constants_of}
use mathlib.Core.Path.{◌≡◌, refl, sym, ap, ◌∙◌}
use mathlib.Core.Bool.{Bool, true, false, cond, ◌&&◌}
use mathlib.Core.List.{List, [], ◌∷◌, ◌++◌}
use Rattle.std.proofs.Common.{Result}
use Rattle.profile.specs.declared.Profile.{Profile}
use Rattle.profile.specs.declared.Start.{Start}
use Rattle.profile.specs.declared.Target.{Target}
use Rattle.profile.specs.declared.Limits.{Limits}
use Rattle.profile_check.specs.Check.{Checked, judged}
use Rattle.phase_times.specs.declared.constants.Constants.{Constants}
use Rattle.trees.specs.Tree.{done, run, bind}
use Rattle.trees.specs.Stages.{in_stages}
use Rattle.trees.specs.Stages as in-trees
use Rattle.trees.proofs.TreeLaws.{run_bind}
use Rattle.trees.proofs.InTurnLaws.{stops_related}
use Rattle.trees.proofs.StageLaws.{each_stage, first_stage, no_stages_end, stage_same, each_stage_split}
use Rattle.trees.proofs.StageLaws.{first_stage_split}
use Rattle.candidates.specs.Try.{passes}
use Rattle.candidates.specs.declared.Try.{Try}
use Rattle.candidates.specs.List.{slot, stored, added}
use Rattle.candidates.specs.declared.Candidates.{Candidates}
use Rattle.position_third_step1.specs.CheckTree.{found, tries}
use Rattle.position_third_step1.specs.Families.{shared_of, slots_of, reached_by, jerk_by, tries_of}
use Rattle.position_third_step1.specs.TimeAllVel.{all_vel_tries, time_all_vel}
use Rattle.position_third_step1.specs.TimeAcc0Acc1.{acc0_acc1_tries, time_acc0_acc1}
use Rattle.position_third_step1.specs.TimeAllNoneAcc0Acc1.{none_tries, acc0_tries, acc1_tries, none_acc0_acc1_tries}
use Rattle.position_third_step1.specs.TimeAllNoneAcc0Acc1.{time_all_none_acc0_acc1}
use Rattle.position_third_step1.specs.TwoStep.{acc1_vel_two_step_tries, acc0_two_step_tries, vel_two_step_tries}
use Rattle.position_third_step1.specs.TwoStep.{none_two_step_tries}
use Rattle.position_third_step1.specs.TwoStep.{time_acc1_vel_two_step, time_acc0_two_step, time_vel_two_step}
use Rattle.position_third_step1.specs.TwoStep.{time_none_two_step}
use Rattle.position_third_step1.specs.TimeAllSingleStep.{single_step_tries, refusal, acceptance, first_accepted}
use Rattle.position_third_step1.specs.TimeAllSingleStep.{time_all_single_step}
use Rattle.search.specs.Choices.{towards_target}
use Rattle.search.specs.Stages.{limits_for, polynom_family, resting_family, two_step_family, resting_stage}
use Rattle.search.specs.Stages.{moving_stage}
use Rattle.search.specs.Stages.{two_step_stage, stage_at, stages_from, is_found, search_of}
use Rattle.search.proofs.FoundLaws.{added_found}
use Rattle.search.specs.declared.stages.Kind.TheVariants.{SingleStep, Resting, Moving}
use Rattle.families_test.specs.Records.{start_of, target_of, limits_of, directed, stages, stages_of, turned}
use Rattle.families_test.specs.Records.{after_family, first_found, boundary_of, list_of, called}
use Rattle.families_test.specs.declared.records.Stages.{Stages}

-- ---- one stage is a call
one_stage : (x : in-trees.Stage Try) (c : Candidates)
    → found (in_stages added is_found (x ∷ []) c) ≡ called x.guarded c (tries x.stops c x.questions)
unfolding in_stages run
one_stage x c = by (x.guarded && is_found c)
  where
    by : (b : Bool) → found (cond b (done c) (bind (tries x.stops c x.questions) (λ d. done d)))
        ≡ cond b c (found (tries x.stops c x.questions))
    by true = refl
    by false = run_bind passes (tries x.stops c x.questions) (λ d. done d)

-- ---- and three stages alike are a call with the tries of all three
module _ (xs ys zs : List Try) (c : Candidates) where
  three_each : found (in_stages added is_found (each_stage xs ∷ each_stage ys ∷ each_stage zs ∷ []) c)
      ≡ found (tries false c (xs ++ (ys ++ zs)))
  three_each =
      sym (ap found (each_stage_split added is_found xs (ys ++ zs) [] c
      ∙ stage_same added is_found (each_stage xs) (each_stage (ys ++ zs) ∷ []) (each_stage ys ∷ each_stage zs ∷ [])
      (each_stage_split added is_found ys zs []) c))
      ∙ one_stage (each_stage (xs ++ (ys ++ zs))) c

  three_first : found (in_stages added is_found (first_stage xs ∷ first_stage ys ∷ first_stage zs ∷ []) c)
      ≡ called true c (tries true c (xs ++ (ys ++ zs)))
  three_first =
      sym (ap found (first_stage_split added is_found added_found xs (ys ++ zs) [] (no_stages_end added is_found) c
      ∙ stage_same added is_found (first_stage xs) (first_stage (ys ++ zs) ∷ []) (first_stage ys ∷ first_stage zs ∷ [])
      (first_stage_split added is_found added_found ys zs [] (no_stages_end added is_found)) c))
      ∙ one_stage (first_stage (xs ++ (ys ++ zs))) c

-- ---- the families: r is the list after their stages
module _ (start : Start) (target : Target) (k : Constants) (m : Limits) (c : Candidates) {r : Candidates} where
  pub all_vel : r ≡ found (search_of start target k m (stages_from Moving 8 1) c)
      → r ≡ found (time_all_vel c start target k m)
  unfolding stages_from stage_at moving_stage limits_for tries_of slots_of shared_of reached_by jerk_by all_vel_tries
  all_vel e = e ∙ one_stage _ c

  pub acc0_acc1 : r ≡ found (search_of start target k m (stages_from Moving 6 1) c)
      → r ≡ found (time_acc0_acc1 c start target k m false)
  unfolding stages_from stage_at moving_stage limits_for tries_of slots_of shared_of reached_by jerk_by acc0_acc1_tries
  acc0_acc1 e = e ∙ one_stage _ c

  pub none_acc0_acc1 : r ≡ found (search_of start target k m (stages_from Moving 0 3) c)
      → r ≡ found (time_all_none_acc0_acc1 c start target k m false)
  unfolding stages_from stage_at moving_stage polynom_family limits_for tries_of slots_of shared_of reached_by jerk_by none_tries acc0_tries acc1_tries none_acc0_acc1_tries
  none_acc0_acc1 e =
      e ∙ three_each (none_tries start target k m) (acc0_tries start target k m) (acc1_tries start target k m) c

  pub acc1_vel_two_step : r ≡ found (search_of start target k m (stages_from Moving 16 1) c)
      → r ≡ called true c (time_acc1_vel_two_step c start target k m)
  unfolding stages_from stage_at two_step_stage two_step_family limits_for tries_of slots_of shared_of reached_by jerk_by acc1_vel_two_step_tries
  acc1_vel_two_step e = e ∙ one_stage _ c

  pub acc0_two_step : r ≡ found (search_of start target k m (stages_from Moving 12 1) c)
      → r ≡ called true c (time_acc0_two_step c start target k m)
  unfolding stages_from stage_at two_step_stage two_step_family limits_for tries_of slots_of shared_of reached_by jerk_by acc0_two_step_tries
  acc0_two_step e = e ∙ one_stage _ c

  pub vel_two_step : r ≡ found (search_of start target k m (stages_from Moving 14 1) c)
      → r ≡ called true c (time_vel_two_step c start target k m)
  unfolding stages_from stage_at two_step_stage two_step_family limits_for tries_of slots_of shared_of reached_by jerk_by vel_two_step_tries
  vel_two_step e = e ∙ one_stage _ c

  pub none_two_step : r ≡ found (search_of start target k m (stages_from Moving 10 1) c)
      → r ≡ called true c (time_none_two_step c start target k m)
  unfolding stages_from stage_at two_step_stage two_step_family limits_for tries_of slots_of shared_of reached_by jerk_by none_two_step_tries
  none_two_step e = e ∙ one_stage _ c

  -- ---- with `return_after_found`, from limits that are m towards the target
  module _ (w : Limits) (towards : towards_target k w ≡ m) where
    pub first_acc0_acc1 : r ≡ found (search_of start target k w (stages_from Resting 4 1) c)
        → r ≡ called true c (time_acc0_acc1 c start target k m true)
    unfolding stages_from stage_at resting_stage resting_family limits_for tries_of slots_of shared_of reached_by jerk_by acc0_acc1_tries
    first_acc0_acc1 e =
        e ∙ one_stage _ c ∙ ap (λ (n : Limits). called true c (time_acc0_acc1 c start target k n true)) towards

    pub first_none_acc0_acc1 : r ≡ found (search_of start target k w (stages_from Resting 1 3) c)
        → r ≡ called true c (time_all_none_acc0_acc1 c start target k m true)
    unfolding stages_from stage_at resting_stage resting_family polynom_family limits_for tries_of slots_of shared_of reached_by jerk_by none_tries acc0_tries acc1_tries none_acc0_acc1_tries
    first_none_acc0_acc1 e =
        let n = towards_target k w in
        e
        ∙ three_first (none_tries start target k n) (acc0_tries start target k n) (acc1_tries start target k n) c
        ∙ ap (λ (n : Limits). called true c (time_all_none_acc0_acc1 c start target k n true)) towards

-- ---- the family of each number: its stages make the limits m of w
module _ (start : Start) (target : Target) (k : Constants) (m : Limits) (c : Candidates) (w : Limits) {r : Candidates} where
  by_number : (b0 b1 b2 b3 b4 b5 returns : Bool) {s : Stages}
      → s ≡ cond b0 (stages Moving 8 9)
      (cond b1 (cond returns (stages Resting 4 5) (stages Moving 6 7))
      (cond b2 (cond returns (stages Resting 1 4) (stages Moving 0 3))
      (cond b3 (stages Moving 16 17)
      (cond b4 (stages Moving 12 13) (cond b5 (stages Moving 14 15) (stages Moving 10 11))))))
      → turned s.kind k w ≡ m → r ≡ found (search_of start target k w (stages_from s.kind s.numbers.start (s.numbers.end - s.numbers.start)) c)
      → r ≡ cond b0 (found (time_all_vel c start target k m))
      (cond b1 (called returns c (time_acc0_acc1 c start target k m returns))
      (cond b2 (called returns c (time_all_none_acc0_acc1 c start target k m returns))
      (cond b3 (called true c (time_acc1_vel_two_step c start target k m))
      (cond b4 (called true c (time_acc0_two_step c start target k m))
      (cond b5 (called true c (time_vel_two_step c start target k m))
      (called true c (time_none_two_step c start target k m)))))))
  by_number true _ _ _ _ _ _ f t e = rw (← (rw f at t)) (all_vel _ _ _ _ _ (rw f at e))
  by_number false true _ _ _ _ true f t e = first_acc0_acc1 _ _ _ _ _ _ (rw f at t) (rw f at e)
  by_number false true _ _ _ _ false f t e = rw (← (rw f at t)) (acc0_acc1 _ _ _ _ _ (rw f at e))
  by_number false false true _ _ _ true f t e = first_none_acc0_acc1 _ _ _ _ _ _ (rw f at t) (rw f at e)
  by_number false false true _ _ _ false f t e = rw (← (rw f at t)) (none_acc0_acc1 _ _ _ _ _ (rw f at e))
  by_number false false false true _ _ _ f t e = rw (← (rw f at t)) (acc1_vel_two_step _ _ _ _ _ (rw f at e))
  by_number false false false false true _ _ f t e = rw (← (rw f at t)) (acc0_two_step _ _ _ _ _ (rw f at e))
  by_number false false false false false true _ f t e = rw (← (rw f at t)) (vel_two_step _ _ _ _ _ (rw f at e))
  by_number false false false false false false _ f t e = rw (← (rw f at t)) (none_two_step _ _ _ _ _ (rw f at e))

pub family_law : (b : List ℕ) (c : Candidates) (w : Limits) {k : Constants} {s : Stages} {r : Candidates}
    → k ≡ constants_of (start_of b) (target_of b) (limits_of b)
    → s ≡ stages_of (get_or b 104 0) (eqb (get_or b 106 0) 1) → turned s.kind k w ≡ directed b
    → r ≡ found (search_of (start_of b) (target_of b) k w (stages_from s.kind s.numbers.start (s.numbers.end - s.numbers.start)) c)
    → r ≡ after_family b c
unfolding stages_of after_family
family_law b c w {k} {s} {r} constants family t e =
    let n = get_or b 104 0 in
    rw (← constants)
    (by_number (start_of b) (target_of b) k (directed b) c w (eqb n 0) (eqb n 1) (eqb n 2) (eqb n 3) (eqb n 4) (eqb n 5)
    (eqb (get_or b 106 0) 1) family t e)

-- ---- the single-step path: the list's first profile, and whether it counts
single_step_found : (b : List ℕ) (xs : List Try)
    → first_found (found (tries true (list_of b 0) xs)) ≡ run passes (first_accepted (boundary_of b) xs)
unfolding list_of added stored acceptance
single_step_found b xs =
    stops_related passes added acceptance (λ (c : Candidates) (d : Checked). first_found c ≡ d) (list_of b 0)
    (refusal (boundary_of b)) refl (λ x. refl) xs

-- l is the list at first, c the one after the stage, x what is taken of it
pub single_step_law : (b : List ℕ) (start : Start) (target : Target) (k : Constants) (m : Limits)
    {c l : Candidates} {x : Checked}
    → l ≡ list_of b 0 → c ≡ found (search_of start target k m (stages_from SingleStep 0 1) l)
    → (x.ok ≡ is_found c) × (x.profile ≡ slot c 0)
    → x ≡ run passes (time_all_single_step (boundary_of b) start target k m)
unfolding stages_from stage_at limits_for tries_of slots_of shared_of reached_by jerk_by single_step_tries list_of
single_step_law b start target k m {c} {l} {x} fresh searched first =
    let is-first : x ≡ first_found c = λ i. record { ok = first.0 i; profile = first.1 i } in
    is-first
    ∙ ap first_found (searched
    ∙ ap (λ (z : Candidates). found (search_of start target k m (stages_from SingleStep 0 1) z)) fresh
    ∙ one_stage _ (list_of b 0))
    ∙ single_step_found b (single_step_tries start target k m)

-- and r what the code takes of it
pub single_step_judged : (b : List ℕ) (start : Start) (target : Target) (k : Constants) (m : Limits)
    {c l : Candidates} {r : Result Profile Profile}
    → l ≡ list_of b 0 → c ≡ found (search_of start target k m (stages_from SingleStep 0 1) l)
    → r ≡ judged (first_found c)
    → r ≡ judged (run passes (time_all_single_step (boundary_of b) start target k m))
single_step_judged b start target k m fresh searched first =
    first ∙ ap judged (single_step_law b start target k m fresh searched (refl, refl))
