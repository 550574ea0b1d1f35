-- Which tries are put to the check, in which order and up to where. Assumes nothing.
use mathlib.Core.Path.{◌≡◌, refl, ap, ◌∙◌}
use mathlib.Core.Bool.{Bool, true, false}
use mathlib.Core.List.{List, [], ◌++◌, append-nil}
use Rattle.profile.specs.Boundary.{start_of, target_of, empty_profile, boundary_from}
use Rattle.profile.specs.Limits.{swapped_limits}
use Rattle.profile.specs.declared.Profile.{Profile}
use Rattle.profile.specs.declared.Start.{Start}
use Rattle.profile.specs.declared.Target.{Target}
use Rattle.profile.specs.declared.Limits.{Limits}
use Rattle.phase_times.specs.Constants.{constants_of}
use Rattle.search.specs.Choices.{has_zero_limit, ends_at_rest, rests_at_target, towards_target}
use Rattle.phase_times.specs.declared.constants.Constants.{Constants}
use Rattle.trees.specs.Tree.{Tree, done, bind, questions, StopsAtYes}
use Rattle.trees.specs.InTurn.{up_to}
use Rattle.trees.proofs.TreeLaws.{questions_bind, stops_bind}
use Rattle.trees.proofs.InTurnLaws.{asks_each, asks_up_to, up_to_end}
use Rattle.candidates.specs.declared.Try.{Try}
use Rattle.candidates.specs.List.{added, fresh_list}
use Rattle.candidates.specs.declared.Candidates.{Candidates}
use Rattle.position_third_step1.specs.CheckTree.{tries}
use Rattle.position_third_step1.specs.TimeAllVel.{all_vel_tries}
use Rattle.position_third_step1.specs.TimeAcc0Acc1.{acc0_acc1_tries}
use Rattle.position_third_step1.specs.TimeAllNoneAcc0Acc1.{none_acc0_acc1_tries}
use Rattle.position_third_step1.specs.TimeAllSingleStep.{acceptance, refusal, single_step_tries}
use Rattle.position_third_step1.proofs.FamilyLaws.{single_step_stops}
use Rattle.block.specs.Blocks.{Answer}
use Rattle.get_profile.specs.Calls.{itself_order, resting_order, moving_order, two_step_order, call_tries}
use Rattle.get_profile.specs.GetProfile.{resting, moving, two_step, first_search, try_families}
use Rattle.get_profile.specs.GetProfile.{get_profile_by, get_profile, first_tries, all_tries}
use Rattle.get_profile.proofs.FamiliesLaws.{none, also, SomeCount, StopsAtFirst, first_stops, each_asked}
use Rattle.get_profile.proofs.FamiliesLaws.{none_asked, refuse, Asks, first_asks, none_asks_first}
use Rattle.get_profile.proofs.CallLaws.{first_calls_ask, each_calls_ask, first_calls_stop}

module _ (start : Start) (target : Target) (k : Constants) where
  -- ---- where every answer is no
  search_asks : (at_rest at_Target : Bool) (m : Limits)
      → Asks (first_search start target k at_rest at_Target m) (first_tries start target k at_rest at_Target m)
  unfolding first_search resting moving
  search_asks true true m = first_calls_ask start target k true (towards_target k m) itself_order
  search_asks true false m = first_calls_ask start target k true (towards_target k m) resting_order
  search_asks false at_Target m = each_calls_ask start target k false m moving_order

  two_step_asks : (m : Limits) → Asks (two_step start target k m) (call_tries start target k m two_step_order)
  unfolding two_step
  two_step_asks m = first_calls_ask start target k true m two_step_order

  families_ask : (m : Limits)
      → Asks (try_families start target k m)
      (first_tries start target k (ends_at_rest target) (rests_at_target start k) m
      ++ (call_tries start target k m two_step_order ++ []))
  unfolding try_families
  families_ask m =
      first_asks _ _ (search_asks (ends_at_rest target) (rests_at_target start k) m)
      (first_asks _ _ (two_step_asks m) none_asks_first)

  -- ---- up to the first success
  rest_stops : (at_Target : Bool) (m : Limits) → StopsAtFirst (first_search start target k true at_Target m)
  unfolding first_search resting
  rest_stops true m = first_calls_stop start target k (towards_target k m) itself_order
  rest_stops false m = first_calls_stop start target k (towards_target k m) resting_order

  -- the two-step families, whatever was tried before them
  pub two_step_stops : (m : Limits) → StopsAtFirst (two_step start target k m)
  unfolding two_step
  two_step_stops m = first_calls_stop start target k m two_step_order

  -- all families of a resting target
  pub families_stop : (m : Limits) → ends_at_rest target ≡ true → StopsAtFirst (try_families start target k m)
  unfolding try_families
  families_stop m h = first_stops (also (rw h (rest_stops (rests_at_target start k) m)) (also (two_step_stops m) none))

  -- ---- all families, both directions, whatever the answers; time_all_vel up to its first success
  module _ (answer : Try → Bool) where
    all_asked : (xs : List Try) (c : Candidates) → questions answer (tries false c xs) ≡ xs
    all_asked xs c = asks_up_to added answer false c xs ∙ up_to_end answer xs

    pub moving_asks : (m : Limits) (c : Candidates) → questions answer (moving start target k m c)
        ≡ none_acc0_acc1_tries start target k m ++ (none_acc0_acc1_tries start target k (swapped_limits m)
        ++ (acc0_acc1_tries start target k m ++ (acc0_acc1_tries start target k (swapped_limits m)
        ++ (up_to true answer (all_vel_tries start target k m)
        ++ (up_to true answer (all_vel_tries start target k (swapped_limits m)) ++ [])))))
    unfolding moving
    moving_asks m =
        each_asked answer _ _ (all_asked _)
        (each_asked answer _ _ (all_asked _)
        (each_asked answer _ _ (all_asked _)
        (each_asked answer _ _ (all_asked _)
        (each_asked answer _ _ (λ c. asks_up_to added answer true c _)
        (each_asked answer _ _ (λ c. asks_up_to added answer true c _) (none_asked answer))))))

-- ---- every move
end_asks : {S : Type 0} (t : Tree Try Bool S) (f : S → Answer)
    → questions refuse (bind t (λ d. done (f d))) ≡ questions refuse t
unfolding questions
end_asks t f = questions_bind refuse t (λ d. done (f d)) ∙ append-nil _

pub nothing_counts : (input : Profile) → (fresh_list input).current_index ≡ 0
unfolding fresh_list
nothing_counts input = refl

module _ (input : Profile) (m : Limits) where
  abbrev k : Constants
  k = constants_of (start_of input) (target_of input) m

  pub tree_is : {zero-limit : Bool} → has_zero_limit m ≡ zero-limit → get_profile input m ≡ get_profile_by zero-limit input m
  unfolding get_profile
  tree_is e = ap (λ (b : Bool). get_profile_by b input m) e

  -- where every answer is no, all tries are asked, in this order
  pub asked_in_order : questions refuse (get_profile input m) ≡ all_tries input m
  unfolding get_profile_by all_tries
  asked_in_order = go (has_zero_limit m) refl
    where
      go : (zero-limit : Bool) → has_zero_limit m ≡ zero-limit → questions refuse (get_profile input m) ≡ all_tries input m
      go true e =
          ap (questions refuse) (tree_is e)
          ∙ end_asks _ _
          ∙ asks_each acceptance true (refusal (boundary_from empty_profile input))
          (single_step_tries (start_of input) (target_of input) k m)
          ∙ rw e
      go false e =
          ap (questions refuse) (tree_is e)
          ∙ end_asks _ _
          ∙ (families_ask (start_of input) (target_of input) k m (fresh_list input) (nothing_counts input)).0
          ∙ rw (e, append-nil)

  -- nothing is asked after the first success: on the single-step path, and for a resting target
  pub single_step_path_stops : has_zero_limit m ≡ true → StopsAtYes (λ (r : Answer). Unit {0}) (get_profile input m)
  unfolding get_profile_by
  single_step_path_stops z =
      rw (tree_is z) (stops_bind (λ d. d.ok ≡ true) _ _ (λ d p. tt) (λ d. tt) _
      (single_step_stops (boundary_from empty_profile input) (start_of input) (target_of input) k m))

  pub resting_target_stops : has_zero_limit m ≡ false → ends_at_rest (target_of input) ≡ true
      → StopsAtYes (λ (r : Answer). Unit {0}) (get_profile input m)
  unfolding get_profile_by
  resting_target_stops z h =
      rw (tree_is z) (stops_bind SomeCount _ _ (λ c p. tt) (λ c. tt) _
      (families_stop (start_of input) (target_of input) k m h (fresh_list input)))
