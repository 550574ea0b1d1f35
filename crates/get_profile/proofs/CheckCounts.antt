-- How many checks are made for a move: at most 2 where j_max, a_max or a_min is 0, at most 30 for a rest that is its
-- own target, and never more than 54. Assumes nothing.
use Prim.Native.Nat.{ℕ, ◌+◌}
use mathlib.Core.Path.{◌≡◌}
use mathlib.Core.Bool.{Bool, true, false}
use Rattle.profile.specs.Boundary.{start_of, target_of, empty_profile, boundary_from}
use Rattle.profile.specs.declared.Profile.{Profile}
use Rattle.profile.specs.declared.Start.{Start}
use Rattle.profile.specs.declared.Target.{Target}
use Rattle.profile.specs.declared.Limits.{Limits}
use Rattle.phase_times.specs.Constants.{constants_of}
use Rattle.search.specs.Choices.{has_zero_limit, ends_at_rest, rests_at_target, towards_target}
use Rattle.phase_times.specs.declared.constants.Constants.{Constants}
use Rattle.trees.specs.Tree.{AtMost, ended}
use Rattle.trees.proofs.TreeLaws.{at_most_more, at_most_bind}
use Rattle.candidates.specs.List.{fresh_list}
use Rattle.position_third_step1.proofs.FamilyLaws.{single_step_at_most}
use Rattle.get_profile.specs.Calls.{itself_order, resting_order, moving_order, two_step_order}
use Rattle.get_profile.specs.GetProfile.{resting, moving, two_step, first_search, try_families}
use Rattle.get_profile.specs.GetProfile.{get_profile_by, get_profile}
use Rattle.get_profile.proofs.FamiliesLaws.{AtMostFrom, first_at_most, no_first}
use Rattle.get_profile.proofs.CallLaws.{first_calls_at_most, each_calls_at_most}

module _ (start : Start) (target : Target) (k : Constants) where
  itself_at_most : (m : Limits) → AtMostFrom 12 (first_search start target k true true m)
  unfolding first_search
  itself_at_most m c = first_calls_at_most start target k true (towards_target k m) itself_order c

  resting_at_most : (m : Limits) → AtMostFrom 36 (resting start target k m)
  unfolding resting
  resting_at_most m = first_calls_at_most start target k true m resting_order

  moving_at_most : (m : Limits) → AtMostFrom 36 (moving start target k m)
  unfolding moving
  moving_at_most m = each_calls_at_most start target k false m moving_order

  two_step_at_most : (m : Limits) → AtMostFrom 18 (two_step start target k m)
  unfolding two_step
  two_step_at_most m = first_calls_at_most start target k true m two_step_order

  search_at_most : (at_rest at_Target : Bool) (m : Limits)
      → AtMostFrom 36 (first_search start target k at_rest at_Target m)
  unfolding first_search
  search_at_most true true m c = at_most_more 24 (itself_at_most m c)
  search_at_most true false m c = resting_at_most (towards_target k m) c
  search_at_most false at_Target m c = moving_at_most m c

  families_at_most : (m : Limits) → AtMostFrom 54 (try_families start target k m)
  unfolding try_families
  families_at_most m =
      first_at_most 18 _ (search_at_most (ends_at_rest target) (rests_at_target start k) m)
      (first_at_most 0 _ (two_step_at_most m) no_first)

  -- start and target are the same rest
  rest_at_most : (m : Limits) → ends_at_rest target ≡ true → rests_at_target start k ≡ true
      → AtMostFrom 30 (try_families start target k m)
  unfolding try_families
  rest_at_most m h g =
      first_at_most {n = 12} 18 _ (rw (h, g) (itself_at_most m)) (first_at_most 0 _ (two_step_at_most m) no_first)

module _ (input : Profile) (m : Limits) where
  abbrev k : Constants
  k = constants_of (start_of input) (target_of input) m

  zero_limit_at_most : AtMost 2 (get_profile_by true input m)
  unfolding get_profile_by
  zero_limit_at_most =
      at_most_bind 0 _ (single_step_at_most (boundary_from empty_profile input) (start_of input) (target_of input) k m)
      (λ d. ended)

  searched_at_most : {n : ℕ} → AtMostFrom n (try_families (start_of input) (target_of input) k m)
      → AtMost (n + 0) (get_profile_by false input m)
  unfolding get_profile_by
  searched_at_most h = at_most_bind 0 _ (h (fresh_list input)) (λ c. ended)

  pub checks_at_most_2 : has_zero_limit m ≡ true → AtMost 2 (get_profile input m)
  unfolding get_profile
  checks_at_most_2 h = rw h zero_limit_at_most

  pub checks_at_most_30 : has_zero_limit m ≡ false → ends_at_rest (target_of input) ≡ true
      → rests_at_target (start_of input) k ≡ true → AtMost 30 (get_profile input m)
  unfolding get_profile
  checks_at_most_30 z h g = rw z (searched_at_most (rest_at_most (start_of input) (target_of input) k m h g))

  by_at_most : (zero : Bool) → AtMost 54 (get_profile_by zero input m)
  by_at_most true = at_most_more 52 zero_limit_at_most
  by_at_most false = searched_at_most (families_at_most (start_of input) (target_of input) k m)

  pub checks_at_most_54 : AtMost 54 (get_profile input m)
  unfolding get_profile
  checks_at_most_54 = by_at_most (has_zero_limit m)
