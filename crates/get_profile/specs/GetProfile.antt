-- `get_profile` on a fresh planner and a fresh block: which families are tried for which move, in which order and up to
-- where. Definitions only.
use Rattle.std.specs.Prelude.{◌≡◌, Bool, true, false, cond, ◌||◌, List, [], ◌∷◌, ◌++◌, ◌⊎◌, None, Ok, Err, Float}
use Rattle.doubles.specs.Constants.{0ᶠ}
use Rattle.profile.specs.Boundary.{start_of, target_of, empty_profile, boundary_from}
use Rattle.profile.specs.Limits.{swapped_limits}
use Rattle.profile.specs.declared.Profile.{Profile}
use Rattle.profile.specs.declared.Start.{Start}
use Rattle.profile.specs.declared.Target.{Target}
use Rattle.profile.specs.declared.Limits.{Limits}
use Rattle.profile_check.specs.Check.{Checked}
use Rattle.phase_times.specs.Constants.{constants_of}
use Rattle.search.specs.Choices.{has_zero_limit, ends_at_rest, rests_at_target, towards_target}
use Rattle.search.specs.Stages.{is_found}
use Rattle.phase_times.specs.TimeAllSingleStep.{starts_moving, starts_accelerated}
use Rattle.phase_times.specs.declared.constants.Constants.{Constants}
use Rattle.trees.specs.Tree.{Tree, done, bind, run, AllNo}
use Rattle.trees.specs.InTurn.{EachNo}
use Rattle.candidates.specs.Try.{passes}
use Rattle.candidates.specs.declared.Try.{Try}
use Rattle.candidates.specs.List.{slot, fresh_list}
use Rattle.candidates.specs.declared.Candidates.{Candidates}
use Rattle.position_third_step1.specs.CheckTree.{found}
use Rattle.position_third_step1.specs.TimeAllSingleStep.{single_step_tries, time_all_single_step}
use Rattle.block.specs.Blocks.{duration, no_interval, interval_from, block_of, Answer}
use Rattle.block.specs.Selection.{removal, selected}
use Rattle.block.specs.declared.Interval.{Interval}
use Rattle.refusals.specs.declared.Refusal.TheVariants.{NoProfile}
use Rattle.get_profile.specs.Families.{Search, each_of, first_of}
use Rattle.get_profile.specs.Calls.{itself_order, resting_order, moving_order, two_step_order, calls_of, call_tries}

module _ (start : Start) (target : Target) (k : Constants) where
  -- a resting target: up to the first success, in the direction of m and then in the other
  unfoldable pub resting : Limits → Search
  resting m = first_of (calls_of start target k true m resting_order)

  -- any other target: all families, both directions
  unfoldable pub moving : Limits → Search
  moving m = each_of (calls_of start target k false m moving_order)

  -- with none found, the two-step families
  unfoldable pub two_step : Limits → Search
  two_step m = first_of (calls_of start target k true m two_step_order)

  -- what is tried first: for a resting target in the direction of pf - p0 first; a rest that is its own target tries
  -- one family, once
  unfoldable pub first_search : (ends-at-rest rests-at-target : Bool) → Limits → Search
  first_search true true m c = first_of (calls_of start target k true (towards_target k m) itself_order) c
  first_search true false m c = resting (towards_target k m) c
  first_search false rests-at-target m c = moving m c

  unfoldable pub try_families : Limits → Search
  try_families m = first_of (first_search (ends_at_rest target) (rests_at_target start k) m ∷ two_step m ∷ [])

-- ---- the answer

-- of the single-step path: a plan that starts in motion is blocked from its end on
unfoldable pub after_passing : Start → Profile → Interval
after_passing start q = cond (starts_moving start || starts_accelerated start) (interval_from (duration q)) no_interval

unfoldable pub single_step_answer : Start → Checked → Answer
single_step_answer start d =
    cond d.ok (Ok (block_of d.profile (after_passing start d.profile) no_interval)) (Err NoProfile)

-- the same of the list that the path's search found: its first profile
unfoldable pub single_step_from : Start → Candidates → Answer
single_step_from start c =
    cond (is_found c) (Ok (block_of (slot c 0) (after_passing start (slot c 0)) no_interval)) (Err NoProfile)

-- of all others: selection among the profiles that were accepted
abbrev pub selected_from : Candidates → Answer
selected_from c = selected (slot c) c.current_index

unfoldable pub get_profile_by : (has-zero-limit : Bool) → Profile → Limits → Tree Try Bool Answer
get_profile_by true input m =
    bind
    (time_all_single_step (boundary_from empty_profile input) (start_of input) (target_of input)
    (constants_of (start_of input) (target_of input) m) m)
    (λ d. done (single_step_answer (start_of input) d))
get_profile_by false input m =
    bind
    (try_families (start_of input) (target_of input) (constants_of (start_of input) (target_of input) m) m (fresh_list input))
    (λ c. done (selected_from c))

-- the checks that are made for a move with the start, the target and the durations of this profile, and the answer at
-- their end
unfoldable pub get_profile : Profile → Limits → Tree Try Bool Answer
get_profile input m = get_profile_by (has_zero_limit m) input m

-- the answer, where the check answers
unfoldable pub get_profile_answer : Profile → Limits → Answer
get_profile_answer input m = run passes (get_profile input m)

-- ---- what is said of the tries

-- those of the first search
module _ (start : Start) (target : Target) (k : Constants) where
  abbrev pub first_tries : (ends-at-rest rests-at-target : Bool) → Limits → List Try
  first_tries true true m = call_tries start target k (towards_target k m) itself_order
  first_tries true false m = call_tries start target k (towards_target k m) resting_order
  first_tries false rests-at-target m = call_tries start target k m moving_order

-- all of them, in the order in which they are asked where each is refused
unfoldable pub all_tries : Profile → Limits → List Try
all_tries input m =
    let start = start_of input in
    let target = target_of input in
    let k = constants_of start target m in
    cond (has_zero_limit m) (single_step_tries start target k m)
    (first_tries start target k (ends_at_rest target) (rests_at_target start k) m
    ++ call_tries start target k m two_step_order)

-- the limits of a move as they are, or for the opposite direction
abbrev pub EitherWay : Limits → Limits → Type 0
EitherWay m n = (n ≡ m) ⊎ (n ≡ swapped_limits m)

-- the jerk of a check with the limits n: theirs, or on the single-step path 0
abbrev pub JerkOf : (m n : Limits) → Float → Type 0
JerkOf m n jf = ((has_zero_limit m ≡ false) × (jf ≡ n.j_max)) ⊎ ((has_zero_limit m ≡ true) × (jf ≡ 0ᶠ))

-- a try of a move from this start to this target, with its limits in either direction
pub record TryBetween (start : Start) (target : Target) (m : Limits) (x : Try) : Type 0 where
  pub start_is : x.start ≡ start
  pub target_is : x.target ≡ target
  pub limits_are : EitherWay m x.limits
  pub jerk_is : JerkOf m x.limits x.jf

-- ---- what is said of the answer

-- no try that is asked is accepted
abbrev pub NoneAccepted : Profile → Limits → Type 0
NoneAccepted input m = AllNo passes (get_profile input m)

-- each of all tries is refused
abbrev pub EachRefused : Profile → Limits → Type 0
EachRefused input m = EachNo passes (all_tries input m)

-- what the families find
abbrev pub found_for : Profile → Limits → Candidates
found_for input m =
    found (try_families (start_of input) (target_of input) (constants_of (start_of input) (target_of input) m) m
    (fresh_list input))

-- they are tried, exactly four profiles count at their end, and no removal rule applies
pub record FourStay (input : Profile) (m : Limits) : Type 0 where
  pub by_families : has_zero_limit m ≡ false
  pub four : (found_for input m).current_index ≡ 4
  pub no_rule : removal (slot (found_for input m)) ≡ None
