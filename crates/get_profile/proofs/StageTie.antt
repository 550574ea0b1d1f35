-- The stages of a move are its calls: one search over them finds what the calls find. Assumes nothing.
use mathlib.Core.Path.{◌≡◌, refl, sym, ap, ◌∙◌, fun_ext}
use mathlib.Core.Bool.{Bool, true, false, cond}
use mathlib.Core.List.{List, [], ◌∷◌, ◌++◌, map, append-nil, map-append}
use Rattle.profile.specs.Boundary.{start_of, target_of, empty_profile, boundary_from}
use Rattle.profile.specs.declared.Profile.{Profile}
use Rattle.profile.specs.declared.Start.{Start}
use Rattle.profile.specs.declared.Target.{Target}
use Rattle.profile.specs.declared.Limits.{Limits}
use Rattle.profile_check.specs.Check.{Checked}
use Rattle.phase_times.specs.declared.constants.Constants.{Constants}
use Rattle.trees.specs.Tree.{done, run, bind}
use Rattle.trees.specs.InTurn.{in_turn}
use Rattle.trees.specs.Stages.{in_stages}
use Rattle.trees.specs.Stages as in-trees
use Rattle.trees.proofs.InTurnLaws.{stops_related}
use Rattle.trees.proofs.StageLaws.{bind_same, bind_done, joined, Ends, no_stages_end, guarded_ends, stage_same}
use Rattle.trees.proofs.StageLaws.{stages_append, first_stage, first_stage_pieces, each_stage_pieces}
use Rattle.candidates.specs.Try.{passes}
use Rattle.candidates.specs.declared.Try.{Try}
use Rattle.candidates.specs.List.{stored, added, fresh_list}
use Rattle.candidates.specs.declared.Candidates.{Candidates}
use Rattle.position_third_step1.specs.CheckTree.{CheckTree, found}
use Rattle.position_third_step1.specs.Families.{tries_of}
use Rattle.position_third_step1.specs.TimeAllNoneAcc0Acc1.{none_acc0_acc1_tries}
use Rattle.position_third_step1.specs.TimeAllSingleStep.{single_step_tries, refusal, acceptance, time_all_single_step}
use Rattle.position_third_step1.proofs.FamilyTries.{all_vel_tries_law, none_tries_law, acc0_tries_law, acc1_tries_law}
use Rattle.position_third_step1.proofs.FamilyTries.{acc0_acc1_tries_law}
use Rattle.position_third_step1.proofs.FamilyTries.{none_two_step_tries_law, acc0_two_step_tries_law}
use Rattle.position_third_step1.proofs.FamilyTries.{vel_two_step_tries_law}
use Rattle.position_third_step1.proofs.FamilyTries.{acc1_vel_two_step_tries_law, single_step_tries_law}
use Rattle.position_third_step1.specs.declared.families.Family.{Family}
use Rattle.position_third_step1.specs.declared.families.Family.TheVariants.{AllVel, None, Acc0, Acc1, Acc0Acc1}
use Rattle.position_third_step1.specs.declared.families.Family.TheVariants.{NoneTwoStep, Acc0TwoStep, VelTwoStep}
use Rattle.position_third_step1.specs.declared.families.Family.TheVariants.{Acc1VelTwoStep}
use Rattle.search.specs.Choices.{has_zero_limit, ends_at_rest, rests_at_target, towards_target}
use Rattle.search.specs.Stages.{kind_by, kind_of, limits_for, stage_at, stage_count, stages_from, is_found, stage_tries}
use Rattle.search.specs.Stages.{search_of}
use Rattle.search.specs.Stages.{polynom_family, resting_family, two_step_family, resting_stage, moving_stage}
use Rattle.search.specs.Stages.{two_step_stage}
use Rattle.search.proofs.FoundLaws.{added_found}
use Rattle.search.specs.declared.stages.Kind.{Kind}
use Rattle.search.specs.declared.stages.Kind.TheVariants.{Itself, Resting, Moving}
use Rattle.search.specs.declared.stages.Way.{Way as To}
use Rattle.search.specs.declared.stages.Way.TheVariants.{Given, Swapped, Towards, Away}
use Rattle.search.specs.declared.stages.Stage.{Stage}
use Rattle.get_profile.specs.Families.{Search, unless_found, first_of, each_of}
use Rattle.get_profile.specs.Calls.{FamilyName, all_vel, none_acc0_acc1, acc0_acc1, none_two_step, acc0_two_step}
use Rattle.get_profile.specs.Calls.{vel_two_step, acc1_vel_two_step, Way, given, swapped, limits_of, Call}
use Rattle.get_profile.specs.Calls.{itself_order, resting_order, moving_order, two_step_order}
use Rattle.get_profile.specs.Calls.{stops_of, call_tries_of, call_of, calls_of}
use Rattle.get_profile.specs.GetProfile.{resting, moving, two_step, first_search, try_families}
use Rattle.get_profile.specs.GetProfile.{single_step_answer, single_step_from}

-- ---- the stages of calls

-- time_all_none_acc0_acc1 is three
abbrev families_of : FamilyName → List Family
families_of all_vel = AllVel ∷ []
families_of none_acc0_acc1 = None ∷ Acc0 ∷ Acc1 ∷ []
families_of acc0_acc1 = Acc0Acc1 ∷ []
families_of none_two_step = NoneTwoStep ∷ []
families_of acc0_two_step = Acc0TwoStep ∷ []
families_of vel_two_step = VelTwoStep ∷ []
families_of acc1_vel_two_step = Acc1VelTwoStep ∷ []

-- with the limits of the move as given, and towards its target
abbrev from_given : Way → To
from_given given = Given
from_given swapped = Swapped

abbrev from_towards : Way → To
from_towards given = Towards
from_towards swapped = Away

-- a search up to the first success is guarded at every stage
abbrev stage_for : (return-after-found : Bool) → FamilyName → To → Family → Stage
stage_for found name way f = record { family = f; way = way; guarded = found; stops = stops_of found name }

abbrev stages_of_call : (return-after-found : Bool) → FamilyName → To → List Stage
stages_of_call found name way = map (stage_for found name way) (families_of name)

abbrev stages_of : (return-after-found : Bool) → (Way → To) → List Call → List Stage
stages_of found to [] = []
stages_of found to (x ∷ xs) = stages_of_call found x.0 (to x.1) ++ stages_of found to xs

-- those of each kind are its calls', and with none found those of the two-step families
pub itself_stages : stages_from Itself 0 (stage_count Itself)
    ≡ stages_of true from_towards itself_order ++ stages_of true from_given two_step_order
unfolding stages_from stage_count stage_at polynom_family two_step_family two_step_stage
itself_stages = refl

pub resting_stages : stages_from Resting 0 (stage_count Resting)
    ≡ stages_of true from_towards resting_order ++ stages_of true from_given two_step_order
unfolding stages_from stage_count stage_at polynom_family two_step_family two_step_stage resting_family resting_stage
resting_stages = refl

pub moving_stages : stages_from Moving 0 (stage_count Moving)
    ≡ stages_of false from_given moving_order ++ stages_of true from_given two_step_order
unfolding stages_from stage_count stage_at polynom_family two_step_family two_step_stage moving_stage
moving_stages = refl

-- ---- a call is cut into the stages of its families
abbrev in_turns : List (in-trees.Stage Try) → Candidates → CheckTree
in_turns xs c = in_stages added is_found xs c

module _ (start : Start) (target : Target) (k : Constants) (m : Limits) (way : To) where
  abbrev tries_with : Family → List Try
  tries_with f = tries_of start target k (limits_for k m way) f

  polynoms : call_tries_of start target k none_acc0_acc1 (limits_for k m way)
      ≡ joined (map tries_with (families_of none_acc0_acc1))
  unfolding none_acc0_acc1_tries joined
  polynoms =
      let n = limits_for k m way in
      rw (none_tries_law start target k n, acc0_tries_law start target k n, acc1_tries_law start target k n, append-nil)

  module _ (zs : List (in-trees.Stage Try)) (c : Candidates) where
    abbrev before : (guarded stops : Bool) → List Try → CheckTree
    before guarded stops xs = in_turns (record { guarded = guarded; stops = stops; questions = xs } ∷ zs) c

    cut_call : (found : Bool) → (found ≡ true → Ends added is_found (in_turns zs)) → (name : FamilyName)
        → before found (stops_of found name) (call_tries_of start target k name (limits_for k m way))
        ≡ in_turns (map (stage_tries start target k m) (stages_of_call found name way) ++ zs) c
    cut_call found ends all_vel = ap (before found true) (sym (all_vel_tries_law start target k _))
    cut_call true ends none_acc0_acc1 =
        ap (before true true) polynoms ∙ first_stage_pieces added is_found added_found _ zs (ends refl) c
    cut_call false ends none_acc0_acc1 =
        ap (before false false) polynoms ∙ each_stage_pieces added is_found _ zs c
    cut_call found ends acc0_acc1 = ap (before found found) (sym (acc0_acc1_tries_law start target k _))
    cut_call found ends none_two_step = ap (before found true) (sym (none_two_step_tries_law start target k _))
    cut_call found ends acc0_two_step = ap (before found true) (sym (acc0_two_step_tries_law start target k _))
    cut_call found ends vel_two_step = ap (before found true) (sym (vel_two_step_tries_law start target k _))
    cut_call found ends acc1_vel_two_step = ap (before found true) (sym (acc1_vel_two_step_tries_law start target k _))

-- ---- a search over them, from calls with the limits n
module _ (start : Start) (target : Target) (k : Constants) (m n : Limits) (to : Way → To)
    (same-limits : (w : Way) → limits_for k m (to w) ≡ limits_of w n) where
  -- a call as one stage
  abbrev whole : (return-after-found : Bool) → Call → in-trees.Stage Try
  whole found x =
      record {
        guarded = found;
        stops = stops_of found x.0;
        questions = call_tries_of start target k x.0 (limits_of x.1 n);
      }

  -- ---- calls one after the other are stages
  first_whole : (order : List Call) (c : Candidates)
      → unless_found (is_found c) (first_of (calls_of start target k true n order)) c ≡ in_turns (map (whole true) order) c
  unfolding first_of unless_found in_stages
  first_whole [] c = by (is_found c)
    where
      by : (b : Bool) → unless_found b (first_of []) c ≡ done c
      by true = refl
      by false = refl
  first_whole (x ∷ xs) c = by (first_whole xs) (is_found c)
    where
      by : ((d : Candidates)
          → unless_found (is_found d) (first_of (calls_of start target k true n xs)) d ≡ in_turns (map (whole true) xs) d)
          → (b : Bool) → unless_found b (first_of (calls_of start target k true n (x ∷ xs))) c
          ≡ cond b (done c) (bind (call_of start target k true n x c) (in_turns (map (whole true) xs)))
      by h true = refl
      by h false = bind_same (call_of start target k true n x c) h

  each_whole : (order : List Call) (c : Candidates)
      → each_of (calls_of start target k false n order) c ≡ in_turns (map (whole false) order) c
  unfolding each_of in_stages
  each_whole [] c = refl
  each_whole (x ∷ xs) c = bind_same (call_of start target k false n x c) (each_whole xs)

  -- where something is found, no call of a search up to the first success is made
  whole_ends : (found : Bool) (order : List Call) → found ≡ true
      → Ends added is_found (in_turns (map (whole found) order))
  whole_ends found [] e = no_stages_end added is_found
  whole_ends found (x ∷ xs) e = guarded_ends added is_found (whole found x) (map (whole found) xs) e

  cut : (found : Bool) (order : List Call) (c : Candidates)
      → in_turns (map (whole found) order) c ≡ search_of start target k m (stages_of found to order) c
  cut found [] c = refl
  cut found (x ∷ xs) c =
      let way = to x.1 in
      let rest = map (stage_tries start target k m) (stages_of found to xs) in
      stage_same added is_found (whole found x) (map (whole found) xs) rest (cut found xs) c
      ∙ ap (λ (l : Limits). before start target k m way rest c found (stops_of found x.0)
      (call_tries_of start target k x.0 l)) (sym (same-limits x.1))
      ∙ cut_call start target k m way rest c found (λ e d h. sym (cut found xs d) ∙ whole_ends found xs e d h) x.0
      ∙ ap (λ (zs : List (in-trees.Stage Try)). in_turns zs c)
      (sym (map-append (stage_tries start target k m) (stages_of_call found x.0 way) (stages_of found to xs)))

  pub first_stages : (order : List Call) (c : Candidates)
      → unless_found (is_found c) (first_of (calls_of start target k true n order)) c
      ≡ search_of start target k m (stages_of true to order) c
  first_stages order c = first_whole order c ∙ cut true order c

  pub each_stages : (order : List Call) (c : Candidates)
      → each_of (calls_of start target k false n order) c ≡ search_of start target k m (stages_of false to order) c
  each_stages order c = each_whole order c ∙ cut false order c

-- ---- a move without a zero limit
last_first : (f : Search) (c : Candidates) → first_of (f ∷ []) c ≡ f c
unfolding first_of unless_found
last_first f c = bind_same (f c) (λ d. ended d (is_found d)) ∙ bind_done (f c)
  where
    ended : (d : Candidates) (b : Bool) → unless_found b (first_of []) d ≡ done d
    ended d true = refl
    ended d false = refl

module _ (start : Start) (target : Target) (k : Constants) (m : Limits) where
  given_limits : (w : Way) → limits_for k m (from_given w) ≡ limits_of w m
  unfolding limits_for
  given_limits given = refl
  given_limits swapped = refl

  towards_limits : (w : Way) → limits_for k m (from_towards w) ≡ limits_of w (towards_target k m)
  unfolding limits_for
  towards_limits given = refl
  towards_limits swapped = refl

  abbrev two_step_stages : List Stage
  two_step_stages = stages_of true from_given two_step_order

  -- a search, and with none found the two-step families
  then_two_step : (f : Search) (xs : List Stage) (c : Candidates) → f c ≡ search_of start target k m xs c
      → first_of (f ∷ two_step start target k m ∷ []) c ≡ search_of start target k m (xs ++ two_step_stages) c
  unfolding first_of two_step
  then_two_step f xs c e =
      let tried = map (stage_tries start target k m) xs in
      let left = map (stage_tries start target k m) two_step_stages in
      bind_same (f c) (λ d. ap (λ (g : Search). unless_found (is_found d) g d)
      (fun_ext (last_first (two_step start target k m)))
      ∙ first_stages start target k m m from_given given_limits two_step_order d)
      ∙ ap (λ (t : CheckTree). bind t (in_turns left)) e
      ∙ sym (stages_append added is_found left (guarded_ends added is_found _ _ refl) tried c)
      ∙ ap (λ (zs : List (in-trees.Stage Try)). in_turns zs c)
      (sym (map-append (stage_tries start target k m) xs two_step_stages))

  module _ (c : Candidates) (fresh : is_found c ≡ false) where
    first_from : (n : Limits) (to : Way → To) → ((w : Way) → limits_for k m (to w) ≡ limits_of w n) → (order : List Call)
        → first_of (calls_of start target k true n order) c ≡ search_of start target k m (stages_of true to order) c
    unfolding unless_found
    first_from n to same order =
        ap (λ (b : Bool). unless_found b (first_of (calls_of start target k true n order)) c) (sym fresh)
        ∙ first_stages start target k m n to same order c

    abbrev searched : Kind → CheckTree
    searched kind = search_of start target k m (stages_from kind 0 (stage_count kind)) c

    by_kind : (at_rest at_Target : Bool)
        → searched (kind_by false at_rest at_Target)
        ≡ first_of (first_search start target k at_rest at_Target m ∷ two_step start target k m ∷ []) c
    unfolding kind_by first_search resting moving
    by_kind true true =
        rw itself_stages (sym (then_two_step _ (stages_of true from_towards itself_order) c
        (first_from (towards_target k m) from_towards towards_limits itself_order)))
    by_kind true false =
        rw resting_stages (sym (then_two_step _ (stages_of true from_towards resting_order) c
        (first_from (towards_target k m) from_towards towards_limits resting_order)))
    by_kind false at_Target =
        rw moving_stages (sym (then_two_step _ (stages_of false from_given moving_order) c
        (each_stages start target k m m from_given given_limits moving_order c)))

    pub stages_are_calls : has_zero_limit m ≡ false
        → searched (kind_of start target k m) ≡ try_families start target k m c
    unfolding kind_of try_families
    stages_are_calls z = rw z (by_kind (ends_at_rest target) (rests_at_target start k))

-- ---- a move with one
module _ (input : Profile) (k : Constants) (m : Limits) where
  abbrev start : Start
  start = start_of input

  abbrev target : Target
  target = target_of input

  abbrev boundary : Profile
  boundary = boundary_from empty_profile input

  -- the list found and the profile answered give the same answer: at first, and after the same success
  abbrev Alike : Candidates → Checked → Type 0
  Alike c d = single_step_from start c ≡ single_step_answer start d

  alike_at_first : Alike (fresh_list input) (refusal boundary)
  unfolding single_step_from single_step_answer fresh_list
  alike_at_first = refl

  alike_after : (x : Try) → Alike (added (fresh_list input) x) (acceptance (refusal boundary) x)
  unfolding single_step_from single_step_answer fresh_list added stored acceptance
  alike_after x = refl

  one_stage : (xs : List Try)
      → in_turns (first_stage xs ∷ []) (fresh_list input) ≡ in_turn added true (fresh_list input) xs
  unfolding in_stages fresh_list
  one_stage xs = bind_done (in_turn added true (fresh_list input) xs)

  pub stage_is_single_step : has_zero_limit m ≡ true
      → let kind = kind_of start target k m in
      single_step_from start (found (search_of start target k m (stages_from kind 0 (stage_count kind)) (fresh_list input)))
      ≡ single_step_answer start (run passes (time_all_single_step boundary start target k m))
  unfolding kind_of kind_by stages_from stage_count stage_at limits_for
  stage_is_single_step z =
      rw (z, single_step_tries_law start target k m, one_stage)
      (stops_related passes added acceptance Alike (fresh_list input) (refusal boundary) alike_at_first alike_after
      (single_step_tries start target k m))
