-- The cases of a search and of an answer, as the code meets them. Assumes nothing.
use Prim.Native.Nat.{ℕ, ◌-◌}
use mathlib.Core.Path.{◌≡◌, refl, sym, ap, ◌∙◌}
use mathlib.Core.Bool.{Bool, true, false, not, false≢true}
use native.Mathlib.Nat.{sub-zero}
use Rattle.profile.specs.Boundary.{start_of, target_of, empty_profile, boundary_from}
use Rattle.profile.specs.declared.Profile.{Profile}
use Rattle.profile.specs.declared.Start.{Start}
use Rattle.profile.specs.declared.Target.{Target}
use Rattle.profile.specs.declared.Limits.{Limits}
use Rattle.phase_times.specs.Constants.{constants_of}
use Rattle.phase_times.specs.declared.constants.Constants.{Constants}
use Rattle.trees.specs.Tree.{done, run}
use Rattle.trees.proofs.TreeLaws.{run_bind}
use Rattle.candidates.specs.Try.{passes}
use Rattle.candidates.specs.List.{slot, fresh_list}
use Rattle.candidates.specs.declared.Candidates.{Candidates}
use Rattle.position_third_step1.specs.CheckTree.{CheckTree, found}
use Rattle.position_third_step1.specs.TimeAllSingleStep.{time_all_single_step}
use Rattle.search.specs.Choices.{has_zero_limit, ends_at_rest, rests_at_target}
use Rattle.search.specs.Stages.{kind_of, stage_count, stages_from, is_found, search_of}
use Rattle.search.specs.declared.stages.Kind.{Kind}
use Rattle.block.specs.Selection.{selected}
use Rattle.block.specs.Blocks.{Answer}
use Rattle.get_profile.specs.GetProfile.{moving, first_search, try_families, single_step_answer}
use Rattle.get_profile.specs.GetProfile.{single_step_from, selected_from, get_profile_by, get_profile}
use Rattle.get_profile.specs.GetProfile.{get_profile_answer}
use Rattle.get_profile.proofs.StageTie.{stages_are_calls, stage_is_single_step}

-- at_rest is what is found of the target
pub to_motion : (start : Start) (target : Target) (k : Constants) (m : Limits) (c : Candidates) {at_rest : Bool}
    → at_rest ≡ ends_at_rest target → not at_rest ≡ true → {r : Candidates} → r ≡ found (moving start target k m c)
    → r ≡ found (first_search start target k (ends_at_rest target) (rests_at_target start k) m c)
unfolding first_search
to_motion start target k m c {at_rest} er h e =
    e ∙ ap (λ (b : Bool). found (first_search start target k b (rests_at_target start k) m c)) (not_true at_rest h) ∙ rw er
  where
    not_true : (b : Bool) → not b ≡ true → false ≡ b
    not_true false h = refl
    not_true true h = absurd (false≢true h)

-- ---- the answer by the limits
module _ (input : Profile) (m : Limits) where
  abbrev k : Constants
  k = constants_of (start_of input) (target_of input) m

  answer_by : {zero : Bool} → has_zero_limit m ≡ zero → get_profile_answer input m ≡ run passes (get_profile_by zero input m)
  unfolding get_profile_answer get_profile
  answer_by h = ap (λ (b : Bool). run passes (get_profile_by b input m)) h

  pub single_step_is : has_zero_limit m ≡ true
      → get_profile_answer input m ≡ single_step_answer (start_of input)
      (run passes (time_all_single_step (boundary_from empty_profile input) (start_of input) (target_of input) k m))
  unfolding get_profile_by run
  single_step_is h =
      answer_by h ∙ run_bind passes (time_all_single_step (boundary_from empty_profile input) (start_of input)
      (target_of input) k m) (λ d. done (single_step_answer (start_of input) d))

  pub searched_is : has_zero_limit m ≡ false
      → get_profile_answer input m ≡ selected_from (found (try_families (start_of input) (target_of input) k m
      (fresh_list input)))
  unfolding get_profile_by run
  searched_is h =
      answer_by h ∙ run_bind passes (try_families (start_of input) (target_of input) k m (fresh_list input))
      (λ c. done (selected_from c))

none_yet : (input : Profile) → is_found (fresh_list input) ≡ false
unfolding fresh_list
none_yet input = refl

-- ---- what the code answers
module _ (input : Profile) (m : Limits) where
  -- the list that the search over the first n stages of a kind leaves
  abbrev searched : Kind → ℕ → Candidates
  searched kind n =
      found (search_of (start_of input) (target_of input) (k input m) m (stages_from kind 0 n) (fresh_list input))

  -- and that over all stages of the move
  abbrev pub searched_all : Candidates
  searched_all =
      let kind = kind_of (start_of input) (target_of input) (k input m) m in
      searched kind (stage_count kind)

  pub over_all : {kind : Kind} → kind ≡ kind_of (start_of input) (target_of input) (k input m) m
      → {n : ℕ} → n ≡ stage_count kind → {c : Candidates} → c ≡ searched kind (n - 0) → c ≡ searched_all
  over_all ek en ec = ec ∙ rw (sub-zero, en, ek)

  -- zero is what it finds of the limits
  module _ {zero : Bool} (ez : zero ≡ has_zero_limit m) {c : Candidates} (ec : c ≡ searched_all) {r : Answer} where
    pub single_step_answers : zero ≡ true → r ≡ single_step_from (start_of input) c → r ≡ get_profile_answer input m
    single_step_answers h er =
        er ∙ ap (single_step_from (start_of input)) ec ∙ stage_is_single_step input (k input m) m (sym ez ∙ h)
        ∙ sym (single_step_is input m (sym ez ∙ h))

    pub selection_answers : zero ≡ false → r ≡ selected (slot c) c.current_index → r ≡ get_profile_answer input m
    selection_answers h er =
        er ∙ ap selected_from ec
        ∙ ap (λ (t : CheckTree). selected_from (found t))
        (stages_are_calls (start_of input) (target_of input) (k input m) m (fresh_list input) (none_yet input)
        (sym ez ∙ h))
        ∙ sym (searched_is input m (sym ez ∙ h))
