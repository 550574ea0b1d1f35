-- Exactly when `get_profile` answers 4 and 5. Assumes nothing.
use Prim.Native.Nat.{ℕ, zero}
use mathlib.Core.Path.{◌≡◌, refl, sym, ◌∙◌, subst}
use mathlib.Core.Bool.{Bool, true, false, cond, ◌&&◌, true≢false, false≢true}
use Rattle.std.proofs.Common.{Option, Some, None, is_none, Ok, Err}
use mathlib.Core.Logic.Iff
use mathlib.Core.Logic.{◌↔◌}
use native.Mathlib.Omega.{arith}
use borrow.Author.Tests.{eqb-true, eq-eqb, ne_eqb, le-ltb}
use lib.Dec.{eqb, ltb}
use Rattle.profile.specs.Boundary.{start_of, target_of, empty_profile, boundary_from}
use Rattle.profile.specs.declared.Profile.{Profile}
use Rattle.profile.specs.declared.Start.{Start}
use Rattle.profile.specs.declared.Target.{Target}
use Rattle.profile.specs.declared.Limits.{Limits}
use Rattle.profile_check.specs.Check.{Checked}
use Rattle.phase_times.specs.Constants.{constants_of}
use Rattle.search.specs.Choices.{has_zero_limit, ends_at_rest, rests_at_target, towards_target}
use Rattle.phase_times.specs.declared.constants.Constants.{Constants}
use Rattle.trees.specs.Tree.{Tree, done, bind, run, AllNo}
use Rattle.trees.proofs.TreeLaws.{all_no_bind, all_no_questions}
use Rattle.candidates.specs.Try.{passes}
use Rattle.candidates.specs.declared.Try.{Try}
use Rattle.candidates.specs.List.{slot, fresh_list}
use Rattle.position_third_step1.specs.TimeAllSingleStep.{time_all_single_step}
use Rattle.position_third_step1.proofs.FamilyLaws.{single_step_none}
use Rattle.block.specs.Selection.{removal, selected}
use Rattle.block.specs.Blocks.{Answer}
use Rattle.block.specs.declared.Block.{Block}
use Rattle.refusals.specs.declared.Refusal.TheVariants.{NoProfile}
use Rattle.refusals.specs.Numbers.{number_of}
use Rattle.block.proofs.RefusalLaws.{selected_refusal}
use Rattle.get_profile.specs.Calls.{itself_order, resting_order, moving_order, two_step_order}
use Rattle.get_profile.specs.GetProfile.{resting, moving, two_step, first_search, try_families}
use Rattle.get_profile.specs.GetProfile.{single_step_answer}
use Rattle.get_profile.specs.GetProfile.{get_profile_by, get_profile, get_profile_answer, NoneAccepted, EachRefused}
use Rattle.get_profile.specs.GetProfile.{found_for, FourStay}
use Rattle.get_profile.proofs.FamiliesLaws.{none, also, NoneFound, first_none_found, each_none_found}
use Rattle.get_profile.proofs.CallLaws.{calls_none_found}
use Rattle.get_profile.proofs.AskLaws.{nothing_counts, tree_is, asked_in_order}
use Rattle.get_profile.proofs.SearchLaws.{single_step_is, searched_is}

-- ---- selection, and the single-step path

-- by the three conditions of `refusal_of`
four_by : (a b c : Bool) → (cond a 4 (cond b 7 (cond c 5 zero)) ≡ 4) ↔ (a ≡ true)
four_by true b c = (λ e. refl, λ e. refl)
four_by false true c = (λ e. absurd (let z : ⊥ = omega arith in z), λ e. absurd (false≢true e))
four_by false false true = (λ e. absurd (let z : ⊥ = omega arith in z), λ e. absurd (false≢true e))
four_by false false false = (λ e. absurd (let z : ⊥ = omega arith in z), λ e. absurd (false≢true e))

five_by : (a b c : Bool) → (cond a 4 (cond b 7 (cond c 5 zero)) ≡ 5) ↔ ((a ≡ false) × (b ≡ false) × (c ≡ true))
five_by true b c = (λ e. absurd (let z : ⊥ = omega arith in z), λ e. absurd (true≢false e.0))
five_by false true c = (λ e. absurd (let z : ⊥ = omega arith in z), λ e. absurd (true≢false e.1))
five_by false false true = (λ e. (refl, refl, refl), λ e. refl)
five_by false false false = (λ e. absurd (let z : ⊥ = omega arith in z), λ e. absurd (false≢true e.2))

both : (a b : Bool) → (a && b) ≡ true → (a ≡ true) × (b ≡ true)
both true true e = (refl, refl)
both true false e = absurd (false≢true e)
both false b e = absurd (false≢true e)

none_goes : (k : Option ℕ) → is_none k ≡ true → k ≡ None
none_goes None e = refl
none_goes (Some index) e = absurd (false≢true e)

module _ (s : ℕ → Profile) (n : ℕ) where
  -- 4 for count 0, and 5 for count 4 where no removal rule applies
  selected_4 : (number_of (selected s n) ≡ 4) ↔ (n ≡ 0)
  selected_4 =
      let k = four_by (eqb n 0) (ltb 5 n) (eqb n 4 && is_none (removal s)) in
      (λ h. eqb-true n 0 (k.0 (sym (selected_refusal s n) ∙ h)), λ e. selected_refusal s n ∙ k.1 (eq-eqb n 0 e))

  selected_5 : (number_of (selected s n) ≡ 5) ↔ ((n ≡ 4) × (removal s ≡ None))
  selected_5 =
      let k = five_by (eqb n 0) (ltb 5 n) (eqb n 4 && is_none (removal s)) in (
        λ h. let w = both (eqb n 4) (is_none (removal s)) (k.0 (sym (selected_refusal s n) ∙ h)).2 in
            (eqb-true n 4 w.0, none_goes (removal s) w.1),
        λ z. selected_refusal s n ∙ k.1 (
          ne_eqb n 0 (λ e. omega (arith, z.0)),
          le-ltb 5 n (omega (arith, z.0)),
          rw (eq-eqb n 4 z.0, z.1) refl,
        ),
      )

single_step_4 : (start : Start) (d : Checked) → (number_of (single_step_answer start d) ≡ 4) ↔ (d.ok ≡ false)
unfolding single_step_answer
single_step_4 start d = go d.ok _
  where
    go : (ok : Bool) (b : Block) → (number_of (cond ok (Ok b) (Err NoProfile)) ≡ 4) ↔ (ok ≡ false)
    go true b = (λ e. absurd (let z : ⊥ = omega arith in z), λ e. absurd (true≢false e))
    go false b = (λ e. refl, λ e. refl)

single_step_not_5 : (start : Start) (d : Checked) → number_of (single_step_answer start d) ≡ 5 → ⊥
unfolding single_step_answer
single_step_not_5 start d = go d.ok _
  where
    go : (ok : Bool) (b : Block) → number_of (cond ok (Ok b) (Err NoProfile)) ≡ 5 → ⊥
    go true b = (λ e. omega arith)
    go false b = (λ e. omega arith)

-- ---- the families
module _ (start : Start) (target : Target) (k : Constants) where
  search_none_found : (at_rest at_Target : Bool) (m : Limits)
      → NoneFound (first_search start target k at_rest at_Target m)
  unfolding first_search resting moving
  search_none_found true true m =
      first_none_found (calls_none_found start target k true (towards_target k m) itself_order)
  search_none_found true false m =
      first_none_found (calls_none_found start target k true (towards_target k m) resting_order)
  search_none_found false at_Target m = each_none_found (calls_none_found start target k false m moving_order)

  two_step_none_found : (m : Limits) → NoneFound (two_step start target k m)
  unfolding two_step
  two_step_none_found m = first_none_found (calls_none_found start target k true m two_step_order)

  families_none_found : (m : Limits) → NoneFound (try_families start target k m)
  unfolding try_families
  families_none_found m =
      first_none_found (also (search_none_found (ends_at_rest target) (rests_at_target start k) m)
      (also (two_step_none_found m) none))

-- ---- every answer
end_all_no : {S : Type 0} (t : Tree Try Bool S) (f : S → Answer)
    → AllNo passes (bind t (λ d. done (f d))) ↔ AllNo passes t
end_all_no t f = let e = all_no_bind passes t (λ d. done (f d)) in (λ h. (e.0 h).0, λ h. e.1 (h, tt))

module _ (input : Profile) (m : Limits) where
  abbrev k : Constants
  k = constants_of (start_of input) (target_of input) m

  abbrev path : Tree Try Bool Checked
  path = time_all_single_step (boundary_from empty_profile input) (start_of input) (target_of input) k m

  none_accepted_by : {zero-limit : Bool} → has_zero_limit m ≡ zero-limit
      → AllNo passes (get_profile_by zero-limit input m) ↔ NoneAccepted input m
  none_accepted_by e =
      (λ h. subst (AllNo passes) (sym (tree_is input m e)) h, λ h. subst (AllNo passes) (tree_is input m e) h)

  -- 4 exactly where no try that is asked is accepted
  pub refused_4 : (number_of (get_profile_answer input m) ≡ 4) ↔ NoneAccepted input m
  unfolding get_profile_by
  refused_4 = go (has_zero_limit m) refl
    where
      go : (zero-limit : Bool) → has_zero_limit m ≡ zero-limit
          → (number_of (get_profile_answer input m) ≡ 4) ↔ NoneAccepted input m
      go true e =
          rw (single_step_is input m e)
          (Iff.trans (single_step_4 (start_of input) (run passes path))
          (Iff.trans (single_step_none (boundary_from empty_profile input) (start_of input) (target_of input) k m)
          (Iff.trans (Iff.symm (end_all_no path _)) (none_accepted_by e))))
      go false e =
          let f = families_none_found (start_of input) (target_of input) k m (fresh_list input) in
          rw (searched_is input m e)
          (Iff.trans (selected_4 (slot (found_for input m)) (found_for input m).current_index)
          (Iff.trans (λ h. (f.0 h).1, λ h. f.1 (nothing_counts input, h))
          (Iff.trans (Iff.symm (end_all_no _ _)) (none_accepted_by e))))

  -- 5 exactly where the families are tried, four profiles count and no removal rule applies
  pub refused_5 : (number_of (get_profile_answer input m) ≡ 5) ↔ FourStay input m
  refused_5 = go (has_zero_limit m) refl
    where
      go : (zero-limit : Bool) → has_zero_limit m ≡ zero-limit
          → (number_of (get_profile_answer input m) ≡ 5) ↔ FourStay input m
      go true e =
          rw (single_step_is input m e) (
            λ h. absurd (single_step_not_5 (start_of input) (run passes path) h),
            λ h. absurd (true≢false (sym e ∙ h.by_families)),
          )
      go false e =
          let f = selected_5 (slot (found_for input m)) (found_for input m).current_index in
          rw (searched_is input m e) (
            λ h. record { by_families = e; four = (f.0 h).0; no_rule = (f.0 h).1 },
            λ h. f.1 (h.four, h.no_rule),
          )

  -- which is where each of all tries is refused
  pub refused_4_each : (number_of (get_profile_answer input m) ≡ 4) ↔ EachRefused input m
  refused_4_each = rw (← asked_in_order input m) (Iff.trans refused_4 (all_no_questions passes (get_profile input m)))
