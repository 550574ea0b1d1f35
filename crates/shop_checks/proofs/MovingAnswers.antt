-- The answer to a move whose target is in motion, from what is found for it. Assumes nothing.
use Prim.Native.Nat.{◌<◌}
use mathlib.Core.Path.{◌≡◌, refl, sym, ap, ◌∙◌}
use mathlib.Core.Bool.{false}
use mathlib.Core.List.{List, ◌++◌}
use lib.Ieee.{Float}
use Rattle.profile.specs.Boundary.{with_boundary, empty_profile}
use Rattle.profile.specs.declared.Start.{Start}
use Rattle.profile.specs.declared.Target.{Target}
use Rattle.profile.specs.declared.Limits.{Limits}
use Rattle.profile.specs.declared.ReachedLimits.TheVariants.{None, Acc0}
use Rattle.phase_times.specs.Constants.{constants_of}
use Rattle.search.specs.Choices.{has_zero_limit, ends_at_rest}
use Rattle.phase_times.specs.declared.constants.Constants.{Constants}
use Rattle.candidates.specs.declared.Try.{Try}
use Rattle.candidates.specs.List.{fresh_list}
use Rattle.candidates.specs.declared.Candidates.{Candidates}
use Rattle.position_third_step1.specs.CheckTree.{found, tries, try_of}
use Rattle.position_third_step1.specs.Slots.{held}
use Rattle.position_third_step1.specs.TimeAllNoneAcc0Acc1.{none_shared, acc0_shared, none_times, acc0_times, root_slots}
use Rattle.get_profile.specs.GetProfile.{moving, try_families, selected_from, get_profile_answer}
use Rattle.get_profile.proofs.FamiliesLaws.{first_finds}
use Rattle.get_profile.proofs.SearchLaws.{to_motion, searched_is}
use Rattle.planner.specs.Answers.{input_of}
use Rattle.planner.specs.declared.Move.{Move}

-- the tries that a polynomial would have with these roots
module _ (start : Start) (target : Target) (k : Constants) (m : Limits) where
  abbrev pub none_with : (roots : List Float) → List Try
  none_with roots =
      let s = none_shared start target k m in
      held (try_of start target m None) (root_slots s.range (none_times start target k m s) roots)

  abbrev pub acc0_with : (roots : List Float) → List Try
  acc0_with roots =
      let s = acc0_shared start target k m in
      held (try_of start target m Acc0) (root_slots s.range (acc0_times start target k m s) roots)

-- what a polynomial's tries find, where its roots are known
pub by_roots : (made : List Float → List Try) (c : Candidates) (xs : List Try) {ts roots : List Float} {d : Candidates}
    → ts ≡ roots → found (tries false c (made roots ++ xs)) ≡ d → found (tries false c (made ts ++ xs)) ≡ d
by_roots made c xs e h = ap (λ (l : List Float). found (tries false c (made l ++ xs))) e ∙ h

-- selection among what all families in both directions find
pub moving_answer : (x : Move) {c : Candidates} → has_zero_limit x.limits ≡ false → ends_at_rest x.target ≡ false
    → c ≡ found (moving x.start x.target (constants_of x.start x.target x.limits) x.limits
    (fresh_list (input_of x)))
    → 0 < c.current_index
    → get_profile_answer (input_of x) x.limits ≡ selected_from c
unfolding try_families with_boundary empty_profile
moving_answer x z r e l =
    searched_is (input_of x) x.limits z
    ∙ ap selected_from (sym (first_finds _ _ _ (to_motion x.start x.target _ x.limits _ (sym r) refl e) l))
