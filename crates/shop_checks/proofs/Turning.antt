-- The move `turning`: what each family finds, by computation, and so its refusal. Assumes nothing.
use mathlib.Core.Path.{◌≡◌, refl, sym, ◌∙◌}
use mathlib.Core.Bool.{false}
use mathlib.Core.List.{List, [], ◌∷◌, ◌++◌}
use lib.Dec.{lit<}
use lib.Ieee.{binary64, of_bits, add, sub, mul, div, neg, lt, le, eq, is_nan}
use Rattle.doubles.specs.Constants.{0ᶠ}
use Rattle.profile.specs.declared.Start.{Start}
use Rattle.profile.specs.declared.Target.{Target}
use Rattle.profile.specs.declared.Limits.{Limits}
use Rattle.profile.specs.declared.ReachedLimits.TheVariants.{None}
use Rattle.roots.specs.List.{inserted, placed, sorted_from, ascending_of, roots_of}
use Rattle.phase_times.specs.declared.constants.Constants.{Constants}
use Rattle.candidates.specs.Try.{passes, profile_of}
use Rattle.candidates.specs.declared.Try.{Try}
use Rattle.candidates.specs.declared.Candidates.{Candidates}
use Rattle.position_third_step1.specs.CheckTree.{only_if, found, tries, try_of}
use Rattle.position_third_step1.specs.Slots.{always, held, numbers}
use Rattle.position_third_step1.specs.TimeAllVel.{all_vel_shared, all_vel_tries, time_all_vel}
use Rattle.position_third_step1.specs.TimeAcc0Acc1.{acc0_acc1_shared, acc0_acc1_slots, acc0_acc1_tries, time_acc0_acc1}
use Rattle.position_third_step1.specs.TimeAllNoneAcc0Acc1.{roots_if, none_shared, acc0_shared, acc1_shared, root_slots}
use Rattle.position_third_step1.specs.TimeAllNoneAcc0Acc1.{none_tries, acc0_tries, acc1_tries, none_acc0_acc1_tries}
use Rattle.position_third_step1.specs.TimeAllNoneAcc0Acc1.{time_all_none_acc0_acc1}
use Rattle.get_profile.specs.GetProfile.{moving, selected_from}
use Rattle.get_profile.proofs.FamiliesLaws.{each_on, last_of_each}
use Rattle.planner.specs.Answers.{finite_start, finite_target, finite_limits, finite_move, wrong_sign, wrong_duration}
use Rattle.planner.specs.Answers.{answer_of, input_of}
use Rattle.shop_checks.specs.WorkedMoves.{turning}
use Rattle.shop_checks.proofs.MovingAnswers.{none_with, acc0_with, by_roots, moving_answer}
use Rattle.doubles.specs.Functions.{absᶠ, minᶠ, maxᶠ}
use Rattle.profile.specs.Boundary.{with_boundary, empty_profile}
use Rattle.profile.specs.Limits.{swapped_limits, direction_of, bounds_of}
use Rattle.profile_rows.specs.Rows.{sums, jerk_if, jerks, row_after, stored_if, outer_row, middle_row, rows_of}
use Rattle.profile_check.specs.Check.{times_pass, phases_pass, sum_passes, zero_passes, zeros_pass, end_passes}
use Rattle.profile_check.specs.Check.{rows_pass}
use Rattle.profile_check.specs.Check.{accepted, filled}
use Rattle.elementary.specs.Functions.{sqrt_of, cbrt_of, third_angle_cosine_of, third_angle_sine_of}
use Rattle.roots.specs.Quartic.{with_quadratic, larger, largest_zero, factors_of, roots_by_factors, quartic_of}
use Rattle.roots.specs.Resolvent.{clamped_ratio, three_zeros, cube_root, quotient, few_zeros, resolvent_of}
use Rattle.trees.specs.InTurn.{answered, in_turn}
use Rattle.trees.specs.Tree.{run}
use Rattle.candidates.specs.List.{stored, added, fresh_list}
use Rattle.phase_times.specs.Constants.{constants_of}
use Rattle.search.specs.Choices.{has_zero_limit, ends_at_rest}
use Rattle.phase_times.specs.TimeAcc0Acc1.{acc0_acc1_radicand, acc0_acc1_h1, acc0_acc1_h2, acc0_acc1_h3}
use Rattle.phase_times.specs.TimeAcc0Acc1.{admits_acc0_acc1_solution2, admits_acc0_acc1_solution1}
use Rattle.phase_times.specs.TimeAcc0Acc1.{times_acc0_acc1_solution2}
use Rattle.phase_times.specs.TimeAcc0Acc1.{times_acc0_acc1_solution1}
use Rattle.phase_times.specs.TimeAllVel.{t_acc0_radicand, t_acc1_radicand, t3_acc0_acc1_vel, times_acc0_acc1_vel}
use Rattle.phase_times.specs.TimeAllVel.{times_acc1_vel}
use Rattle.phase_times.specs.TimeAllVel.{times_acc0_vel, times_vel}
use Rattle.phase_times_quartic.specs.CorrectionAcc1.{orig_acc1, deriv_acc1, first_correction_acc1}
use Rattle.phase_times_quartic.specs.CorrectionAcc1.{third_correction_acc1}
use Rattle.phase_times_quartic.specs.CorrectionAcc1.{second_correction_acc1, corrected_acc1}
use Rattle.phase_times_quartic.specs.Quartic.{shifted_quartic, has_solution}
use Rattle.phase_times_quartic.specs.RootRange.{is_skipped}
use Rattle.phase_times_quartic.specs.TimeAcc0.{h0_acc0, h3_acc0, h2_acc0, range_acc0, polynom_acc0, newton_acc0}
use Rattle.phase_times_quartic.specs.TimeAcc0.{corrected_acc0, times_acc0}
use Rattle.phase_times_quartic.specs.TimeAcc1.{h0_acc1, h3_acc1, h2_acc1, polynom_acc1, range_acc1, times_acc1}
use Rattle.phase_times_quartic.specs.TimeNone.{h2_none, polynom_none, newton_none, corrected_none, range_none}
use Rattle.phase_times_quartic.specs.TimeNone.{times_none}
use Rattle.std.proofs.Common.{Err}
use Rattle.refusals.specs.declared.Refusal.TheVariants.{NoRemoval}
use Rattle.block.specs.Blocks.{total}
use Rattle.block.specs.Selection.{near, alike, alike_removal, removal, of_four, selected}
use Rattle.get_profile.specs.Families.{each_of}

abbrev start : Start
start = turning.start

abbrev target : Target
target = turning.target

-- the limits as given, and for the opposite direction
abbrev up : Limits
up = turning.limits

abbrev down : Limits
down = swapped_limits up

abbrev k : Constants
k = constants_of start target up

-- ---- the tries that pass
abbrev first : Try
first =
    try_of start target up None (of_bits binary64 0x3cd8_0000_0000_0000 ∷ 0ᶠ ∷ of_bits binary64 0x3fda_8279_99fc_ef3a ∷ 0ᶠ
    ∷ 0ᶠ ∷ 0ᶠ ∷ of_bits binary64 0x3fda_8279_99fc_ef20 ∷ [])

abbrev second : Try
second =
    try_of start target up None (of_bits binary64 0x3fef_ffff_f4d8_3352 ∷ 0ᶠ ∷ of_bits binary64 0x3fef_ffff_f4d8_3354 ∷ 0ᶠ
    ∷ 0ᶠ ∷ 0ᶠ ∷ of_bits binary64 0x3cb0_0000_0000_0000 ∷ [])

abbrev third : Try
third =
    try_of start target up None (of_bits binary64 0x3ff0_0000_064b_7ca2 ∷ 0ᶠ ∷ of_bits binary64 0x3ff0_0000_064b_7ca3 ∷ 0ᶠ
    ∷ 0ᶠ ∷ 0ᶠ ∷ of_bits binary64 0x3cb0_0000_0000_0000 ∷ [])

abbrev fourth : Try
fourth =
    try_of start target down None (0ᶠ ∷ 0ᶠ ∷ of_bits binary64 0x3ff0_0000_0000_0001 ∷ 0ᶠ ∷ 0ᶠ ∷ 0ᶠ
    ∷ of_bits binary64 0x3ff0_0000_0000_0001 ∷ [])

-- ---- `time_all_none_acc0_acc1`. Where roots are computed apart from their tries, the two together take more steps
-- than one declaration may

none_roots_up : roots_of (none_shared start target k up).roots
    ≡ of_bits binary64 0x3fda_8279_99fc_ef34 ∷ of_bits binary64 0x3fef_ffff_f4d8_3354
    ∷ of_bits binary64 0x3ff0_0000_0593_e656 ∷ []
unfolding none_shared roots_if h2_none polynom_none range_none quartic_of roots_by_factors with_quadratic larger largest_zero
    factors_of resolvent_of three_zeros clamped_ratio inserted ascending_of sorted_from placed sqrt_of third_angle_cosine_of
    third_angle_sine_of minᶠ maxᶠ is_nan swapped_limits constants_of of_bits add sub mul div neg lt le eq absᶠ
none_roots_up = refl

module _ (c : Candidates) (xs : List Try) where
  none_tries_up : found (tries false c (none_with start target k up
      (of_bits binary64 0x3fda_8279_99fc_ef34 ∷ of_bits binary64 0x3fef_ffff_f4d8_3354
      ∷ of_bits binary64 0x3ff0_0000_0593_e656 ∷ []) ++ xs))
      ≡ found (tries false (added (added (added c first) second) third) xs)
  unfolding run in_turn answered only_if held root_slots is_skipped times_none corrected_none newton_none none_shared h2_none
      range_none passes accepted times_pass phases_pass sum_passes zero_passes zeros_pass end_passes rows_pass sums jerk_if jerks
      row_after stored_if outer_row middle_row rows_of bounds_of direction_of swapped_limits constants_of of_bits add sub mul div
      neg lt le eq absᶠ
  none_tries_up = refl

  none_up : found (tries false c (none_tries start target k up ++ xs))
      ≡ found (tries false (added (added (added c first) second) third) xs)
  unfolding none_tries
  none_up = by_roots (none_with start target k up) c xs none_roots_up none_tries_up

  acc0_up : found (tries false c (acc0_tries start target k up ++ xs)) ≡ found (tries false c xs)
  unfolding run in_turn answered only_if acc0_tries held root_slots is_skipped acc0_shared roots_if h0_acc0 h2_acc0
      polynom_acc0 range_acc0 shifted_quartic has_solution quartic_of roots_by_factors with_quadratic larger largest_zero
      factors_of resolvent_of cube_root quotient few_zeros inserted ascending_of sorted_from placed sqrt_of cbrt_of
      swapped_limits constants_of of_bits add sub mul div neg lt le eq absᶠ
  acc0_up = refl

acc1_up : (c : Candidates) → found (tries false c (acc1_tries start target k up)) ≡ c
unfolding run in_turn answered only_if acc1_tries held root_slots is_skipped times_acc1 corrected_acc1
    first_correction_acc1 second_correction_acc1 third_correction_acc1 orig_acc1 deriv_acc1 acc1_shared roots_if h0_acc1 h2_acc1
    h3_acc1 polynom_acc1 range_acc1 has_solution quartic_of roots_by_factors with_quadratic larger largest_zero factors_of
    resolvent_of three_zeros clamped_ratio cube_root quotient few_zeros inserted ascending_of sorted_from placed sqrt_of cbrt_of
    third_angle_cosine_of third_angle_sine_of minᶠ maxᶠ is_nan passes accepted times_pass swapped_limits constants_of of_bits add
    sub mul div neg lt le eq absᶠ
acc1_up c = refl

none_acc0_acc1_up : (c : Candidates)
    → found (time_all_none_acc0_acc1 c start target k up false) ≡ added (added (added c first) second) third
unfolding none_acc0_acc1_tries run in_turn
none_acc0_acc1_up c = none_up c _ ∙ acc0_up _ _ ∙ acc1_up _

none_roots_down : roots_of (none_shared start target k down).roots
    ≡ of_bits binary64 0x3fda_8279_99fc_ef2c ∷ of_bits binary64 0x3ff0_0000_0000_0001 ∷ []
unfolding none_shared roots_if h2_none polynom_none range_none quartic_of roots_by_factors with_quadratic larger largest_zero
    factors_of resolvent_of cube_root quotient few_zeros inserted ascending_of sorted_from placed sqrt_of cbrt_of swapped_limits
    constants_of of_bits add sub mul div neg lt le eq absᶠ
none_roots_down = refl

acc0_roots_down : roots_of (acc0_shared start target k down).roots
    ≡ of_bits binary64 0x3fef_ffff_f306_ef9e ∷ of_bits binary64 0x3ff0_0000_067c_8830
    ∷ of_bits binary64 0x4003_504f_333f_9de6 ∷ []
unfolding acc0_shared roots_if h0_acc0 h2_acc0 polynom_acc0 range_acc0 shifted_quartic has_solution quartic_of roots_by_factors
    with_quadratic larger largest_zero factors_of resolvent_of three_zeros clamped_ratio inserted ascending_of sorted_from
    placed sqrt_of third_angle_cosine_of third_angle_sine_of minᶠ maxᶠ is_nan swapped_limits constants_of of_bits add sub mul div
    neg lt le eq absᶠ
acc0_roots_down = refl

module _ (c : Candidates) (xs : List Try) where
  none_tries_down : found (tries false c (none_with start target k down
      (of_bits binary64 0x3fda_8279_99fc_ef2c ∷ of_bits binary64 0x3ff0_0000_0000_0001 ∷ []) ++ xs))
      ≡ found (tries false (added c fourth) xs)
  unfolding run in_turn answered only_if held root_slots is_skipped times_none corrected_none newton_none none_shared h2_none
      range_none passes accepted times_pass phases_pass sum_passes zero_passes zeros_pass end_passes rows_pass sums jerk_if jerks
      row_after stored_if outer_row middle_row rows_of bounds_of direction_of swapped_limits constants_of of_bits add sub mul div
      neg lt le eq absᶠ
  none_tries_down = refl

  none_down : found (tries false c (none_tries start target k down ++ xs))
      ≡ found (tries false (added c fourth) xs)
  unfolding none_tries
  none_down = by_roots (none_with start target k down) c xs none_roots_down none_tries_down

  acc0_tries_down : found (tries false c (acc0_with start target k down
      (of_bits binary64 0x3fef_ffff_f306_ef9e ∷ of_bits binary64 0x3ff0_0000_067c_8830
      ∷ of_bits binary64 0x4003_504f_333f_9de6 ∷ []) ++ xs)) ≡ found (tries false c xs)
  unfolding run in_turn answered only_if held root_slots is_skipped times_acc0 corrected_acc0 newton_acc0 acc0_shared h0_acc0
      h2_acc0 h3_acc0 range_acc0 passes accepted times_pass swapped_limits constants_of of_bits add sub mul div neg lt le eq
      absᶠ
  acc0_tries_down = refl

  acc0_down : found (tries false c (acc0_tries start target k down ++ xs)) ≡ found (tries false c xs)
  unfolding acc0_tries
  acc0_down = by_roots (acc0_with start target k down) c xs acc0_roots_down acc0_tries_down

acc1_down : (c : Candidates) → found (tries false c (acc1_tries start target k down)) ≡ c
unfolding run in_turn acc1_tries held root_slots is_skipped acc1_shared roots_if h0_acc1 h2_acc1 polynom_acc1 range_acc1
    has_solution swapped_limits constants_of of_bits add sub mul div neg lt le eq absᶠ
acc1_down c = refl

none_acc0_acc1_down : (c : Candidates) → found (time_all_none_acc0_acc1 c start target k down false) ≡ added c fourth
unfolding none_acc0_acc1_tries run in_turn
none_acc0_acc1_down c = none_down c _ ∙ acc0_down _ _ ∙ acc1_down _

-- ---- the other families

module _ (c : Candidates) where
  acc0_acc1_up : found (time_acc0_acc1 c start target k up false) ≡ c
  unfolding run in_turn answered only_if held acc0_acc1_tries acc0_acc1_slots acc0_acc1_shared numbers acc0_acc1_radicand
      acc0_acc1_h1 acc0_acc1_h2 acc0_acc1_h3 admits_acc0_acc1_solution2 admits_acc0_acc1_solution1 times_acc0_acc1_solution2
      times_acc0_acc1_solution1 sqrt_of swapped_limits constants_of of_bits add sub mul div neg lt le eq absᶠ
  acc0_acc1_up = refl

  acc0_acc1_down : found (time_acc0_acc1 c start target k down false) ≡ c
  unfolding run in_turn answered only_if held acc0_acc1_tries acc0_acc1_slots acc0_acc1_shared numbers acc0_acc1_radicand
      acc0_acc1_h1 acc0_acc1_h2 acc0_acc1_h3 admits_acc0_acc1_solution2 admits_acc0_acc1_solution1 times_acc0_acc1_solution2
      times_acc0_acc1_solution1 sqrt_of swapped_limits constants_of of_bits add sub mul div neg lt le eq absᶠ
  acc0_acc1_down = refl

  vel_up : found (time_all_vel c start target k up) ≡ c
  unfolding run in_turn answered only_if held always numbers all_vel_tries all_vel_shared t_acc0_radicand
      t_acc1_radicand t3_acc0_acc1_vel times_acc0_acc1_vel times_acc1_vel times_acc0_vel times_vel sqrt_of passes accepted times_pass
      swapped_limits constants_of of_bits add sub mul div neg lt le eq absᶠ
  vel_up = refl

  vel_down : found (time_all_vel c start target k down) ≡ c
  unfolding run in_turn answered only_if held always numbers all_vel_tries all_vel_shared t_acc0_radicand
      t_acc1_radicand t3_acc0_acc1_vel times_acc0_acc1_vel times_acc1_vel times_acc0_vel times_vel sqrt_of passes accepted times_pass
      swapped_limits constants_of of_bits add sub mul div neg lt le eq absᶠ
  vel_down = refl

-- ---- all of them, and the answer

others_find : (c : Candidates)
    → c ≡ found (each_of ((λ d. time_acc0_acc1 d start target k up false) ∷ (λ d. time_acc0_acc1 d start target k down false)
    ∷ (λ d. time_all_vel d start target k up) ∷ (λ d. time_all_vel d start target k down) ∷ []) c)
others_find c =
    each_on _ _ c (sym (acc0_acc1_up c))
    (each_on _ _ c (sym (acc0_acc1_down c))
    (each_on _ _ c (sym (vel_up c))
    (last_of_each _ _ (sym (vel_down c)))))

moving_finds : (c : Candidates)
    → added (added (added (added c first) second) third) fourth ≡ found (moving start target k up c)
unfolding moving
moving_finds c = each_on _ _ c (sym (none_acc0_acc1_up c)) (each_on _ _ _ (sym (none_acc0_acc1_down _)) (others_find _))

answer_is : answer_of turning ≡ selected_from (added (added
    (added (added (fresh_list (input_of turning)) first) second) third) fourth)
unfolding answer_of finite_move finite_start finite_target finite_limits wrong_sign wrong_duration has_zero_limit ends_at_rest
    added stored fresh_list absᶠ neg lt eq of_bits
answer_is = moving_answer turning refl refl (moving_finds _) (lit< tt)

pub four_accepted : answer_of turning ≡ Err NoRemoval
unfolding selected of_four removal alike_removal alike near total added stored fresh_list profile_of filled with_boundary
    empty_profile sums jerk_if jerks row_after stored_if outer_row middle_row rows_of direction_of swapped_limits absᶠ add sub
    mul div neg lt of_bits
four_accepted = answer_is
