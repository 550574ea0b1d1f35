-- The promise of demand 3 is about something, and refusals come in their order: by computation. Assumes nothing.
use mathlib.Core.Path.{◌≡◌, refl}
use native.Mathlib.Nat.{not-le_of_lt}
use lib.Dec.{lit<}
use lib.Ieee.{of_bits, add, sub, mul, div, neg, lt, le, eq}
use Rattle.doubles.specs.Exact.{scale, exact}
use Rattle.replay.specs.Replay.{at_start, phase, zeroed_if, replaced_if, stored_rows, replayed}
use Rattle.replay.specs.Allowance.{sum_to, underflow, T, Sa, Sv, Sp, position_allowance}
use Rattle.planner.specs.Promise.{Promise}
use Rattle.shop_checks.specs.ShopChecks.{move_1, move_2}
use Rattle.shop_checks.specs.WorkedMoves.{PromiseApplies, RefusalsInOrder}
use Rattle.shop_checks.proofs.Passing.{passing_accepted, passing_blocked}
use Rattle.shop_checks.proofs.Turning.{four_accepted}
use Rattle.doubles.specs.Functions.{absᶠ}
use Rattle.profile.specs.Boundary.{with_boundary, empty_profile}
use Rattle.profile.specs.Limits.{swapped_limits, direction_of, bounds_of}
use Rattle.profile_rows.specs.Rows.{sums, jerk_if, jerks, row_after, stored_if, outer_row, middle_row, rows_of}
use Rattle.profile_check.specs.Check.{times_pass, phases_pass, sum_passes, zero_passes, zeros_pass, end_passes}
use Rattle.profile_check.specs.Check.{rows_pass}
use Rattle.profile_check.specs.Check.{accepted, filled}
use Rattle.elementary.specs.Functions.{sqrt_of}
use Rattle.roots.specs.List.{inserted, placed, sorted_from, ascending_of}
use Rattle.roots.specs.Quartic.{with_quadratic, quartic_of}
use Rattle.trees.specs.InTurn.{answered, in_turn}
use Rattle.trees.specs.Tree.{run, bind}
use Rattle.candidates.specs.List.{stored, added, fresh_list}
use Rattle.candidates.specs.Try.{passes, profile_of}
use Rattle.phase_times.specs.Constants.{constants_of}
use Rattle.search.specs.Choices.{has_zero_limit, ends_at_rest, points_up, rests_at_target, towards_target}
use Rattle.phase_times.specs.TimeAllSingleStep.{changes_acceleration, starts_accelerated, starts_moving}
use Rattle.phase_times.specs.TimeAllSingleStep.{starts_at_target}
use Rattle.phase_times.specs.TimeAllSingleStep.{times_at_constant_speed}
use Rattle.phase_times.specs.TimeAllVel.{t3_acc0_acc1_vel, times_acc0_acc1_vel}
use Rattle.phase_times_quartic.specs.CorrectionAcc1.{corrected_acc1}
use Rattle.phase_times_quartic.specs.Quartic.{shifted_quartic, has_solution}
use Rattle.phase_times_quartic.specs.RootRange.{is_skipped}
use Rattle.phase_times_quartic.specs.TimeAcc0.{h0_acc0, h3_acc0, h2_acc0, range_acc0, polynom_acc0, newton_acc0}
use Rattle.phase_times_quartic.specs.TimeAcc0.{corrected_acc0, times_acc0}
use Rattle.phase_times_quartic.specs.TimeAcc1.{h0_acc1, h3_acc1, h2_acc1, polynom_acc1, range_acc1, times_acc1}
use Rattle.phase_times_quartic.specs.TimeNone.{h2_none, polynom_none, newton_none, corrected_none, range_none}
use Rattle.phase_times_quartic.specs.TimeNone.{times_none}
use Rattle.phase_times_two_step.specs.ScaledRoot.{scaled_root}
use Rattle.phase_times_two_step.specs.TimeNoneTwoStep.{none_two_step_radicand, times_none_two_step}
use Rattle.phase_times_two_step.specs.TimeNoneTwoStep.{times_none_single_step}
use Rattle.position_third_step1.specs.CheckTree.{only_if}
use Rattle.position_third_step1.specs.Slots.{always, held, numbers}
use Rattle.position_third_step1.specs.TimeAllNoneAcc0Acc1.{roots_if, none_shared, acc0_shared, acc1_shared, root_slots}
use Rattle.position_third_step1.specs.TimeAllNoneAcc0Acc1.{none_tries, acc0_tries, acc1_tries, none_acc0_acc1_tries}
use Rattle.position_third_step1.specs.TimeAllSingleStep.{single_step_slots, single_step_tries, acceptance}
use Rattle.position_third_step1.specs.TimeAllVel.{all_vel_tries}
use Rattle.position_third_step1.specs.TwoStep.{none_two_step_shared, none_two_step_tries}
use Rattle.block.specs.Blocks.{total, duration, no_interval, block_of}
use Rattle.refusals.specs.Numbers.{number_of}
use Rattle.block.specs.Selection.{selected}
use Rattle.get_profile.specs.Families.{unless_found, first_of}
use Rattle.get_profile.specs.GetProfile.{resting, two_step, first_search, try_families, after_passing}
use Rattle.get_profile.specs.GetProfile.{single_step_answer, get_profile_by, get_profile, get_profile_answer}
use Rattle.planner.specs.Answers.{finite_start, finite_target, finite_limits, finite_move, wrong_sign, wrong_duration}
use Rattle.planner.specs.Answers.{answer_of}

move_2_accepted : number_of (answer_of move_2) ≡ 0
unfolding answer_of finite_move finite_start finite_target finite_limits wrong_sign wrong_duration with_boundary empty_profile
    get_profile_answer get_profile get_profile_by has_zero_limit try_families first_search ends_at_rest rests_at_target points_up
    towards_target resting two_step first_of unless_found run bind in_turn answered only_if added stored fresh_list profile_of
    filled swapped_limits constants_of none_acc0_acc1_tries none_tries none_shared roots_if h2_none polynom_none
    range_none held root_slots is_skipped times_none corrected_none newton_none acc0_tries acc0_shared h0_acc0 h2_acc0
    h3_acc0 polynom_acc0 range_acc0 shifted_quartic has_solution times_acc0 corrected_acc0 newton_acc0 acc1_tries
    acc1_shared h0_acc1 h2_acc1 h3_acc1 polynom_acc1 range_acc1 times_acc1 corrected_acc1 none_two_step_tries
    none_two_step_shared numbers none_two_step_radicand scaled_root times_none_two_step times_none_single_step always all_vel_tries
    t3_acc0_acc1_vel times_acc0_acc1_vel single_step_tries single_step_slots changes_acceleration starts_accelerated
    starts_moving starts_at_target times_at_constant_speed acceptance single_step_answer after_passing selected total duration
    block_of no_interval passes accepted times_pass phases_pass sum_passes zero_passes zeros_pass end_passes rows_pass
    sums jerk_if jerks row_after stored_if outer_row middle_row rows_of bounds_of direction_of quartic_of with_quadratic inserted
    ascending_of sorted_from placed sqrt_of of_bits add sub mul div neg lt le eq absᶠ
move_2_accepted = refl

staying_breaks_it : Promise move_2 (answer_of move_1) → ⊥
unfolding answer_of finite_move finite_start finite_target finite_limits wrong_sign wrong_duration with_boundary empty_profile
    get_profile_answer get_profile get_profile_by has_zero_limit try_families first_search ends_at_rest rests_at_target points_up
    towards_target resting two_step first_of unless_found run bind in_turn answered only_if added stored fresh_list profile_of
    filled swapped_limits constants_of none_acc0_acc1_tries none_tries none_shared roots_if h2_none polynom_none
    range_none held root_slots is_skipped times_none corrected_none newton_none acc0_tries acc0_shared h0_acc0 h2_acc0
    h3_acc0 polynom_acc0 range_acc0 shifted_quartic has_solution times_acc0 corrected_acc0 newton_acc0 acc1_tries
    acc1_shared h0_acc1 h2_acc1 h3_acc1 polynom_acc1 range_acc1 times_acc1 corrected_acc1 none_two_step_tries
    none_two_step_shared numbers none_two_step_radicand scaled_root times_none_two_step times_none_single_step always all_vel_tries
    t3_acc0_acc1_vel times_acc0_acc1_vel single_step_tries single_step_slots changes_acceleration starts_accelerated
    starts_moving starts_at_target times_at_constant_speed acceptance single_step_answer after_passing selected total duration
    block_of no_interval passes accepted times_pass phases_pass sum_passes zero_passes zeros_pass end_passes rows_pass
    sums jerk_if jerks row_after stored_if outer_row middle_row rows_of bounds_of direction_of quartic_of with_quadratic inserted
    ascending_of sorted_from placed sqrt_of of_bits add sub mul div neg lt le eq absᶠ replayed at_start phase zeroed_if
    replaced_if stored_rows position_allowance underflow T Sa Sv Sp sum_to scale exact
staying_breaks_it h = not-le_of_lt (lit< tt) (h refl).shortest.position

leaving_breaks_it : Promise move_1 (answer_of move_2) → ⊥
unfolding answer_of finite_move finite_start finite_target finite_limits wrong_sign wrong_duration with_boundary empty_profile
    get_profile_answer get_profile get_profile_by has_zero_limit try_families first_search ends_at_rest rests_at_target points_up
    towards_target resting two_step first_of unless_found run bind in_turn answered only_if added stored fresh_list profile_of
    filled swapped_limits constants_of none_acc0_acc1_tries none_tries none_shared roots_if h2_none polynom_none
    range_none held root_slots is_skipped times_none corrected_none newton_none acc0_tries acc0_shared h0_acc0 h2_acc0
    h3_acc0 polynom_acc0 range_acc0 shifted_quartic has_solution times_acc0 corrected_acc0 newton_acc0 acc1_tries
    acc1_shared h0_acc1 h2_acc1 h3_acc1 polynom_acc1 range_acc1 times_acc1 corrected_acc1 none_two_step_tries
    none_two_step_shared numbers none_two_step_radicand scaled_root times_none_two_step times_none_single_step always all_vel_tries
    t3_acc0_acc1_vel times_acc0_acc1_vel single_step_tries single_step_slots changes_acceleration starts_accelerated
    starts_moving starts_at_target times_at_constant_speed acceptance single_step_answer after_passing selected total duration
    block_of no_interval passes accepted times_pass phases_pass sum_passes zero_passes zeros_pass end_passes rows_pass
    sums jerk_if jerks row_after stored_if outer_row middle_row rows_of bounds_of direction_of quartic_of with_quadratic inserted
    ascending_of sorted_from placed sqrt_of of_bits add sub mul div neg lt le eq absᶠ replayed at_start phase zeroed_if
    replaced_if stored_rows position_allowance underflow T Sa Sv Sp sum_to scale exact
leaving_breaks_it h = not-le_of_lt (lit< tt) (h refl).shortest.position

pub promise_applies : PromiseApplies
promise_applies =
    record {
      move_2_accepted = move_2_accepted;
      passing_accepted = passing_accepted;
      passing_blocked = passing_blocked;
      staying_breaks_it = staying_breaks_it;
      leaving_breaks_it = leaving_breaks_it;
    }

pub refusals_in_order : RefusalsInOrder
unfolding answer_of finite_move finite_start finite_target finite_limits wrong_sign wrong_duration get_profile_answer get_profile
    get_profile_by has_zero_limit run bind in_turn only_if constants_of held single_step_tries single_step_slots
    changes_acceleration starts_accelerated starts_moving starts_at_target single_step_answer with_boundary empty_profile absᶠ
    sub mul neg lt eq of_bits
refusals_in_order =
    record {
      all_wrong = refl;
      limits_and_duration_wrong = refl;
      duration_wrong = refl;
      none_accepted = refl;
      four_accepted = four_accepted;
    }
