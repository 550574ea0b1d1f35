-- The table of shop checks holds: one statement, by computation. Assumes nothing.
use Prim.Native.Nat.{ℕ}
use mathlib.Core.Path.{◌≡◌, refl, ap, ◌∙◌}
use mathlib.Core.List.{List}
use lib.Ieee.{of_bits, to_bits, add, sub, mul, div, neg, lt, le, eq}
use Rattle.encoding.specs.Encoding.{doubles_at, hex_digit}
use Rattle.doubles.specs.Functions.{absᶠ}
use Rattle.profile.specs.Boundary.{with_boundary, empty_profile}
use Rattle.profile.specs.With.{with_phases}
use Rattle.profile.specs.Limits.{swapped_limits, direction_of, bounds_of}
use Rattle.profile_lines.specs.Fields.{hex, double_fields}
use Rattle.profile_rows.specs.Rows.{sums, jerk_if, jerks, row_after, stored_if, outer_row, middle_row, rows_of}
use Rattle.profile_check.specs.Check.{times_pass, phases_pass, sum_passes, zero_passes, zeros_pass, end_passes}
use Rattle.profile_check.specs.Check.{rows_pass}
use Rattle.profile_check.specs.Check.{accepted, filled, checked}
use Rattle.elementary.specs.Functions.{sqrt_of, cbrt_of, third_angle_cosine_of, third_angle_sine_of}
use Rattle.roots.specs.List.{inserted, placed, sorted_from, ascending_of}
use Rattle.roots.specs.Quartic.{with_quadratic, quartic_of}
use Rattle.trees.specs.InTurn.{answered, in_turn}
use Rattle.trees.specs.Tree.{run, bind}
use Rattle.candidates.specs.List.{stored, added, fresh_list}
use Rattle.candidates.specs.Try.{passes, profile_of}
use Rattle.phase_times.specs.Constants.{constants_of}
use Rattle.search.specs.Choices.{has_zero_limit, ends_at_rest, points_up, rests_at_target, towards_target}
use Rattle.phase_times.specs.TimeAllSingleStep.{changes_acceleration, starts_accelerated, starts_moving}
use Rattle.phase_times.specs.TimeAllSingleStep.{starts_at_target}
use Rattle.phase_times.specs.TimeAllSingleStep.{times_at_constant_speed}
use Rattle.phase_times.specs.TimeAllVel.{t3_acc0_acc1_vel, times_acc0_acc1_vel}
use Rattle.phase_times_quartic.specs.CorrectionAcc1.{corrected_acc1}
use Rattle.phase_times_quartic.specs.Quartic.{shifted_quartic, has_solution}
use Rattle.phase_times_quartic.specs.RootRange.{is_skipped}
use Rattle.phase_times_quartic.specs.TimeAcc0.{h0_acc0, h3_acc0, h2_acc0, range_acc0, polynom_acc0, newton_acc0}
use Rattle.phase_times_quartic.specs.TimeAcc0.{corrected_acc0, times_acc0}
use Rattle.phase_times_quartic.specs.TimeAcc1.{h0_acc1, h3_acc1, h2_acc1, polynom_acc1, range_acc1, times_acc1}
use Rattle.phase_times_quartic.specs.TimeNone.{h2_none, polynom_none, newton_none, corrected_none, range_none}
use Rattle.phase_times_quartic.specs.TimeNone.{times_none}
use Rattle.phase_times_two_step.specs.ScaledRoot.{scaled_root}
use Rattle.phase_times_two_step.specs.TimeNoneTwoStep.{none_two_step_radicand, times_none_two_step}
use Rattle.phase_times_two_step.specs.TimeNoneTwoStep.{times_none_single_step}
use Rattle.position_third_step1.specs.CheckTree.{only_if}
use Rattle.position_third_step1.specs.Slots.{always, held, numbers}
use Rattle.position_third_step1.specs.TimeAllNoneAcc0Acc1.{roots_if, none_shared, acc0_shared, acc1_shared, root_slots}
use Rattle.position_third_step1.specs.TimeAllNoneAcc0Acc1.{none_tries, acc0_tries, acc1_tries, none_acc0_acc1_tries}
use Rattle.position_third_step1.specs.TimeAllSingleStep.{single_step_slots, single_step_tries, acceptance}
use Rattle.position_third_step1.specs.TimeAllVel.{all_vel_tries}
use Rattle.position_third_step1.specs.TwoStep.{none_two_step_shared, none_two_step_tries}
use Rattle.block.specs.Blocks.{total, duration, no_interval, interval_from, interval_between, block_of, empty_block}
use Rattle.block.specs.Blocks.{is_blocked, blocking_of}
use Rattle.block.specs.Selection.{near, of_two, selected}
use Rattle.get_profile.specs.Families.{unless_found, first_of}
use Rattle.get_profile.specs.GetProfile.{resting, two_step, first_search, try_families, after_passing}
use Rattle.get_profile.specs.GetProfile.{single_step_answer, get_profile_by, get_profile, get_profile_answer}
use Rattle.planner.specs.Answers.{finite_start, finite_target, finite_limits, finite_move, wrong_sign, wrong_duration}
use Rattle.planner.specs.Answers.{answer_of}
use Rattle.planner.specs.declared.Move.{Move}
use Rattle.decimals.specs.Decimal.{decimal}
use Rattle.planner.specs.Layout.{move_of}
use Rattle.moves.specs.Records.{record_move, is_malformed, record_of}
use Rattle.moves.specs.Lines.{stretch_fields, plan_fields, refusal_fields, answer_with, line_with, line_of}
use Rattle.moves.specs.Replies.{reply_of}
use Rattle.std.specs.Prelude.{Some, Ok}
use Rattle.shop_checks.specs.Records.{record_bytes}
use Rattle.shop_checks.specs.ShopChecks.{ShopChecks, move_1, move_2, move_2_down, move_3, move_4}

-- the record's bytes are read as the move, whose answer has that line
by_move : (n : ℕ) (x : Move) {line : List ℕ} → record_of (record_bytes x) ≡ Some (Ok x) → line_of n (answer_of x) ≡ line
    → reply_of line_of n (record_of (record_bytes x)) ≡ line
by_move n x e h = ap (reply_of line_of n) e ∙ h

pub shop_checks : ShopChecks
unfolding record_bytes record_of is_malformed record_move move_of doubles_at line_with answer_with plan_fields refusal_fields
    stretch_fields decimal double_fields hex hex_digit answer_of finite_move finite_start finite_target finite_limits wrong_sign
    wrong_duration with_boundary with_phases empty_profile get_profile_answer get_profile get_profile_by has_zero_limit try_families
    first_search ends_at_rest rests_at_target points_up towards_target resting two_step first_of unless_found run bind in_turn
    answered only_if added stored fresh_list profile_of filled swapped_limits constants_of none_acc0_acc1_tries none_tries
    none_shared roots_if h2_none polynom_none range_none held root_slots is_skipped times_none corrected_none
    newton_none acc0_tries acc0_shared h0_acc0 h2_acc0 h3_acc0 polynom_acc0 range_acc0 shifted_quartic has_solution
    times_acc0 corrected_acc0 newton_acc0 acc1_tries acc1_shared h0_acc1 h2_acc1 h3_acc1 polynom_acc1 range_acc1
    times_acc1 corrected_acc1 none_two_step_tries none_two_step_shared numbers none_two_step_radicand scaled_root
    times_none_two_step times_none_single_step always all_vel_tries t3_acc0_acc1_vel times_acc0_acc1_vel single_step_tries
    single_step_slots changes_acceleration starts_accelerated starts_moving starts_at_target times_at_constant_speed acceptance
    single_step_answer after_passing selected of_two near total duration block_of empty_block no_interval
    interval_from interval_between blocking_of is_blocked checked passes accepted times_pass phases_pass sum_passes zero_passes
    zeros_pass end_passes rows_pass sums jerk_if jerks row_after stored_if outer_row middle_row rows_of bounds_of direction_of
    quartic_of with_quadratic inserted ascending_of sorted_from placed sqrt_of cbrt_of third_angle_cosine_of third_angle_sine_of
    of_bits add sub mul div neg lt le eq absᶠ to_bits
shop_checks =
    record {
      line_1 = by_move 1 move_1 refl refl;
      line_2 = by_move 2 move_2 refl refl;
      line_3 = by_move 3 move_3 refl refl;
      line_4 = by_move 4 move_4 refl refl;
      line_2_down = by_move 2 move_2_down refl refl;
      move_3_at_2½ = refl;
      move_3_at_3 = refl;
      move_3_at_4 = refl;
      sqrt_9 = refl;
      sqrt_minus_1 = refl;
      cbrt_minus_27 = refl;
      c_at_1 = refl;
      s_at_1 = refl;
      c_at_minus_1 = refl;
      s_at_minus_1 = refl;
      quartic_double_root = refl;
      quartic_cube_root = refl;
      longest_rest = refl;
      longer_rest = refl;
      near_pair = refl;
      far_pair = refl;
    }
