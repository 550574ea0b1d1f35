-- The tries of a family by its name are those of its definition. Assumes nothing.
use mathlib.Core.Path.{◌≡◌, refl}
use Rattle.profile.specs.declared.Start.{Start}
use Rattle.profile.specs.declared.Target.{Target}
use Rattle.profile.specs.declared.Limits.{Limits}
use Rattle.phase_times.specs.declared.constants.Constants.{Constants}
use Rattle.position_third_step1.specs.Families.{shared_of, slots_of, reached_by, jerk_by, tries_of}
use Rattle.position_third_step1.specs.TimeAllVel.{all_vel_tries}
use Rattle.position_third_step1.specs.TimeAcc0Acc1.{acc0_acc1_tries}
use Rattle.position_third_step1.specs.TimeAllNoneAcc0Acc1.{none_tries, acc0_tries, acc1_tries}
use Rattle.position_third_step1.specs.TwoStep.{none_two_step_tries, acc0_two_step_tries}
use Rattle.position_third_step1.specs.TwoStep.{vel_two_step_tries, acc1_vel_two_step_tries}
use Rattle.position_third_step1.specs.TimeAllSingleStep.{single_step_tries}
use Rattle.position_third_step1.specs.declared.families.Family.TheVariants.{AllVel, None, Acc0, Acc1, Acc0Acc1}
use Rattle.position_third_step1.specs.declared.families.Family.TheVariants.{NoneTwoStep, Acc0TwoStep, VelTwoStep}
use Rattle.position_third_step1.specs.declared.families.Family.TheVariants.{Acc1VelTwoStep, SingleStep}

module _ (start : Start) (target : Target) (k : Constants) (m : Limits) where
  pub all_vel_tries_law : tries_of start target k m AllVel ≡ all_vel_tries start target k m
  unfolding tries_of shared_of slots_of reached_by jerk_by all_vel_tries
  all_vel_tries_law = refl

  pub none_tries_law : tries_of start target k m None ≡ none_tries start target k m
  unfolding tries_of shared_of slots_of reached_by jerk_by none_tries
  none_tries_law = refl

  pub acc0_tries_law : tries_of start target k m Acc0 ≡ acc0_tries start target k m
  unfolding tries_of shared_of slots_of reached_by jerk_by acc0_tries
  acc0_tries_law = refl

  pub acc1_tries_law : tries_of start target k m Acc1 ≡ acc1_tries start target k m
  unfolding tries_of shared_of slots_of reached_by jerk_by acc1_tries
  acc1_tries_law = refl

  pub acc0_acc1_tries_law : tries_of start target k m Acc0Acc1 ≡ acc0_acc1_tries start target k m
  unfolding tries_of shared_of slots_of reached_by jerk_by acc0_acc1_tries
  acc0_acc1_tries_law = refl

  pub none_two_step_tries_law : tries_of start target k m NoneTwoStep ≡ none_two_step_tries start target k m
  unfolding tries_of shared_of slots_of reached_by jerk_by none_two_step_tries
  none_two_step_tries_law = refl

  pub acc0_two_step_tries_law : tries_of start target k m Acc0TwoStep ≡ acc0_two_step_tries start target k m
  unfolding tries_of shared_of slots_of reached_by jerk_by acc0_two_step_tries
  acc0_two_step_tries_law = refl

  pub vel_two_step_tries_law : tries_of start target k m VelTwoStep ≡ vel_two_step_tries start target k m
  unfolding tries_of shared_of slots_of reached_by jerk_by vel_two_step_tries
  vel_two_step_tries_law = refl

  pub acc1_vel_two_step_tries_law : tries_of start target k m Acc1VelTwoStep ≡ acc1_vel_two_step_tries start target k m
  unfolding tries_of shared_of slots_of reached_by jerk_by acc1_vel_two_step_tries
  acc1_vel_two_step_tries_law = refl

  pub single_step_tries_law : tries_of start target k m SingleStep ≡ single_step_tries start target k m
  unfolding tries_of shared_of slots_of reached_by jerk_by single_step_tries
  single_step_tries_law = refl
