-- What a name of reached limits asks of the check, and a number for each name. Definitions only.
use Rattle.std.specs.Prelude.{ℕ, Bool, true, false, ◌||◌}
use Rattle.profile.specs.declared.Direction.{Direction}
use Rattle.profile.specs.declared.Direction.TheVariants.{UP, DOWN}
use Rattle.profile.specs.declared.ControlSigns.{ControlSigns}
use Rattle.profile.specs.declared.ControlSigns.TheVariants.{UDDU, UDUD}
use Rattle.profile.specs.declared.ReachedLimits.{ReachedLimits}
use Rattle.profile.specs.declared.ReachedLimits.TheVariants.{Acc0Acc1Vel, Vel, Acc0, Acc1, Acc0Acc1, Acc0Vel, Acc1Vel}
use Rattle.profile.specs.declared.ReachedLimits.TheVariants.{None}

-- the name ends in Vel
abbrev pub ends_in_vel : ReachedLimits → Bool
ends_in_vel Acc0Acc1Vel = true
ends_in_vel Vel = true
ends_in_vel Acc0 = false
ends_in_vel Acc1 = false
ends_in_vel Acc0Acc1 = false
ends_in_vel Acc0Vel = true
ends_in_vel Acc1Vel = true
ends_in_vel None = false

abbrev pub is_acc0 : ReachedLimits → Bool
is_acc0 Acc0Acc1Vel = false
is_acc0 Vel = false
is_acc0 Acc0 = true
is_acc0 Acc1 = false
is_acc0 Acc0Acc1 = false
is_acc0 Acc0Vel = false
is_acc0 Acc1Vel = false
is_acc0 None = false

abbrev pub is_acc1 : ReachedLimits → Bool
is_acc1 Acc0Acc1Vel = false
is_acc1 Vel = false
is_acc1 Acc0 = false
is_acc1 Acc1 = true
is_acc1 Acc0Acc1 = false
is_acc1 Acc0Vel = false
is_acc1 Acc1Vel = false
is_acc1 None = false

abbrev pub is_acc0_acc1 : ReachedLimits → Bool
is_acc0_acc1 Acc0Acc1Vel = false
is_acc0_acc1 Vel = false
is_acc0_acc1 Acc0 = false
is_acc0_acc1 Acc1 = false
is_acc0_acc1 Acc0Acc1 = true
is_acc0_acc1 Acc0Vel = false
is_acc0_acc1 Acc1Vel = false
is_acc0_acc1 None = false

-- row 3's acceleration is set to 0: for Acc0Acc1 and all Vel names
abbrev pub clears_row3 : ReachedLimits → Bool
clears_row3 reached = ends_in_vel reached || is_acc0_acc1 reached

-- ---- the number of each name, where names are stored as numbers: in a plan's buffer, in the records of test programs
abbrev pub direction_number : Direction → ℕ
direction_number UP = 0
direction_number DOWN = 1

abbrev pub limits_number : ReachedLimits → ℕ
limits_number Acc0Acc1Vel = 0
limits_number Vel = 1
limits_number Acc0 = 2
limits_number Acc1 = 3
limits_number Acc0Acc1 = 4
limits_number Acc0Vel = 5
limits_number Acc1Vel = 6
limits_number None = 7

abbrev pub control_signs_number : ControlSigns → ℕ
control_signs_number UDDU = 0
control_signs_number UDUD = 1
