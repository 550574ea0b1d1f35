-- The definitions on numbers, by computation: document 01's move 2, and a rest-to-rest move of 6 that reaches both
-- accelerations and no speed.
use mathlib.Core.Bool.{true, false}
use mathlib.Core.List.{List, [], ◌∷◌}
use mathlib.Core.Path.{◌≡◌, refl}
use lib.Ieee.{Float, binary64, add, sub, mul, div, neg, lt, of_bits}
use Rattle.doubles.specs.Constants.{0ᶠ, 1ᶠ, 2ᶠ, 4ᶠ, 5ᶠ, 6ᶠ}
use Rattle.profile.specs.declared.Start.{Start}
use Rattle.profile.specs.declared.Target.{Target}
use Rattle.profile.specs.declared.Limits.{Limits}
use Rattle.phase_times.specs.declared.constants.Constants.{Constants}
use Rattle.phase_times.specs.Constants.{constants_of}
use Rattle.phase_times.specs.TimeAllVel.{t3_acc0_acc1_vel, times_acc0_acc1_vel, times_acc1_vel, times_vel}
use Rattle.phase_times.specs.TimeAcc0Acc1.{acc0_acc1_radicand, acc0_acc1_h1, acc0_acc1_h2, acc0_acc1_h3}
use Rattle.phase_times.specs.TimeAcc0Acc1.{admits_acc0_acc1_solution2, times_acc0_acc1_solution1}

abbrev rest : Start
rest = record { p0 = 0ᶠ; v0 = 0ᶠ; a0 = 0ᶠ }

abbrev at_rest : Float → Target
at_rest pf = record { pf = pf; vf = 0ᶠ; af = 0ᶠ }

abbrev ones : Limits
ones = record { v_max = 1ᶠ; v_min = neg 1ᶠ; a_max = 1ᶠ; a_min = neg 1ᶠ; j_max = 1ᶠ }

abbrev constants : Float → Constants
constants pf = constants_of rest (at_rest pf) ones

abbrev move_2 : List Float
move_2 = 1ᶠ ∷ 0ᶠ ∷ 1ᶠ ∷ 2ᶠ ∷ 1ᶠ ∷ 0ᶠ ∷ 1ᶠ ∷ []

move_2_acc0_acc1_vel : times_acc0_acc1_vel rest (at_rest 4ᶠ) (constants 4ᶠ) ones ≡ move_2
unfolding times_acc0_acc1_vel t3_acc0_acc1_vel constants_of add sub mul div neg of_bits
move_2_acc0_acc1_vel = refl

move_2_acc1_vel : times_acc1_vel rest (at_rest 4ᶠ) (constants 4ᶠ) ones 1ᶠ move_2 ≡ move_2
unfolding times_acc1_vel constants_of add sub mul div neg of_bits
move_2_acc1_vel = refl

move_2_vel : times_vel rest (at_rest 4ᶠ) (constants 4ᶠ) ones 1ᶠ 1ᶠ move_2 ≡ move_2
unfolding times_vel constants_of add sub mul div neg of_bits
move_2_vel = refl

-- the square root of 25 is 5
radicand_25 : acc0_acc1_radicand rest (at_rest 6ᶠ) (constants 6ᶠ) ones ≡ of_bits binary64 0x4039_0000_0000_0000
unfolding acc0_acc1_radicand constants_of add sub mul div neg of_bits
radicand_25 = refl

abbrev h2 : Float
h2 = acc0_acc1_h2 rest (constants 6ᶠ) ones

abbrev h3 : Float
h3 = acc0_acc1_h3 (at_rest 6ᶠ) (constants 6ᶠ) ones

solution_1 : times_acc0_acc1_solution1 rest (at_rest 6ᶠ) ones (acc0_acc1_h1 5ᶠ) h2 h3 ≡ 1ᶠ ∷ 1ᶠ ∷ 1ᶠ ∷ 0ᶠ ∷ 1ᶠ ∷ 1ᶠ ∷ 1ᶠ ∷ []
unfolding times_acc0_acc1_solution1 acc0_acc1_h1 acc0_acc1_h2 acc0_acc1_h3 constants_of add sub mul div neg of_bits
solution_1 = refl

-- at equality a solution is not admitted
equality : admits_acc0_acc1_solution2 ones 2ᶠ 2ᶠ 4ᶠ ≡ false
unfolding admits_acc0_acc1_solution2 div neg lt of_bits
equality = refl

above : admits_acc0_acc1_solution2 ones 2ᶠ 4ᶠ 4ᶠ ≡ true
unfolding admits_acc0_acc1_solution2 div neg lt of_bits
above = refl
