-- The definitions on numbers, by computation: a rest-to-rest move of 2, whose root is 2, and what is easily got wrong.
use mathlib.Core.Bool.{true, false}
use mathlib.Core.List.{[], ◌∷◌}
use mathlib.Core.Path.{◌≡◌, refl}
use lib.Ieee.{nan, is_nan, add, sub, mul, div, neg, lt, of_bits}
use Rattle.doubles.specs.Operators.{◌<ᶠ◌}
use Rattle.doubles.specs.Constants.{0ᶠ, 1ᶠ, 2ᶠ, 3ᶠ, 8ᶠ, 24ᶠ}
use Rattle.doubles.specs.Functions.{absᶠ, minᶠ}
use Rattle.profile.specs.declared.Start.{Start}
use Rattle.profile.specs.declared.Target.{Target}
use Rattle.profile.specs.declared.Limits.{Limits}
use Rattle.phase_times.specs.declared.constants.Constants.{Constants}
use Rattle.phase_times.specs.Constants.{constants_of}
use Rattle.phase_times_quartic.specs.RootRange.{is_skipped}
use Rattle.phase_times_quartic.specs.TimeNone.{h2_none, polynom_none, newton_none, corrected_none, times_none}
use Rattle.phase_times_quartic.specs.CorrectionAcc1.{orig_acc1, deriv_acc1, first_correction_acc1}
use Rattle.phase_times_quartic.specs.CorrectionAcc1.{third_correction_acc1}

abbrev rest : Start
rest = record { p0 = 0ᶠ; v0 = 0ᶠ; a0 = 0ᶠ }

abbrev two_away : Target
two_away = record { pf = 2ᶠ; vf = 0ᶠ; af = 0ᶠ }

abbrev ones : Limits
ones = record { v_max = 1ᶠ; v_min = neg 1ᶠ; a_max = 1ᶠ; a_min = neg 1ᶠ; j_max = 1ᶠ }

abbrev constants : Constants
constants = constants_of rest two_away ones

-- t^4 - 8 t
polynomial : polynom_none rest two_away constants ones (h2_none rest two_away constants ones) ≡ record { c0 = 0ᶠ; c1 = neg 0ᶠ; c2 = neg 8ᶠ; c3 = neg 0ᶠ }
unfolding polynom_none h2_none constants_of add sub mul div neg of_bits
polynomial = refl

exact_root : corrected_none rest two_away constants ones 0ᶠ 2ᶠ ≡ 2ᶠ
unfolding corrected_none newton_none constants_of add sub mul div neg lt of_bits
exact_root = refl

times : times_none rest two_away ones 0ᶠ 2ᶠ ≡ 1ᶠ ∷ 0ᶠ ∷ 2ᶠ ∷ 0ᶠ ∷ 0ᶠ ∷ 0ᶠ ∷ 1ᶠ ∷ []
unfolding times_none add sub mul div neg of_bits
times = refl

-- the first correction stops at 0 where a later one goes below
bounded : first_correction_acc1 rest constants ones 24ᶠ 3ᶠ 1ᶠ ≡ 0ᶠ
unfolding first_correction_acc1 orig_acc1 deriv_acc1 minᶠ is_nan constants_of add sub mul div neg lt of_bits
bounded = refl

unbounded : (third_correction_acc1 rest constants ones 24ᶠ 3ᶠ 1ᶠ <ᶠ 0ᶠ) ≡ true
unfolding third_correction_acc1 orig_acc1 deriv_acc1 absᶠ constants_of add sub mul div neg lt of_bits
unbounded = refl

nan_keeps : is_skipped (record { t_min = nan; t_max = nan }) 1ᶠ ≡ false
unfolding is_skipped lt of_bits
nan_keeps = refl
