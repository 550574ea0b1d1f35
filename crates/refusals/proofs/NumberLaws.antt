-- No refusal has the number 0. Assumes nothing.
use mathlib.Core.Path.{◌≡◌}
use native.Mathlib.Omega.{arith}
use Rattle.refusals.specs.Numbers.{refusal_number}
use Rattle.refusals.specs.declared.Refusal.{Refusal}
use Rattle.refusals.specs.declared.Refusal.TheVariants.{NotFinite, WrongSign, WrongDuration, NoProfile, NoRemoval}
use Rattle.refusals.specs.declared.Refusal.TheVariants.{TimeNotFinite, TooManyProfiles, WrongRecord, WrongAxes}
use Rattle.refusals.specs.declared.Refusal.TheVariants.{NeverFree}

never_zero : (k : Refusal) → refusal_number k ≡ 0 → ⊥
never_zero NotFinite e = omega arith
never_zero WrongSign e = omega arith
never_zero WrongDuration e = omega arith
never_zero NoProfile e = omega arith
never_zero NoRemoval e = omega arith
never_zero TimeNotFinite e = omega arith
never_zero TooManyProfiles e = omega arith
never_zero WrongRecord e = omega arith
never_zero WrongAxes e = omega arith
never_zero NeverFree e = omega arith

-- what is said of plans alone holds of a refusal
pub refused : {A : Type 0} (k : Refusal) → refusal_number k ≡ 0 → A
refused k e = absurd (never_zero k e)
