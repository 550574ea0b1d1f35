-- The number of each refusal: documents 01 and 02, and 0 where there is none. Definitions only.
use Rattle.std.specs.Prelude.{ℕ, Result, Ok, Err}
use Rattle.refusals.specs.declared.Refusal.{Refusal}
use Rattle.refusals.specs.declared.Refusal.TheVariants.{NotFinite, WrongSign, WrongDuration, NoProfile, NoRemoval}
use Rattle.refusals.specs.declared.Refusal.TheVariants.{TimeNotFinite, TooManyProfiles, WrongRecord, WrongAxes}
use Rattle.refusals.specs.declared.Refusal.TheVariants.{NeverFree}

abbrev pub refusal_number : Refusal → ℕ
refusal_number NotFinite = 1
refusal_number WrongSign = 2
refusal_number WrongDuration = 3
refusal_number NoProfile = 4
refusal_number NoRemoval = 5
refusal_number TimeNotFinite = 6
refusal_number TooManyProfiles = 7
refusal_number WrongRecord = 8
refusal_number WrongAxes = 9
refusal_number NeverFree = 10

-- 0 for an answer, or the number of the refusal
abbrev pub number_of : {A : Type 0} → Result A Refusal → ℕ
number_of (Ok _) = 0
number_of (Err refusal) = refusal_number refusal
