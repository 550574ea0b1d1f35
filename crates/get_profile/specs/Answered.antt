-- What is said of an answer of `get_profile`: its number, and which profiles it consists of. Definitions only.
use Rattle.std.specs.Prelude.{◌≡◌, ◌⊎◌}
use Rattle.profile.specs.Boundary.{start_of, target_of}
use Rattle.profile.specs.declared.Profile.{Profile}
use Rattle.profile.specs.declared.Limits.{Limits}
use Rattle.candidates.specs.Counted.{AcceptedOf}
use Rattle.refusals.specs.Numbers.{number_of}
use Rattle.block.specs.Blocks.{duration, empty_block, Answer, plan_in}
use Rattle.block.specs.Plans.{Each, EachAfter}
use Rattle.get_profile.specs.GetProfile.{TryBetween}

module _ (input : Profile) (m : Limits) where
  -- q was accepted by a check, with the start, the target and the durations of the input, and these limits in either
  -- direction
  abbrev pub AcceptedFor : Profile → Type 0
  AcceptedFor = AcceptedOf (TryBetween (start_of input) (target_of input) m) input.brake input.accel

  -- 0, 4 or 5; what a plan consists of; the empty plan elsewhere
  pub record Answered (r : Answer) : Type 0 where
    pub number : (number_of r ≡ 0) ⊎ ((number_of r ≡ 4) ⊎ (number_of r ≡ 5))
    pub each : number_of r ≡ 0 → Each AcceptedFor (plan_in r)
    pub lasts : number_of r ≡ 0 → (plan_in r).t_min ≡ duration (plan_in r).p_min
    pub empty : (number_of r ≡ 0 → ⊥) → plan_in r ≡ empty_block

  -- where the stretches of a plan lie
  abbrev pub AnsweredAfter : Answer → Type 0
  AnsweredAfter r = number_of r ≡ 0 → EachAfter AcceptedFor (plan_in r)
