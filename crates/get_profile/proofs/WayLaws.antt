-- The limits of a move in either direction. Assumes nothing.
use mathlib.Core.Path.{refl, ap, ◌∙◌}
use mathlib.Core.Bool.{Bool, true, false, cond}
use mathlib.Core.Logic.{inl, inr}
use Rattle.profile.specs.Limits.{swapped_limits}
use Rattle.profile.specs.declared.Limits.{Limits}
use Rattle.profile.proofs.SwapLaws.{swapped_twice}
use Rattle.search.specs.Choices.{points_up, towards_target}
use Rattle.phase_times.specs.declared.constants.Constants.{Constants}
use Rattle.get_profile.specs.Calls.{Way, given, swapped, limits_of}
use Rattle.get_profile.specs.GetProfile.{EitherWay}

pub way_of : (M m : Limits) (w : Way) → EitherWay M m → EitherWay M (limits_of w m)
way_of M m given d = d
way_of M m swapped (inl e) = inr (ap swapped_limits e)
way_of M m swapped (inr e) = inl (ap swapped_limits e ∙ swapped_twice M)

pub towards : (M : Limits) (k : Constants) → EitherWay M (towards_target k M)
unfolding towards_target
towards M k = go (points_up k)
  where
    go : (b : Bool) → EitherWay M (cond b M (swapped_limits M))
    go true = inl refl
    go false = inr refl
