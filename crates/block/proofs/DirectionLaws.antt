-- The `==` of directions is the definition's. Assumes nothing.
use mathlib.Core.Path.{◌≡◌, refl, ap}
use mathlib.Core.Bool.{not}
use denote.Enum.Bare.{sameb}
use Rattle.profile.specs.contracts.Direction.{the_type}
use Rattle.profile.specs.declared.Direction.{Direction}
use Rattle.profile.specs.declared.Direction.TheVariants.{UP, DOWN}
use Rattle.block.specs.Selection.{same_direction}

pub same_is : (d e : Direction) → sameb the_type d e ≡ same_direction d e
same_is UP UP = refl
same_is UP DOWN = refl
same_is DOWN UP = refl
same_is DOWN DOWN = refl

pub other_is : (d e : Direction) → not (sameb the_type d e) ≡ not (same_direction d e)
other_is d e = ap not (same_is d e)
