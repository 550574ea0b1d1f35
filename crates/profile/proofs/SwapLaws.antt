-- The limits for the opposite direction. Assumes nothing.
use mathlib.Core.Path.{◌≡◌, refl}
use mathlib.Core.Bool.{true, false}
use lib.Ieee.{Float, nan, inf, fin, neg}
use Rattle.profile.specs.Limits.{swapped_limits}
use Rattle.profile.specs.declared.Limits.{Limits}

neg_twice : (x : Float) → neg (neg x) ≡ x
unfolding neg
neg_twice nan = refl
neg_twice (inf true) = refl
neg_twice (inf false) = refl
neg_twice (fin true m e) = refl
neg_twice (fin false m e) = refl

-- limits swapped twice are as they were
pub swapped_twice : (m : Limits) → swapped_limits (swapped_limits m) ≡ m
unfolding swapped_limits
swapped_twice m =
    λ i. record {
      v_max = m.v_max;
      v_min = m.v_min;
      a_max = m.a_max;
      a_min = m.a_min;
      j_max = neg_twice m.j_max i;
    }
