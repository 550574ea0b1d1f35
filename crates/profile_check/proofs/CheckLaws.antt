-- What the conditions of a check say makes its answer. Assumes nothing.
use mathlib.Core.Path.{◌≡◌, refl, ◌∙◌}
use mathlib.Core.Bool.{Bool, true, false, ◌&&◌}
use mathlib.Core.List.{List}
use lib.Ieee.{Float}
use Rattle.profile.specs.Tolerances.{t_max}
use Rattle.profile.specs.Limits.{bounds_of}
use Rattle.profile_rows.specs.Rows.{jerks, rows_of}
use Rattle.profile_check.specs.Check.{times_pass, phases_pass, sum_passes, zeros_pass, end_passes, rows_pass, accepted}
use Rattle.profile.specs.declared.Start.{Start}
use Rattle.profile.specs.declared.Target.{Target}
use Rattle.profile.specs.declared.Limits.{Limits}
use Rattle.profile_rows.specs.declared.Rows.{Rows}
use Rattle.profile.specs.declared.Bounds.{Bounds}
use Rattle.profile.specs.declared.ReachedLimits.{ReachedLimits}
use Rattle.profile.specs.declared.ControlSigns.{ControlSigns}

-- three conditions in the order that the check tests them, and in that of the definition
turned : (a b c : Bool) → (c && b && a) ≡ (a && b && c)
turned true true true = refl
turned true true false = refl
turned true false true = refl
turned true false false = refl
turned false true true = refl
turned false true false = refl
turned false false true = refl
turned false false false = refl

-- x1, x2 and x3 are the tests of the times, x those of the rows
module _ (start : Start) (target : Target) (t : List Float) (signs : ControlSigns) (reached : ReachedLimits) (set-limits : Bool) (jf : Float) (m : Limits)
    {x1 : Bool} (e1 : x1 ≡ times_pass t) where
  pub refused_times : x1 ≡ false → false ≡ accepted start target t signs reached set-limits jf m
  unfolding accepted
  refused_times h = rw (← e1, h)

  module _ (h1 : x1 ≡ true) {x2 x3 : Bool} (e2 : x2 ≡ phases_pass reached t) (e3 : x3 ≡ sum_passes t_max t) where
    pub refused_phases : (x2 && x3) ≡ false → false ≡ accepted start target t signs reached set-limits jf m
    unfolding accepted
    refused_phases h = rw (← e1, h1, ← e2, ← e3, h)

    pub by_rows : (x2 && x3) ≡ true
        → {j : List Float} {r : Rows} {b : Bounds} {x : Bool}
        → j ≡ jerks signs t jf
        → r ≡ rows_of start t j reached set-limits m
        → b ≡ bounds_of m
        → x ≡ (rows_pass r b && end_passes r target && zeros_pass r j b)
        → x ≡ accepted start target t signs reached set-limits jf m
    unfolding accepted
    by_rows h {j} {r} {b} ej er eb e =
        rw (← e1, h1, ← e2, ← e3, h, ← ej, ← er, ← eb)
        (e ∙ turned (zeros_pass r j b) (end_passes r target) (rows_pass r b))

-- what `accepts` answers at each of its ends
pub ruleset tested = (refused_times, refused_phases, by_rows)
