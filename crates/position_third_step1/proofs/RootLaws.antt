-- A quartic gives at most four roots. Assumes nothing.
use Prim.Native.Nat.{◌+◌, ◌≤◌}
use mathlib.Core.Path.{◌≡◌, refl}
use mathlib.Core.Bool.{Bool, true, false, cond, ◌&&◌}
use mathlib.Core.List.{List, [], ◌∷◌}
use native.Mathlib.Omega.{arith}
use borrow.Author.Tests.{ltb-true}
use lib.Dec.{ltb}
use lib.Ieee.{Float}
use lib.ListN.{length, set, length-take}
use Rattle.doubles.specs.Operators.{◌≤ᶠ◌}
use Rattle.doubles.specs.Constants.{0ᶠ}
use Rattle.phase_times_quartic.specs.declared.quartic.Quartic.{Quartic}
use Rattle.roots.specs.List.{no_roots, inserted, roots_of, ascending_of}
use Rattle.roots.specs.Reading.{inserted_all}
use Rattle.roots.specs.Quartic.{quartic_of}
use Rattle.roots.specs.declared.list.Roots.{Roots}
use Rattle.roots.proofs.QuarticLaws.{Made, made, quartic_made}
use Rattle.position_third_step1.specs.TimeAllNoneAcc0Acc1.{roots_if}

inserted_count : (l : Roots) (x : Float) → l.count ≤ 4 → (inserted l x).count ≤ 4
unfolding inserted
inserted_count l x h = by (0ᶠ ≤ᶠ x) (ltb l.count 4) refl
  where
    by : (g b : Bool) → ltb l.count 4 ≡ b
        → (cond (g && b) (record { values = set l.values l.count x; count = l.count + 1 }) l).count ≤ 4
    by true true e = omega (arith, ltb-true l.count 4 e)
    by true false e = h
    by false b e = h

inserted_all_count : (l : Roots) (xs : List Float) → l.count ≤ 4 → (inserted_all l xs).count ≤ 4
unfolding inserted_all
inserted_all_count l [] h = h
inserted_all_count l (x ∷ xs) h = inserted_all_count (inserted l x) xs (inserted_count l x h)

made_count : {l : Roots} → Made l → l.count ≤ 4
made_count (made xs) = inserted_all_count no_roots xs (omega arith)

-- of the list's four places, so many count
pub quartic_count : (a b c d : Float) → (ascending_of (quartic_of a b c d)).count ≤ 4
unfolding ascending_of
quartic_count a b c d = made_count (quartic_made a b c d)

-- and so many roots are tried
pub four_roots : (b : Bool) (q : Quartic) → length (roots_of (roots_if b q)) ≤ 4
unfolding roots_if
four_roots true q = simp length-take (omega (arith, quartic_count q.c0 q.c1 q.c2 q.c3))
four_roots false q = omega arith
