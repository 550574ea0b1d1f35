-- The quartic's list is made by insertions alone, so the laws of reading hold of it. Assumes nothing.
use mathlib.Core.Path.{◌≡◌, refl, subst}
use mathlib.Core.Bool.{◌&&◌}
use mathlib.Core.List.{List, [], ◌∷◌, ◌++◌}
use lib.Ieee.{Float}
use Rattle.doubles.specs.Operators.{◌+ᶠ◌, ◌-ᶠ◌, ◌*ᶠ◌, ◌/ᶠ◌, -ᶠ◌, ◌<ᶠ◌}
use Rattle.doubles.specs.Constants.{0ᶠ, 2ᶠ, 4ᶠ, eps}
use Rattle.doubles.specs.Functions.{absᶠ}
use Rattle.elementary.specs.Functions.{sqrt_of, cbrt_of}
use Rattle.roots.specs.declared.list.Roots.{Roots}
use Rattle.roots.specs.List.{no_roots, inserted}
use Rattle.roots.specs.Reading.{inserted_all}
use Rattle.roots.specs.Quartic.{with_quadratic, larger, roots_by_factors, quartic_of}
use Rattle.doubles.proofs.CondLaws.{by_cases, cond_of}

-- a double zero counts once: beside itself it isn't larger
pub double_zero : (x y : Float) → larger (larger x y) y ≡ larger x y
unfolding larger
double_zero x y = by_cases (absᶠ x <ᶠ absᶠ y) (λ i. rw i (by_cases (absᶠ y <ᶠ absᶠ y) (λ j. rw j) (λ j. rw j)))
    (λ i. rw (i, i))

-- the list that some insertions make
pub data Made : Roots → Type 0 where
  made : (xs : List Float) → Made (inserted_all no_roots xs)

one_more : (l : Roots) (xs : List Float) (x : Float) → inserted_all l (xs ++ x ∷ []) ≡ inserted (inserted_all l xs) x
unfolding inserted_all
one_more l [] x = refl
one_more l (y ∷ xs) x = one_more (inserted l y) xs x

made_none : Made no_roots
made_none = unfold inserted_all in made []

made_inserted : (x : Float) {l : Roots} → Made l → Made (inserted l x)
made_inserted x (made xs) = subst Made (one_more no_roots xs x) (made (xs ++ x ∷ []))

made_quadratic : (p q tolerance : Float) {l : Roots} → Made l → Made (with_quadratic l p q tolerance)
unfolding with_quadratic
made_quadratic p q tolerance m =
    let d = p *ᶠ p -ᶠ 4ᶠ *ᶠ q in
    cond_of Made (absᶠ d <ᶠ tolerance) (made_inserted (-ᶠ p /ᶠ 2ᶠ) m)
    (cond_of Made (0ᶠ <ᶠ d) (made_inserted ((-ᶠ p +ᶠ sqrt_of d) /ᶠ 2ᶠ) (made_inserted ((-ᶠ p -ᶠ sqrt_of d) /ᶠ 2ᶠ) m)) m)

made_by_factors : (a b c d : Float) → Made (roots_by_factors a b c d)
unfolding roots_by_factors
made_by_factors a b c d = made_quadratic _ _ _ (made_quadratic _ _ _ made_none)

pub quartic_made : (a b c d : Float) → Made (quartic_of a b c d)
unfolding quartic_of
quartic_made a b c d =
    cond_of Made (absᶠ d <ᶠ eps && absᶠ c <ᶠ eps) (made_quadratic a b eps (made_inserted 0ᶠ made_none))
    (cond_of Made (absᶠ d <ᶠ eps && absᶠ a <ᶠ eps && absᶠ b <ᶠ eps)
    (made_inserted (-ᶠ cbrt_of c) (made_inserted 0ᶠ made_none)) (made_by_factors a b c d))
