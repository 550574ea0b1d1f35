-- The list of a profile's doubles is as long as it says, and an array is its elements. Assumes nothing.
use Prim.Native.Nat.{ℕ, zero, suc}
use mathlib.Core.Path.{◌≡◌, refl, ap}
use mathlib.Core.List.{List, [], ◌∷◌}
use native.Mathlib.Omega.{arith}
use lib.ListN.{length}
use lib.Ieee.{Float}
use Rattle.profile.specs.Layout.{elements, profile_doubles, profile_doubles_length}
use Rattle.profile.specs.declared.Profile.{Profile}

pub profile_doubles_length_law : (q : Profile) → length (profile_doubles q) ≡ profile_doubles_length
unfolding profile_doubles elements
profile_doubles_length_law q = refl

pub elements_whole : (n : ℕ) (l : List Float) → length l ≡ n → l ≡ elements n l
unfolding elements
elements_whole zero [] e = refl
elements_whole zero (x ∷ l) e = absurd (let none : ⊥ = omega arith in none)
elements_whole (suc n) [] e = absurd (let none : ⊥ = omega arith in none)
elements_whole (suc n) (x ∷ l) e = ap (◌∷◌ x) (elements_whole n l (omega arith))
