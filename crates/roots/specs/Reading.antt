-- What the laws say of a list of roots with: insertions one after the other, and the order of
-- reading. Definitions only.
use Rattle.std.specs.Prelude.{◌≡◌, true, cond, List, [], ◌∷◌, Float}
use Rattle.doubles.specs.Operators.{◌≤ᶠ◌, ◌==ᶠ◌}
use Rattle.doubles.specs.Constants.{0ᶠ}
use Rattle.roots.specs.declared.list.Roots.{Roots}
use Rattle.roots.specs.List.{inserted}

-- the list after the insertions of all of xs
unfoldable pub inserted_all : Roots → List Float → Roots
inserted_all l [] = l
inserted_all l (x ∷ xs) = inserted_all (inserted l x) xs

-- those at least 0; and those equal to v, where -0 equals 0
unfoldable pub non_negative : List Float → List Float
non_negative [] = []
non_negative (x ∷ xs) = cond (0ᶠ ≤ᶠ x) (x ∷ non_negative xs) (non_negative xs)

unfoldable pub equal_to : Float → List Float → List Float
equal_to v [] = []
equal_to v (x ∷ xs) = cond (x ==ᶠ v) (x ∷ equal_to v xs) (equal_to v xs)

-- each is at most the next
pub data Ascending : List Float → Type 0 where
  none : Ascending []
  one : (x : Float) → Ascending (x ∷ [])
  more : {x y : Float} {l : List Float} → (x ≤ᶠ y) ≡ true → Ascending (y ∷ l) → Ascending (x ∷ y ∷ l)
