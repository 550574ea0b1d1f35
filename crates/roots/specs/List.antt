-- The list of roots: what insertion appends, and in which order the list is read. Definitions only.
use Rattle.std.specs.Prelude.{ℕ, suc, ◌+◌, ◌&&◌, cond, List, [], ◌∷◌, ◌++◌, ltb, Float, take, drop, set}
use Rattle.doubles.specs.Operators.{◌<ᶠ◌, ◌≤ᶠ◌, at}
use Rattle.doubles.specs.Constants.{0ᶠ}
use Rattle.roots.specs.declared.list.Roots.{Roots}

abbrev pub no_roots : Roots
no_roots = record { values = 0ᶠ ∷ 0ᶠ ∷ 0ᶠ ∷ 0ᶠ ∷ []; count = 0 }

-- `insert`: appends a value at least 0, so -0 but no NaN; a full list comes back unchanged
unfoldable pub inserted : Roots → Float → Roots
inserted l x =
    cond (0ᶠ ≤ᶠ x && ltb l.count 4) (record { values = set l.values l.count x; count = l.count + 1 }) l

-- x put among roots that ascend, after those that are at most x
unfoldable pub placed : Float → List Float → List Float
placed x [] = x ∷ []
placed x (y ∷ ys) = cond (x <ᶠ y) (x ∷ y ∷ ys) (y ∷ placed x ys)

-- the root at place i put among those before it
unfoldable pub placed_at : ℕ → List Float → List Float
placed_at i d = placed (at d i) (take i d) ++ drop (suc i) d

-- the roots of a list ascending, where those of `done` do so already; an equal root comes
-- after those inserted before it
unfoldable pub sorted_from : List Float → List Float → List Float
sorted_from done [] = done
sorted_from done (x ∷ xs) = sorted_from (placed x done) xs

-- the roots in the order of insertion
abbrev pub roots_of : Roots → List Float
roots_of l = take l.count l.values

-- `ascending`: the list with its roots in reading order, and what lies behind them as it was
unfoldable pub ascending_of : Roots → Roots
ascending_of l = record { values = sorted_from [] (roots_of l) ++ drop l.count l.values; count = l.count }

-- the roots as the families read them
abbrev pub reading : Roots → List Float
reading l = roots_of (ascending_of l)
