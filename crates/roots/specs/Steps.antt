-- How the code puts a root to its place: which value goes where. Definitions only.
use Rattle.std.specs.Prelude.{ℕ, ◌-◌, ◌&&◌, cond, List, [], ◌∷◌, eqb, ltb, leb, Float}
use Rattle.doubles.specs.Operators.{at}

-- from which place the value comes that goes to place k, where value i goes to a place before it
unfoldable pub place_before : (to i k : ℕ) → ℕ
place_before to i k = cond (eqb k to) i (cond (ltb to k && leb k i) (k - 1) k)

abbrev pub moved : (to i : ℕ) → List Float → List Float
moved to i v =
    at v (place_before to i 0) ∷ at v (place_before to i 1) ∷ at v (place_before to i 2) ∷ at v (place_before to i 3) ∷ []
