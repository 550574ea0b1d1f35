-- The layout of a profile: its numbers in their order, once. A line of text, a buffer of doubles and their readers
-- derive from it. A new field is the last. Definitions only.
use Rattle.std.specs.Prelude.{ℕ, zero, suc, List, [], ◌∷◌, ◌++◌, Float}
use Rattle.doubles.specs.Operators.{at}
use Rattle.profile.specs.declared.Profile.{Profile}

-- the first n of the numbers s 0, s 1, ..; the elements of an array of n
abbrev pub firsts : ℕ → (ℕ → Float) → List Float
firsts zero s = []
firsts (suc n) s = s 0 ∷ firsts n (λ i. s (suc i))

unfoldable pub elements : ℕ → List Float → List Float
elements n l = firsts n (at l)

-- three names: direction, limits, control signs
abbrev pub profile_names_length : ℕ
profile_names_length = 3

-- then fifty doubles: 0 t, 7 t_sum, 14 j, 21 a, 29 v, 37 p, 45 pf, 46 vf, 47 af, 48 brake, 49 accel
unfoldable pub profile_doubles : Profile → List Float
profile_doubles q =
    elements 7 q.t
    ++ elements 7 q.t_sum
    ++ elements 7 q.j
    ++ elements 8 q.a
    ++ elements 8 q.v
    ++ elements 8 q.p
    ++ (q.pf ∷ q.vf ∷ q.af ∷ q.brake ∷ q.accel ∷ [])

abbrev pub profile_doubles_length : ℕ
profile_doubles_length = 50
