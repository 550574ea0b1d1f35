-- What an inner step of selection gives. Definitions only, for its contract: the meaning of a plan doesn't rest on it.
use Rattle.std.specs.Prelude.{ℕ, List, [], ◌∷◌}
use Rattle.profile.specs.declared.Profile.{Profile}
use Rattle.block.specs.Selection.{without}

-- three of four profiles, as an array
abbrev pub removed : ℕ → (ℕ → Profile) → List Profile
removed index s = without index s 0 ∷ without index s 1 ∷ without index s 2 ∷ []
