-- Families one after the other. Definitions only.
use Rattle.std.specs.Prelude.{Bool, true, false, List, [], ◌∷◌}
use Rattle.trees.specs.Tree.{done, bind}
use Rattle.candidates.specs.declared.Candidates.{Candidates}
use Rattle.position_third_step1.specs.CheckTree.{CheckTree}
use Rattle.search.specs.Stages.{is_found}

-- from a list of accepted profiles to the checks that are made, and the list at their end
abbrev pub Search : Type 0
Search = Candidates → CheckTree

-- a list that has a profile stays as it is; else the family is tried
unfoldable pub unless_found : (found : Bool) → Search → Search
unless_found true f c = done c
unless_found false f c = f c

-- all of them
unfoldable pub each_of : List Search → Search
each_of [] c = done c
each_of (f ∷ fs) c = bind (f c) (λ d. each_of fs d)

-- up to the first that finds a profile
unfoldable pub first_of : List Search → Search
first_of [] c = done c
first_of (f ∷ fs) c = bind (f c) (λ d. unless_found (is_found d) (first_of fs) d)
