-- Questions in stages. Definitions only.
use Rattle.std.specs.Prelude.{Bool, cond, ◌&&◌, List, [], ◌∷◌}
use Rattle.trees.specs.Tree.{Tree, done, bind}
use Rattle.trees.specs.InTurn.{in_turn}

-- questions asked in turn. A guarded stage is entered only where nothing was found, and else all is over; one that
-- stops ends at its first yes
pub record Stage (Q : Type 0) : Type 0 where
  pub guarded : Bool
  pub stops : Bool
  pub questions : List Q

-- the stages in their order; `found` says of a state whether anything was found
unfoldable pub in_stages : {Q S : Type 0} → (S → Q → S) → (found : S → Bool) → List (Stage Q) → S → Tree Q Bool S
in_stages add found [] s = done s
in_stages add found (x ∷ xs) s =
    cond (x.guarded && found s) (done s)
    (bind (in_turn add x.stops s x.questions) (λ s'. in_stages add found xs s'))
