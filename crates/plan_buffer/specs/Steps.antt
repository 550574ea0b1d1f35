-- What the inner steps of writing a plan give. Definitions only, for their contracts: the meaning of a buffer doesn't
-- rest on them.
use Rattle.std.specs.Prelude.{ℕ, List, Float}
use Rattle.std.proofs.lemmas.List.Edits.{sets}

-- l with the numbers x stored from i on
unfoldable pub stored : List Float → ℕ → List Float → List Float
stored l i x = sets l i x
