-- A count of stretches has one digit. Assumes nothing.
use Prim.Native.Nat.{◌+◌}
use mathlib.Core.Path.{◌≡◌, refl}
use mathlib.Core.List.{[], ◌∷◌}
use Rattle.profile_lines.specs.Fields.{field}
use Rattle.decimals.specs.Decimal.{decimal}
use Rattle.block.specs.Blocks.{count_of}
use Rattle.block.specs.declared.Stretch.{Stretch}
use Rattle.block.specs.declared.Stretch.TheVariants.{Nothing, Between, From}

pub count_field : (a b : Stretch) → 32 ∷ (48 + (count_of a + count_of b)) ∷ [] ≡ field (decimal (count_of a + count_of b))
unfolding decimal
count_field Nothing Nothing = refl
count_field Nothing (Between l r) = refl
count_field Nothing (From l) = refl
count_field (Between k q) Nothing = refl
count_field (Between k q) (Between l r) = refl
count_field (Between k q) (From l) = refl
count_field (From k) Nothing = refl
count_field (From k) (Between l r) = refl
count_field (From k) (From l) = refl
