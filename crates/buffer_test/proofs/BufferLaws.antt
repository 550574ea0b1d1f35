-- A buffer looked at number by number. Assumes nothing.
use mathlib.Core.Path.{◌≡◌, refl, ap}
use mathlib.Core.Bool.{◌&&◌}
use mathlib.Core.List.{List, [], ◌∷◌}
use lib.Ieee.{Float}
use Rattle.std.specs.List.{list_all}
use Rattle.doubles.specs.Operators.{◌==ᶠ◌}
use Rattle.buffer_test.specs.Records.{minus1ᶠ}
use Rattle.buffer_test.specs.Lines.{is_unchanged}

pub all_unchanged : (l : List Float) → list_all (λ x. x ==ᶠ minus1ᶠ) l ≡ is_unchanged l
unfolding is_unchanged
all_unchanged [] = refl
all_unchanged (x ∷ xs) = ap (λ b. (x ==ᶠ minus1ᶠ) && b) (all_unchanged xs)
