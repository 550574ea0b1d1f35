-- The operators on doubles, so that a formula reads as the Rust has it: binary64, rounded once
-- per operation. Definitions only.
use Rattle.std.specs.Prelude.{ℕ, Bool, List, get_or, Float}
use Rattle.std.specs.Float.{nan, binary64}
use Rattle.std.specs.Float.Ieee.{add, sub, mul, div, neg, lt, le, eq, ne}

infixl 60 ◌+ᶠ◌ ◌-ᶠ◌
infixl 70 ◌*ᶠ◌ ◌/ᶠ◌
infix 80 -ᶠ◌
infix 40 ◌<ᶠ◌ ◌≤ᶠ◌ ◌==ᶠ◌ ◌!=ᶠ◌
abbrev pub ◌+ᶠ◌ : Float → Float → Float
x +ᶠ y = add binary64 x y

abbrev pub ◌-ᶠ◌ : Float → Float → Float
x -ᶠ y = sub binary64 x y

abbrev pub ◌*ᶠ◌ : Float → Float → Float
x *ᶠ y = mul binary64 x y

abbrev pub ◌/ᶠ◌ : Float → Float → Float
x /ᶠ y = div binary64 x y

-- the other sign, also of 0 and of an infinity: not 0 - x
abbrev pub -ᶠ◌ : Float → Float
-ᶠ x = neg x

-- the comparisons: each is false where a NaN stands, but `!=`, which is true
abbrev pub ◌<ᶠ◌ : Float → Float → Bool
x <ᶠ y = lt x y

abbrev pub ◌≤ᶠ◌ : Float → Float → Bool
x ≤ᶠ y = le x y

abbrev pub ◌==ᶠ◌ : Float → Float → Bool
x ==ᶠ y = eq x y

abbrev pub ◌!=ᶠ◌ : Float → Float → Bool
x !=ᶠ y = ne x y

-- the element i of an array of doubles
abbrev pub at : List Float → ℕ → Float
at l i = get_or l i nan
