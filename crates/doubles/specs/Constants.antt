-- The numbers of the Rust's formulas, each by its bit pattern, as a literal of the code is in
-- the logic. Definitions only.
use Rattle.std.specs.Prelude.{Float}
use Rattle.std.specs.Float.{binary64}
use Rattle.std.specs.Float.Ieee.{of_bits}

abbrev pub 0ᶠ : Float
0ᶠ = of_bits binary64 0

abbrev pub ½ᶠ : Float
½ᶠ = of_bits binary64 0x3fe0_0000_0000_0000

abbrev pub 1ᶠ : Float
1ᶠ = of_bits binary64 0x3ff0_0000_0000_0000

abbrev pub 2ᶠ : Float
2ᶠ = of_bits binary64 0x4000_0000_0000_0000

abbrev pub 3ᶠ : Float
3ᶠ = of_bits binary64 0x4008_0000_0000_0000

abbrev pub 4ᶠ : Float
4ᶠ = of_bits binary64 0x4010_0000_0000_0000

abbrev pub 5ᶠ : Float
5ᶠ = of_bits binary64 0x4014_0000_0000_0000

abbrev pub 6ᶠ : Float
6ᶠ = of_bits binary64 0x4018_0000_0000_0000

abbrev pub 8ᶠ : Float
8ᶠ = of_bits binary64 0x4020_0000_0000_0000

abbrev pub 12ᶠ : Float
12ᶠ = of_bits binary64 0x4028_0000_0000_0000

abbrev pub 24ᶠ : Float
24ᶠ = of_bits binary64 0x4038_0000_0000_0000

-- EPS of document 01, f64::EPSILON: 2 ^ -52
abbrev pub eps : Float
eps = of_bits binary64 0x3cb0_0000_0000_0000
