-- A first guess of 1 / √x. Definitions only.
use Rattle.std.specs.Prelude.{ℕ, ◌-◌, ◌/◌, from_bits, Float}
use Rattle.std.specs.Float.{binary64}

-- near 1 / √x, by the pattern b of x
unfoldable pub inverse_root_guess : ℕ → Float
inverse_root_guess b = from_bits binary64 (0x5fe6_eb50_c7b5_37a9 - b / 2)
