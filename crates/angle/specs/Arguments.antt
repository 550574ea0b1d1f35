-- What an argument that is taken apart says of the double t. Definitions only.
use Rattle.std.specs.Prelude.{◌≡◌, ℕ, ◌+◌, ◌-◌, ◌*◌, ◌/◌, ◌%◌, ◌^◌, Float}
use Rattle.std.specs.Float.{binary64}
use Rattle.std.specs.Float.Ieee.{of_bits}
use Rattle.elementary.specs.Functions.{third_angle_cosine_of, third_angle_sine_of}
use Rattle.angle.specs.declared.pattern.Pattern.{Pattern}
use Rattle.angle.specs.declared.Argument.{Argument}
use Rattle.angle.specs.declared.Argument.TheVariants.{Known, Inside}

-- the double by its sign bit and the pattern of its magnitude
abbrev pub double_of : Pattern → Float
double_of t = of_bits binary64 (t.sign.bit * 2 ^ 63 + t.m)

abbrev pub Taken : Float → Argument → Type 0
Taken t (Known p) = (p.cos ≡ third_angle_cosine_of t) × (p.sin ≡ third_angle_sine_of t)
Taken t (Inside i) = t ≡ double_of i

-- the magnitude of a pattern m from 2 ^ -75 up to 1, in units of 2 ^ -128
abbrev pub size_of : ℕ → ℕ
size_of m = (m % 2 ^ 52 + 2 ^ 52) * 2 ^ (m / 2 ^ 52 - 947)
