-- The real that each algebraic number of the code stands for. Definitions only.
use Rattle.std.specs.Prelude.{ℕ, zero, suc, ◌+◌, ◌*◌, ◌^◌, Bool, true, false}
use Rattle.elementary.specs.Nearest.{Real}
use Rattle.elementary.specs.Reals.{cbrt_real, third_angle_cosine_real, third_angle_sine_real}
use Rattle.algebraic.specs.declared.number.Size.{Size}
use Rattle.algebraic.specs.declared.number.CubeRoot.{CubeRoot}
use Rattle.algebraic.specs.declared.number.Cosine.{Cosine}
use Rattle.algebraic.specs.declared.number.Sine.{Sine}

-- a sign bit
abbrev pub negative : ℕ → Bool
negative zero = false
negative (suc s) = true

-- a size, in units of 2 ^ -128
abbrev pub units : Size → ℕ
units t = t.high * 2 ^ 64 + t.low

abbrev pub cube_root_real : CubeRoot → Real
cube_root_real r = cbrt_real 1 (r.m * 2 ^ (107 + r.o)) 1

abbrev pub cosine_real : Cosine → Real
cosine_real r = third_angle_cosine_real (2 ^ 54) (negative r.sign.bit) (units r.t) (2 ^ 128)

abbrev pub sine_real : Sine → Real
sine_real r = third_angle_sine_real (2 ^ (54 + r.binade.e)) (negative r.binade.sign.bit) (units r.t) (2 ^ 128)
