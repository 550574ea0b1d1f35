-- The profile's constants, under the Rust's names. Definitions only; `constants` ties those of the code to them.
use Rattle.std.specs.Prelude.{Float}
use Rattle.std.specs.Float.{binary64}
use Rattle.std.specs.Float.Ieee.{of_bits}

-- V_EPS, A_EPS, J_EPS: 1e-12
abbrev pub v_eps : Float
v_eps = of_bits binary64 0x3d71_9799_812d_ea11

abbrev pub a_eps : Float
a_eps = of_bits binary64 0x3d71_9799_812d_ea11

abbrev pub j_eps : Float
j_eps = of_bits binary64 0x3d71_9799_812d_ea11

-- P_PRECISION, V_PRECISION: 1e-8
abbrev pub p_precision : Float
p_precision = of_bits binary64 0x3e45_798e_e230_8c3a

abbrev pub v_precision : Float
v_precision = of_bits binary64 0x3e45_798e_e230_8c3a

-- A_PRECISION: 1e-10
abbrev pub a_precision : Float
a_precision = of_bits binary64 0x3ddb_7cdf_d9d7_bdbb

-- T_MAX: 1e12
abbrev pub t_max : Float
t_max = of_bits binary64 0x426d_1a94_a200_0000
