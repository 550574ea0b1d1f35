-- The bytes of a move's record, as document 01 lays them out. Definitions only.
use Rattle.std.specs.Prelude.{ℕ, zero, suc, ◌/◌, ◌%◌, ◌^◌, List, [], ◌∷◌, ◌++◌, Float}
use Rattle.std.specs.Float.{binary64}
use Rattle.std.specs.Float.Ieee.{to_bits}
use Rattle.planner.specs.declared.Move.{Move}

-- the last n bytes of w, big-endian
abbrev pub bytes : ℕ → ℕ → List ℕ
bytes zero w = []
bytes (suc n) w = w / 256 ^ n % 256 ∷ bytes n w

abbrev pub double : Float → List ℕ
double x = bytes 8 (to_bits binary64 x)

-- two-byte length 105, version byte 1, then 13 doubles: p0 v0 a0 pf vf af v_max v_min a_max a_min j_max brake accel
unfoldable pub record_bytes : Move → List ℕ
record_bytes x =
    bytes 2 105
    ++ bytes 1 1
    ++ double x.start.p0
    ++ double x.start.v0
    ++ double x.start.a0
    ++ double x.target.pf
    ++ double x.target.vf
    ++ double x.target.af
    ++ double x.limits.v_max
    ++ double x.limits.v_min
    ++ double x.limits.a_max
    ++ double x.limits.a_min
    ++ double x.limits.j_max
    ++ double x.brake
    ++ double x.accel
