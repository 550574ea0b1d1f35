-- The layout of a move: its numbers in their order, once. A record of bytes and a buffer of doubles derive from it.
-- A new number is the last. Definitions only.
use Rattle.std.specs.Prelude.{ℕ, List, Float}
use Rattle.doubles.specs.Operators.{at}
use Rattle.planner.specs.declared.Move.{Move}

abbrev pub move_length : ℕ
move_length = 13

-- p0 v0 a0 pf vf af v_max v_min a_max a_min j_max brake accel
unfoldable pub move_of : List Float → Move
move_of l =
    record {
      start = record { p0 = at l 0; v0 = at l 1; a0 = at l 2 };
      target = record { pf = at l 3; vf = at l 4; af = at l 5 };
      limits = record { v_max = at l 6; v_min = at l 7; a_max = at l 8; a_min = at l 9; j_max = at l 10 };
      brake = at l 11;
      accel = at l 12;
    }
