-- Document 01's "Shop checks": its ● lines, in its order and words. Definitions only.
use Rattle.std.specs.Prelude.{◌≡◌, true, false, [], ◌∷◌, Ok, Float}
use Rattle.std.specs.Float.{nan, binary64}
use Rattle.std.specs.Float.Ieee.{of_bits, neg}
use Rattle.doubles.specs.Constants.{0ᶠ, ½ᶠ, 1ᶠ, 2ᶠ, 3ᶠ, 4ᶠ, 8ᶠ}
use Rattle.elementary.specs.Functions.{sqrt_of, cbrt_of, third_angle_cosine_of, third_angle_sine_of}
use Rattle.roots.specs.List.{reading}
use Rattle.roots.specs.Resolvent.{sin120}
use Rattle.roots.specs.Quartic.{quartic_of}
use Rattle.profile.specs.Tolerances.{t_max}
use Rattle.profile.specs.Boundary.{empty_profile}
use Rattle.profile.specs.With.{with_times}
use Rattle.profile.specs.declared.Profile.{Profile}
use Rattle.profile.specs.declared.Limits.{Limits}
use Rattle.profile.specs.declared.ControlSigns.TheVariants.{UDDU}
use Rattle.profile.specs.declared.ReachedLimits.TheVariants.{Vel}
use Rattle.profile_check.specs.Check.{checked}
use Rattle.profile_lines.specs.Text.{ascii}
use Rattle.block.specs.Blocks.{no_interval, block_of, plan_in, blocking_of}
use Rattle.block.specs.Selection.{slot, selected}
use Rattle.block.specs.Examples.{taking}
use Rattle.block.specs.declared.Stretch.TheVariants.{Between}
use Rattle.planner.specs.Answers.{answer_of}
use Rattle.planner.specs.declared.Move.{Move}
use Rattle.moves.specs.Records.{record_of}
use Rattle.moves.specs.Lines.{line_of}
use Rattle.moves.specs.Replies.{reply_of}
use Rattle.shop_checks.specs.Records.{record_bytes}

-- v limits 1, -1, a limits 1, -1, durations 0
abbrev pub move : (p0 v0 a0 pf vf af j : Float) → Move
move p0 v0 a0 pf vf af j =
    record {
      start = record { p0 = p0; v0 = v0; a0 = a0 };
      target = record { pf = pf; vf = vf; af = af };
      limits = record { v_max = 1ᶠ; v_min = neg 1ᶠ; a_max = 1ᶠ; a_min = neg 1ᶠ; j_max = j };
      brake = 0ᶠ;
      accel = 0ᶠ;
    }

abbrev pub move_1 : Move
move_1 = move 0ᶠ 0ᶠ 0ᶠ 0ᶠ 0ᶠ 0ᶠ 1ᶠ

abbrev pub move_2 : Move
move_2 = move 0ᶠ 0ᶠ 0ᶠ 4ᶠ 0ᶠ 0ᶠ 1ᶠ

abbrev pub move_2_down : Move
move_2_down = move 0ᶠ 0ᶠ 0ᶠ (neg 4ᶠ) 0ᶠ 0ᶠ 1ᶠ

abbrev pub move_3 : Move
move_3 = move 0ᶠ 1ᶠ 0ᶠ 3ᶠ 1ᶠ 0ᶠ 0ᶠ

abbrev pub move_4 : Move
move_4 = move 0ᶠ 0ᶠ 0ᶠ 1ᶠ 0ᶠ 0ᶠ 0ᶠ

-- limits of 1 and -1
abbrev pub ones : Limits
ones = record { v_max = 1ᶠ; v_min = neg 1ᶠ; a_max = 1ᶠ; a_min = neg 1ᶠ; j_max = 1ᶠ }

-- rest at 0 that is its own target, with the time t in phase 3: else the empty profile
abbrev pub resting : Float → Profile
resting t = with_times empty_profile (0ᶠ ∷ 0ᶠ ∷ 0ᶠ ∷ t ∷ 0ᶠ ∷ 0ᶠ ∷ 0ᶠ ∷ [])

-- numbers that only these lines have: the double after 1e12, 1 + 2^-50, 1 + 2^-49, and others
abbrev pub after_t_max : Float
after_t_max = of_bits binary64 0x426d_1a94_a200_0001

abbrev pub near1 : Float
near1 = of_bits binary64 0x3ff0_0000_0000_0004

abbrev pub past1 : Float
past1 = of_bits binary64 0x3ff0_0000_0000_0008

abbrev pub 2½ᶠ : Float
2½ᶠ = of_bits binary64 0x4004_0000_0000_0000

abbrev pub 9ᶠ : Float
9ᶠ = of_bits binary64 0x4022_0000_0000_0000

abbrev pub 27ᶠ : Float
27ᶠ = of_bits binary64 0x403b_0000_0000_0000

pub record ShopChecks : Type 0 where
  -- ● these four moves: from the bytes of each record to the bytes of its line
  pub line_1 : reply_of line_of 1 (record_of (record_bytes move_1)) ≡ ascii "1 ok 0000000000000000 UP None 0\n"
  pub line_2 : reply_of line_of 2 (record_of (record_bytes move_2)) ≡ ascii "2 ok 4018000000000000 UP Vel 0\n"
  pub line_3 : reply_of line_of 3 (record_of (record_bytes move_3))
      ≡ ascii "3 ok 4008000000000000 UP None 1 4008000000000000 7FF0000000000000\n"
  pub line_4 : reply_of line_of 4 (record_of (record_bytes move_4)) ≡ ascii "4 refused 4\n"
  -- ● pf -4 for 4: 6 s, DOWN, Vel
  pub line_2_down : reply_of line_of 2 (record_of (record_bytes move_2_down)) ≡ ascii "2 ok 4018000000000000 DOWN Vel 0\n"
  -- ● move 3: 2.5 blocked, 3 free, 4 blocked
  pub move_3_at_2½ : blocking_of (plan_in (answer_of move_3)) 2½ᶠ ≡ Ok true
  pub move_3_at_3 : blocking_of (plan_in (answer_of move_3)) 3ᶠ ≡ Ok false
  pub move_3_at_4 : blocking_of (plan_in (answer_of move_3)) 4ᶠ ≡ Ok true
  -- ● √9 = 3, √-1 NaN
  pub sqrt_9 : sqrt_of 9ᶠ ≡ 3ᶠ
  pub sqrt_minus_1 : sqrt_of (neg 1ᶠ) ≡ nan
  -- ● cube root of -27: -3
  pub cbrt_minus_27 : cbrt_of (neg 27ᶠ) ≡ neg 3ᶠ
  -- ● t = 1: c 1, s 0
  pub c_at_1 : third_angle_cosine_of 1ᶠ ≡ 1ᶠ
  pub s_at_1 : third_angle_sine_of 1ᶠ ≡ 0ᶠ
  -- ● t = -1: c 1/2, s SIN_120
  pub c_at_minus_1 : third_angle_cosine_of (neg 1ᶠ) ≡ ½ᶠ
  pub s_at_minus_1 : third_angle_sine_of (neg 1ᶠ) ≡ sin120
  -- ● quartic -2, 1, 0, 0: roots 0, 1
  pub quartic_double_root : reading (quartic_of (neg 2ᶠ) 1ᶠ 0ᶠ 0ᶠ) ≡ 0ᶠ ∷ 1ᶠ ∷ []
  -- ● 0, 0, -8, 0: 0, 2
  pub quartic_cube_root : reading (quartic_of 0ᶠ 0ᶠ (neg 8ᶠ) 0ᶠ) ≡ 0ᶠ ∷ 2ᶠ ∷ []
  -- ● resting check with phase 3 of 1e12 passes, the next double fails
  pub longest_rest : (checked (resting t_max) UDDU Vel false 1ᶠ ones).ok ≡ true
  pub longer_rest : (checked (resting after_t_max) UDDU Vel false 1ᶠ ones).ok ≡ false
  -- ● totals 1 + 2^-50 then 1: the first, no stretch
  pub near_pair : selected (slot (taking near1 ∷ taking 1ᶠ ∷ [])) 2
      ≡ Ok (block_of (taking near1) no_interval no_interval)
  -- ● 1 and 1 + 2^-49: a stretch
  pub far_pair : selected (slot (taking 1ᶠ ∷ taking past1 ∷ [])) 2
      ≡ Ok (block_of (taking 1ᶠ) (record { stretch = Between 1ᶠ past1; profile = taking past1 }) no_interval)
