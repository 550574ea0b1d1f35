-- Moves that show what the promise of demand 3 is about, and in which order moves and records are turned back.
-- Definitions only.
use Rattle.std.specs.Prelude.{◌≡◌, [], ◌∷◌, ◌++◌, take, set, Err, Float}
use Rattle.std.specs.Float.{nan, binary64}
use Rattle.std.specs.Float.Ieee.{of_bits, neg}
use Rattle.doubles.specs.Constants.{0ᶠ, ½ᶠ, 1ᶠ, 2ᶠ, 3ᶠ, 4ᶠ, 6ᶠ}
use Rattle.refusals.specs.declared.Refusal.TheVariants.{NotFinite, WrongSign, WrongDuration, NoProfile, NoRemoval}
use Rattle.refusals.specs.Numbers.{number_of}
use Rattle.block.specs.Blocks.{plan_in}
use Rattle.block.specs.declared.Stretch.TheVariants.{Between}
use Rattle.planner.specs.Answers.{answer_of}
use Rattle.planner.specs.Promise.{Promise}
use Rattle.planner.specs.declared.Move.{Move}
use Rattle.profile_lines.specs.Text.{ascii}
use Rattle.moves.specs.Records.{record_of}
use Rattle.moves.specs.Lines.{line_of}
use Rattle.moves.specs.Replies.{reply_of}
use Rattle.shop_checks.specs.Records.{record_bytes}
use Rattle.shop_checks.specs.ShopChecks.{move_1, move_2, move_4}

-- from 0 to 6 at the speed 2, the largest: in 3 s as it is, or in 6 s by way of a rest
abbrev pub passing : Move
passing =
    record {
      start = record { p0 = 0ᶠ; v0 = 2ᶠ; a0 = 0ᶠ };
      target = record { pf = 6ᶠ; vf = 2ᶠ; af = 0ᶠ };
      limits = record { v_max = 2ᶠ; v_min = neg 2ᶠ; a_max = 1ᶠ; a_min = neg 1ᶠ; j_max = 1ᶠ };
      brake = 0ᶠ;
      accel = 0ᶠ;
    }

pub record PromiseApplies : Type 0 where
  -- move 2 is accepted, and so is a move with a stretch between two times: the promise has something to say
  pub move_2_accepted : number_of (answer_of move_2) ≡ 0
  pub passing_accepted : number_of (answer_of passing) ≡ 0
  pub passing_blocked : (plan_in (answer_of passing)).a.stretch ≡ Between 3ᶠ 6ᶠ
  -- one plan for every move breaks it: that of move 1, the boundary with zero times, on move 2, and that of move 2 on
  -- move 1
  pub staying_breaks_it : Promise move_2 (answer_of move_1) → ⊥
  pub leaving_breaks_it : Promise move_1 (answer_of move_2) → ⊥

-- move 2 with another start, jerk and brake duration
abbrev pub wrong : (p0 j brake : Float) → Move
wrong p0 j brake =
    record {
      start = record { p0 = p0; v0 = 0ᶠ; a0 = 0ᶠ };
      target = record { pf = 4ᶠ; vf = 0ᶠ; af = 0ᶠ };
      limits = record { v_max = 1ᶠ; v_min = neg 1ᶠ; a_max = 1ᶠ; a_min = neg 1ᶠ; j_max = j };
      brake = brake;
      accel = 0ᶠ;
    }

-- to a place 2^-52 away, with the opposite speed: four profiles are accepted, and no two are near enough for one to go
abbrev pub turning : Move
turning =
    record {
      start = record { p0 = 1ᶠ; v0 = ½ᶠ; a0 = neg 1ᶠ };
      target = record { pf = of_bits binary64 0x3ff0_0000_0000_0001; vf = neg ½ᶠ; af = neg 1ᶠ };
      limits = record { v_max = 1ᶠ; v_min = neg 2ᶠ; a_max = 2ᶠ; a_min = neg 2ᶠ; j_max = 1ᶠ };
      brake = 0ᶠ;
      accel = 0ᶠ;
    }

-- where several refusals apply, the first of document 01's table is given; each leaves the empty plan
pub record RefusalsInOrder : Type 0 where
  pub all_wrong : answer_of (wrong nan (neg 1ᶠ) (neg 1ᶠ)) ≡ Err NotFinite
  pub limits_and_duration_wrong : answer_of (wrong 0ᶠ (neg 1ᶠ) (neg 1ᶠ)) ≡ Err WrongSign
  pub duration_wrong : answer_of (wrong 0ᶠ 0ᶠ (neg 1ᶠ)) ≡ Err WrongDuration
  pub none_accepted : answer_of move_4 ≡ Err NoProfile
  pub four_accepted : answer_of turning ≡ Err NoRemoval

-- refusal 8, also of a record whose numbers are wrong: the input ends after 106 bytes or after one, the length is 104,
-- the version 2. No byte is no record, and a byte
-- behind a whole one isn't read
pub record RefusedRecords : Type 0 where
  pub cut : reply_of line_of 1 (record_of (take 106 (record_bytes move_4))) ≡ ascii "1 refused 8\n"
  pub cut_at_once : reply_of line_of 1 (record_of (take 1 (record_bytes move_4))) ≡ ascii "1 refused 8\n"
  pub wrong_length_law : reply_of line_of 1 (record_of (set (record_bytes move_4) 1 104)) ≡ ascii "1 refused 8\n"
  pub wrong_version : reply_of line_of 1 (record_of (set (record_bytes move_4) 2 2)) ≡ ascii "1 refused 8\n"
  pub before_1 : reply_of line_of 1 (record_of (set (record_bytes (wrong nan 1ᶠ 0ᶠ)) 2 2)) ≡ ascii "1 refused 8\n"
  pub nothing : reply_of line_of 1 (record_of []) ≡ []
  pub behind : reply_of line_of 1 (record_of (record_bytes (wrong nan 1ᶠ 0ᶠ) ++ 7 ∷ [])) ≡ ascii "1 refused 1\n"
