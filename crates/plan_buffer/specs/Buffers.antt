-- What is answered of a move and of a plan that lie in buffers of doubles. Definitions only.
use Rattle.std.specs.Prelude.{ℕ, ◌+◌, ◌≡◌, Bool, true, false, not, cond, ◌&&◌, ◌||◌, List, ◌++◌, eqb, ltb, length, drop}
use Rattle.std.specs.Prelude.{Result, Ok, Err, Float}
use Rattle.std.specs.Float.Ieee.Scale.{finite}
use Rattle.doubles.specs.Operators.{◌<ᶠ◌, ◌==ᶠ◌, at}
use Rattle.doubles.specs.Constants.{1ᶠ, 2ᶠ}
use Rattle.arrival.specs.Axes.{wrong_axis}
use Rattle.arrival.specs.declared.axis.Axis.{Axis}
use Rattle.refusals.specs.declared.Refusal.{Refusal}
use Rattle.refusals.specs.declared.Refusal.TheVariants.{TimeNotFinite}
use Rattle.refusals.specs.Numbers.{refusal_number, number_of}
use Rattle.block.specs.declared.Block.{Block}
use Rattle.block.specs.Blocks.{plan_in, blocking_of, blocking_number}
use Rattle.block.specs.Plans.{Each}
use Rattle.planner.specs.Layout.{move_length, move_of}
use Rattle.planner.specs.Answers.{answer_of}
use Rattle.planner.specs.Promise.{Arrives, FiniteDuration}
use Rattle.plan_buffer.specs.declared.error.BufferError.{BufferError}
use Rattle.plan_buffer.specs.declared.error.BufferError.TheVariants.{WrongLength, Refused}
use Rattle.plan_buffer.specs.Layout.{duration_at, stretch_a_at, stretch_b_at, plan_length, plan_numbers}

-- the archive's own number, for a buffer of a wrong length; no document has it
abbrev pub wrong_length : ℕ
wrong_length = 255

-- why nothing is answered, by its number
abbrev pub error_number : BufferError → ℕ
error_number WrongLength = wrong_length
error_number (Refused refusal) = refusal_number refusal

-- the number of an answer to a move: 0 for a plan
abbrev pub plan_number : Result (Unit {0}) BufferError → ℕ
plan_number (Ok _) = 0
plan_number (Err error) = error_number error

-- of an answer of `is_blocked`: 0 for free, 1 for blocked
abbrev pub asked_number : Result Bool BufferError → ℕ
asked_number (Ok false) = 0
asked_number (Ok true) = 1
asked_number (Err error) = error_number error

-- ---- planning

-- wrong_length where the move isn't as many doubles as a move has, or the buffer has no room for a plan;
-- else 0 for a plan, or the number of its refusal
unfoldable pub plan_status : (mv buffer : List Float) → ℕ
plan_status mv buffer =
    cond (not (eqb (length mv) move_length) || ltb (length buffer) plan_length) wrong_length
    (number_of (answer_of (move_of mv)))

-- what the buffer holds afterwards: the plan and what lies beyond it, or what it held
unfoldable pub plan_written : (mv buffer : List Float) → List Float
plan_written mv buffer =
    cond (eqb (plan_status mv buffer) 0) (plan_numbers (plan_in (answer_of (move_of mv))) ++ drop plan_length buffer) buffer

-- the plan in a buffer, as an axis of a move: its duration and the ends of its stretches
unfoldable pub axis_in : List Float → Axis
axis_in buffer =
    record {
      duration = at buffer duration_at;
      a = record { left = at buffer (stretch_a_at + 1); right = at buffer (stretch_a_at + 2) };
      b = record { left = at buffer (stretch_b_at + 1); right = at buffer (stretch_b_at + 2) };
    }

-- what planning gives: its status, what the buffer holds at the end, and for a plan the planner's promises
pub record Planned (mv buffer : List Float) (status : ℕ) (after : List Float) : Type 0 where
  pub status_is : status ≡ plan_status mv buffer
  pub after_is : after ≡ plan_written mv buffer
  pub promise : status ≡ 0 → Each (Arrives (move_of mv)) (plan_in (answer_of (move_of mv)))
  pub duration : status ≡ 0 → FiniteDuration (answer_of (move_of mv))

-- number 9 doesn't turn back what the buffer holds of a plan
abbrev pub HoldsJoinable : (status : ℕ) → List Float → Type 0
HoldsJoinable status after = status ≡ 0 → wrong_axis (axis_in after) ≡ false

-- ---- which times are blocked

-- inside a stretch of this kind and these ends, the ends excluded
abbrev pub inside_numbers : (kind left right t : Float) → Bool
inside_numbers kind left right t =
    cond (kind ==ᶠ 1ᶠ) ((left <ᶠ t) && (t <ᶠ right)) (cond (kind ==ᶠ 2ᶠ) (left <ᶠ t) false)

-- inside the stretch at this place of a buffer
abbrev pub inside_at : List Float → ℕ → Float → Bool
inside_at buffer i t = inside_numbers (at buffer i) (at buffer (i + 1)) (at buffer (i + 2)) t

-- below the plan's duration, or inside a stretch
unfoldable pub is_blocked_from : List Float → Float → Bool
is_blocked_from buffer t = (t <ᶠ at buffer duration_at) || inside_at buffer stretch_a_at t || inside_at buffer stretch_b_at t

-- `is_blocked`'s answer, and its number: 0 free, 1 blocked, 6 where t isn't finite
unfoldable pub blocking_in : List Float → Float → Result Bool Refusal
blocking_in buffer t = cond (finite t) (Ok (is_blocked_from buffer t)) (Err TimeNotFinite)

abbrev pub blocking_from : List Float → Float → ℕ
blocking_from buffer t = blocking_number (blocking_in buffer t)

-- wrong_length where the buffer is shorter than a plan
unfoldable pub blocked_status : List Float → Float → ℕ
blocked_status buffer t = cond (ltb (length buffer) plan_length) wrong_length (blocking_from buffer t)

-- what is answered: for any buffer its status, and for one that holds a plan the answer of `is_blocked`
pub record Asked (buffer : List Float) (t : Float) (status : ℕ) : Type 0 where
  pub status_is : status ≡ blocked_status buffer t
  pub of_plan : (b : Block) (rest : List Float) → buffer ≡ plan_numbers b ++ rest
      → status ≡ blocking_number (blocking_of b t)
