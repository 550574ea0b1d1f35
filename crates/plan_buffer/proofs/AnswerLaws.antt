-- What is answered of buffers, case by case, and that a plan's buffer answers for the plan. Assumes nothing.
use Prim.Native.Nat.{ℕ, ◌<◌, ◌≤◌}
use mathlib.Core.Path.{◌≡◌, refl, ap, ◌∙◌}
use mathlib.Core.Bool.{Bool, true, false}
use mathlib.Core.List.{List, ◌++◌}
use native.Mathlib.Omega.{arith}
use borrow.Author.Tests.{lt-ltb, le-ltb, eq-eqb, ne_eqb}
use lib.ListN.{length, drop, length-append}
use lib.Ieee.{Float, eq, of_bits, of_int}
use Rattle.std.proofs.Common.{Result, Ok, Err}
use Rattle.std.specs.Result.{IsErrAnd}
use Rattle.refusals.specs.declared.Refusal.{Refusal}
use Rattle.refusals.specs.Numbers.{refusal_number}
use Rattle.refusals.proofs.NumberLaws.{refused}
use Rattle.block.specs.Blocks.{kind_number, left_end, right_end, inside, is_blocked, blocking_of, blocking_number}
use Rattle.block.specs.declared.Stretch.{Stretch}
use Rattle.block.specs.declared.Stretch.TheVariants.{Nothing, Between, From}
use Rattle.block.specs.declared.Block.{Block}
use Rattle.profile.specs.Layout.{elements, profile_doubles}
use Rattle.planner.specs.Layout.{move_length, move_of}
use Rattle.planner.specs.Answers.{answer_of}
use Rattle.planner.specs.Promise.{Promise, FiniteDuration}
use Rattle.planner.specs.Arrival.{axis_of_plan, Joinable}
use Rattle.planner.specs.declared.Move.{Move}
use Rattle.plan_buffer.specs.Layout.{numeral, profile_numbers, interval_numbers, plan_numbers, plan_length}
use Rattle.plan_buffer.specs.Buffers.{wrong_length, plan_status, plan_written, axis_in, Planned, HoldsJoinable}
use Rattle.plan_buffer.specs.Buffers.{inside_numbers, is_blocked_from, blocking_in, blocking_from, blocked_status}
use Rattle.plan_buffer.specs.Buffers.{error_number, asked_number, Asked}
use Rattle.plan_buffer.specs.declared.error.BufferError.{BufferError}
use Rattle.plan_buffer.specs.declared.error.BufferError.TheVariants.{Refused}
use Rattle.plan_buffer.proofs.LayoutLaws.{plan_length_law}

-- ---- the buffer of a plan, whatever lies beyond it, has the plan's axis
pub axis_in_plan : (b : Block) (rest : List Float) → axis_in (plan_numbers b ++ rest) ≡ axis_of_plan b
unfolding axis_in axis_of_plan plan_numbers interval_numbers profile_numbers profile_doubles elements
axis_in_plan b rest = refl

-- ---- planning: nothing is written unless the status is 0
pub never : {A : Type 0} → ◌≡◌ {A = ℕ} wrong_length 0 → A
never z = absurd (let none : ⊥ = omega arith in none)

-- a refusal that is passed up stays the same
pub is_refused : {A : Type 0} (r : Result A BufferError) (k : Refusal) → IsErrAnd r (λ e. e ≡ Refused k)
    → r ≡ Err (Refused k)
is_refused (Ok _) k h = absurd h
is_refused (Err e) k h = ap Err h

module _ (mv buffer : List Float) where
  pub wrong_move : (length mv ≡ move_length → ⊥) → Planned mv buffer wrong_length buffer
  unfolding plan_status plan_written
  wrong_move h =
      let e = ne_eqb (length mv) move_length h in
      record { status_is = rw e; after_is = rw e; promise = λ z. never z; duration = λ z. never z }

  module _ (of_move : length mv ≡ move_length) where
    pub short_buffer : length buffer < plan_length → Planned mv buffer wrong_length buffer
    unfolding plan_status plan_written
    short_buffer h =
        let e = eq-eqb (length mv) move_length of_move in
        let f = lt-ltb (length buffer) plan_length h in
        record { status_is = rw (e, f); after_is = rw (e, f); promise = λ z. never z; duration = λ z. never z }

    module _ (room : plan_length ≤ length buffer) (x : Move) (ex : x ≡ move_of mv) where
      pub refused_move : (k : Refusal) (error : BufferError) → error ≡ Refused k → Err k ≡ answer_of x
          → Planned mv buffer (error_number error) buffer
      unfolding plan_status plan_written
      refused_move k error ek er =
          let e = eq-eqb (length mv) move_length of_move in
          let f = le-ltb (length buffer) plan_length room in
          let n = ne_eqb (refusal_number k) 0 (λ z. refused k z) in
          record {
            status_is = rw (ek, e, f, ← ex, ← er);
            after_is = rw (e, f, ← ex, ← er, n);
            promise = λ z. refused k (rw ek at z);
            duration = λ z. refused k (rw ek at z);
          }

      pub planned_move : (after : List Float) (b : Block) → Ok b ≡ answer_of x → Promise x (Ok b) → FiniteDuration (Ok b)
          → after ≡ plan_numbers b ++ drop plan_length buffer
          → Planned mv buffer 0 after
      unfolding plan_status plan_written
      planned_move after b er promise duration e =
          let h = eq-eqb (length mv) move_length of_move in
          let f = le-ltb (length buffer) plan_length room in
          record {
            status_is = rw (h, f, ← ex, ← er);
            after_is = rw (h, f, ← ex, ← er) e;
            promise = λ _. rw (← ex, ← er) (promise refl);
            duration = λ _. rw (← ex, ← er) duration;
          }

-- what the buffer of a plan holds is joinable where the plan is
pub holds_joinable : (buffer after : List Float) (b : Block) → Joinable (Ok b)
    → after ≡ plan_numbers b ++ drop plan_length buffer → HoldsJoinable 0 after
holds_joinable buffer after b joinable e = λ _. rw (e, axis_in_plan b (drop plan_length buffer)) (joinable refl)

-- ---- which times are blocked
inside_numbers_law : (s : Stretch) (t : Float)
    → inside_numbers (numeral (kind_number s)) (left_end s) (right_end s) t ≡ inside s t
unfolding eq of_bits of_int
inside_numbers_law Nothing t = refl
inside_numbers_law (Between left right) t = refl
inside_numbers_law (From left) t = refl

-- the buffer of a plan, whatever lies beyond it, answers for the plan
pub blocking_of_plan : (b : Block) (rest : List Float) (t : Float)
    → blocking_from (plan_numbers b ++ rest) t ≡ blocking_number (blocking_of b t)
unfolding blocking_in is_blocked_from plan_numbers interval_numbers profile_numbers profile_doubles elements blocking_of is_blocked
blocking_of_plan b rest t = rw (inside_numbers_law b.a.stretch t, inside_numbers_law b.b.stretch t)

long_enough : (b : Block) (rest : List Float) → plan_length ≤ length (plan_numbers b ++ rest)
long_enough b rest = omega (arith, length-append (plan_numbers b) rest, plan_length_law b)

module _ (buffer : List Float) (t : Float) where
  pub asked_short : length buffer < plan_length → Asked buffer t wrong_length
  unfolding blocked_status
  asked_short h =
      record {
        status_is = rw (lt-ltb (length buffer) plan_length h);
        of_plan = λ b rest e. absurd (let none : ⊥ = omega (arith, long_enough b rest, ap length e) in none);
      }

  pub asked_whole : (r : ℕ) → plan_length ≤ length buffer → r ≡ blocking_from buffer t → Asked buffer t r
  unfolding blocked_status
  asked_whole r h e =
      record {
        status_is = rw (le-ltb (length buffer) plan_length h) e;
        of_plan = λ b rest f. e ∙ ap (λ (l : List Float). blocking_from l t) f ∙ blocking_of_plan b rest t;
      }

  pub asked_answered : (q : Bool) → plan_length ≤ length buffer → Ok q ≡ blocking_in buffer t
      → Asked buffer t (asked_number (Ok q))
  asked_answered q h e = asked_whole _ h (same q ∙ ap blocking_number e)
    where
      same : (q : Bool) → asked_number (Ok q) ≡ blocking_number (Ok q)
      same true = refl
      same false = refl

  pub asked_refused : (k : Refusal) → plan_length ≤ length buffer → Err k ≡ blocking_in buffer t
      → Asked buffer t (asked_number (Err (Refused k)))
  asked_refused k h e = asked_whole _ h (ap blocking_number e)
