-- Plans as the axes of a move: what the arrival of several axes reads of each plan, and what it tells of them.
-- Definitions only.
use Rattle.std.specs.Prelude.{ℕ, ◌<◌, ◌≡◌, true, false, List, [], ◌∷◌, ◌++◌, length, get_or, Result, Ok, Err, Float}
use Rattle.doubles.specs.Operators.{◌<ᶠ◌}
use Rattle.doubles.specs.Value.{Finite}
use Rattle.block.specs.Blocks.{left_end, right_end, both_ends, empty_block, blocking_of, Answer, plan_in}
use Rattle.block.specs.declared.Block.{Block}
use Rattle.refusals.specs.Numbers.{number_of}
use Rattle.arrival.specs.Axes.{wrong_axis}
use Rattle.arrival.specs.declared.axis.Axis.{Axis}
use Rattle.arrival.specs.declared.answer.Arrival.{Arrival}
use Rattle.refusals.specs.declared.Refusal.{Refusal}
use Rattle.refusals.specs.declared.Refusal.TheVariants.{NeverFree}

-- a plan's shortest duration and the ends of its stretches: a missing one is 0 and 0, one from a time on ends at
-- infinity
unfoldable pub axis_of_plan : Block → Axis
axis_of_plan b =
    record {
      duration = b.t_min;
      a = record { left = left_end b.a.stretch; right = right_end b.a.stretch };
      b = record { left = left_end b.b.stretch; right = right_end b.b.stretch };
    }

-- number 9 doesn't turn back what was planned
abbrev pub Joinable : Answer → Type 0
Joinable r = number_of r ≡ 0 → wrong_axis (axis_of_plan (plan_in r)) ≡ false

-- ---- several plans

-- the two slices: the durations in order, and four ends for each plan
unfoldable pub plan_durations : List Block → List Float
plan_durations [] = []
plan_durations (b ∷ bs) = b.t_min ∷ plan_durations bs

unfoldable pub plan_ends : List Block → List Float
plan_ends [] = []
plan_ends (b ∷ bs) = both_ends b.a.stretch ++ both_ends b.b.stretch ++ plan_ends bs

-- plan i
abbrev pub plan_at : List Block → ℕ → Block
plan_at bs i = get_or bs i empty_block

-- each of the plans could be joined
abbrev pub AllJoinable : List Block → Type 0
AllJoinable bs = (i : ℕ) → i < length bs → wrong_axis (axis_of_plan (plan_at bs i)) ≡ false

-- `is_blocked` says of each plan that t is free
abbrev pub AllFree : List Block → Float → Type 0
AllFree bs t = (i : ℕ) → i < length bs → blocking_of (plan_at bs i) t ≡ Ok false

-- what the arrival tells of the plans: each is free at its time, and at no smaller finite time all are; or at no finite
-- time all are
abbrev pub Meets : List Block → Result Arrival Refusal → Type 0
Meets bs (Ok x) = AllFree bs x.time × ((t : Float) → Finite t → (t <ᶠ x.time) ≡ true → AllFree bs t → ⊥)
Meets bs (Err refusal) = (refusal ≡ NeverFree) × ((t : Float) → Finite t → AllFree bs t → ⊥)
