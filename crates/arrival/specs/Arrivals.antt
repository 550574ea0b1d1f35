-- One arrival time for all axes of a move: the earliest duration that none of them blocks, with the axis that has it,
-- or document 02's number 9 or 10. Definitions only.
use Rattle.std.specs.Prelude.{ℕ, ◌*◌, ◌<◌, ◌≡◌, Bool, true, false, not, ◌||◌, ◌⊎◌, Result, Ok, Err, List, eqb, ltb}
use Rattle.std.specs.Prelude.{length, Float}
use Rattle.refusals.specs.Numbers.{number_of}
use Rattle.refusals.specs.declared.Refusal.{Refusal}
use Rattle.refusals.specs.declared.Refusal.TheVariants.{WrongAxes, NeverFree}
use Rattle.doubles.specs.Operators.{◌<ᶠ◌}
use Rattle.doubles.specs.Constants.{0ᶠ}
use Rattle.doubles.specs.Functions.{absᶠ}
use Rattle.doubles.specs.Value.{Fits, Finite}
use Rattle.arrival.specs.Axes.{axes_most, ends_length, axis_of, free, has, wrong_axis}
use Rattle.arrival.specs.declared.answer.Arrival.{Arrival}

-- ---- the paper's values for each answer; its number is `number_of`
abbrev pub arrival_time : Result Arrival Refusal → Float
arrival_time (Ok arrival) = arrival.time
arrival_time (Err _) = 0ᶠ

abbrev pub arrival_axis : Result Arrival Refusal → ℕ
arrival_axis (Ok arrival) = arrival.axis
arrival_axis (Err _) = 0

module _ (durations ends : List Float) where
  -- ---- number 9

  -- no axes or more than 8, or a second slice not four times the first
  unfoldable pub wrong_count : Bool
  wrong_count =
      eqb (length durations) 0
      || ltb axes_most (length durations)
      || not (eqb (length ends) (ends_length * length durations))

  -- it doesn't apply
  pub record WellFormed : Type 0 where
    pub count : wrong_count ≡ false
    pub axes : (i : ℕ) → i < length durations → wrong_axis (axis_of durations ends i) ≡ false

  -- ---- the time

  -- none of the axes blocks t
  abbrev pub FreeForAll : Float → Type 0
  FreeForAll t = (i : ℕ) → i < length durations → free (axis_of durations ends i) t ≡ true

  -- the time is a finite double, no -0, that is free for all axes, and no smaller double is; the axis is the lowest
  -- that has it as shortest duration or right end
  pub record Earliest (time : Float) (axis : ℕ) : Type 0 where
    pub double : Fits time
    pub finite : Finite time
    pub not_minus_zero : absᶠ time ≡ time
    pub free : FreeForAll time
    pub no_smaller : (t : Float) → (t <ᶠ time) ≡ true → FreeForAll t → ⊥
    pub there : axis < length durations
    pub has_it : has (axis_of durations ends axis) time ≡ true
    pub lowest : (i : ℕ) → i < axis → has (axis_of durations ends i) time ≡ false

  -- ---- the answer: one and only one is it (proofs/ArrivalLaws.antt)

  -- number 9 applies, or no finite time is free for all
  abbrev pub IsRefused : Refusal → Type 0
  IsRefused refusal =
      ((refusal ≡ WrongAxes) × (WellFormed → ⊥))
      ⊎ ((refusal ≡ NeverFree) × WellFormed × ((t : Float) → Finite t → FreeForAll t → ⊥))

  abbrev pub IsArrival : Result Arrival Refusal → Type 0
  IsArrival (Ok arrival) = WellFormed × Earliest arrival.time arrival.axis
  IsArrival (Err refusal) = IsRefused refusal

  -- the answer in three numbers, as programs in C and Rust are given it: on a refusal time 0 and axis 0
  pub record Given (number : ℕ) (time : Float) (axis : ℕ) : Type 0 where
    pub answer : Result Arrival Refusal
    pub is_arrival : IsArrival answer
    pub number_is : number ≡ number_of answer
    pub time_is : time ≡ arrival_time answer
    pub axis_is : axis ≡ arrival_axis answer

-- ---- what users rely on: the order of the axes changes no time

-- as many axes and ends, and each axis of either is an axis of the other, as after a permutation
pub record SameAxes (durations ends durations' ends' : List Float) : Type 0 where
  pub as_many_axes : length durations ≡ length durations'
  pub as_many_ends : length ends ≡ length ends'
  pub from : (i : ℕ) → i < length durations → ℕ
  pub from_there : (i : ℕ) (l : i < length durations) → from i l < length durations'
  pub from_is : (i : ℕ) (l : i < length durations) → axis_of durations ends i ≡ axis_of durations' ends' (from i l)
  pub to : (i : ℕ) → i < length durations' → ℕ
  pub to_there : (i : ℕ) (l : i < length durations') → to i l < length durations
  pub to_is : (i : ℕ) (l : i < length durations') → axis_of durations' ends' i ≡ axis_of durations ends (to i l)
