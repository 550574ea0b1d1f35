-- A plan: the shortest of the accepted profiles and at most two blocked stretches of time. Which times are blocked. Definitions only.
use Rattle.std.specs.Prelude.{ℕ, ◌≡◌, Bool, true, false, cond, ◌&&◌, ◌||◌, List, [], ◌∷◌, ◌↔◌, Result, Ok, Err, Float}
use Rattle.std.specs.Float.{inf}
use Rattle.std.specs.Float.Ieee.Scale.{finite}
use Rattle.doubles.specs.Operators.{◌+ᶠ◌, ◌<ᶠ◌, at}
use Rattle.doubles.specs.Constants.{0ᶠ}
use Rattle.profile.specs.Boundary.{empty_profile}
use Rattle.profile.specs.declared.Profile.{Profile}
use Rattle.block.specs.declared.Stretch.{Stretch}
use Rattle.block.specs.declared.Stretch.TheVariants.{Nothing, Between, From}
use Rattle.block.specs.declared.Interval.{Interval}
use Rattle.block.specs.declared.Block.{Block}
use Rattle.refusals.specs.declared.Refusal.{Refusal}
use Rattle.refusals.specs.declared.Refusal.TheVariants.{TimeNotFinite}
use Rattle.refusals.specs.Numbers.{refusal_number}

-- the sum of a profile's seven times, and what a move by it takes with brake and accel
unfoldable pub total : Profile → Float
total q = at q.t_sum 6

unfoldable pub duration : Profile → Float
duration q = total q +ᶠ q.brake +ᶠ q.accel

-- no stretch, and a stretch from a time on: beside either lies the empty profile
unfoldable pub no_interval : Interval
no_interval = record { stretch = Nothing; profile = empty_profile }

unfoldable pub interval_from : Float → Interval
interval_from t = record { stretch = From t; profile = empty_profile }

-- `Interval::from_profiles`: between two durations, beside it the profile of the longer one, the left at equality
unfoldable pub interval_between : Profile → Profile → Interval
interval_between left right =
    cond (duration left <ᶠ duration right)
    (record { stretch = Between (duration left) (duration right); profile = right })
    (record { stretch = Between (duration right) (duration left); profile = left })

-- `set_min_profile` with these stretches
unfoldable pub block_of : Profile → Interval → Interval → Block
block_of q a b = record { t_min = duration q; p_min = q; a = a; b = b }

-- all doubles 0, UP, UDDU, limits None, no stretch
unfoldable pub empty_block : Block
empty_block = record { t_min = 0ᶠ; p_min = empty_profile; a = no_interval; b = no_interval }

-- a plan, or why there is none
abbrev pub Answer : Type 0
Answer = Result Block Refusal

-- its plan; a refusal leaves the empty plan
abbrev pub plan_in : Answer → Block
plan_in (Ok b) = b
plan_in (Err refusal) = empty_block

-- ---- document 01's values for each case of a stretch

-- how many stretches it is
abbrev pub count_of : Stretch → ℕ
count_of Nothing = 0
count_of (Between left right) = 1
count_of (From left) = 1

-- its ends: 0 for nothing; a stretch from a time on ends at infinity
abbrev pub left_end : Stretch → Float
left_end Nothing = 0ᶠ
left_end (Between left right) = left
left_end (From left) = left

abbrev pub right_end : Stretch → Float
right_end Nothing = 0ᶠ
right_end (Between left right) = right
right_end (From left) = inf false

-- both, the left one first
abbrev pub both_ends : Stretch → List Float
both_ends s = left_end s ∷ right_end s ∷ []

-- the same, and none of nothing
abbrev pub ends_of : Stretch → List Float
ends_of Nothing = []
ends_of (Between left right) = both_ends (Between left right)
ends_of (From left) = both_ends (From left)

-- the number of its kind
abbrev pub kind_number : Stretch → ℕ
kind_number Nothing = 0
kind_number (Between left right) = 1
kind_number (From left) = 2

-- ---- which times are blocked

-- inside a stretch, its ends excluded; of a stretch from a time on every later time
abbrev pub inside : Stretch → Float → Bool
inside Nothing t = false
inside (Between left right) t = (left <ᶠ t) && (t <ᶠ right)
inside (From left) t = left <ᶠ t

-- below the plan's duration, or inside a stretch
unfoldable pub is_blocked : Block → Float → Bool
is_blocked b t = (t <ᶠ b.t_min) || inside b.a.stretch t || inside b.b.stretch t

-- `is_blocked`: yes or no, and for a time that isn't finite a refusal
unfoldable pub blocking_of : Block → Float → Result Bool Refusal
blocking_of b t = cond (finite t) (Ok (is_blocked b t)) (Err TimeNotFinite)

-- the number of each answer: of no 0, of yes 1, and of a refusal its own
abbrev pub blocking_number : Result Bool Refusal → ℕ
blocking_number (Ok false) = 0
blocking_number (Ok true) = 1
blocking_number (Err refusal) = refusal_number refusal

-- what `is_blocked` says of the time t: the definition's answer, whose number is 6 if and only if t isn't finite
pub record Says (b : Block) (t : Float) (r : Result Bool Refusal) : Type 0 where
  pub answer : r ≡ blocking_of b t
  pub six : (blocking_number r ≡ 6) ↔ (finite t ≡ false)
