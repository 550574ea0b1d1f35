-- The steps of the scan. Definitions only.
use Rattle.std.specs.Prelude.{ℕ, zero, suc, ◌+◌, ◌<◌, ◌≡◌, true, false, cond, ◌&&◌, List, ◌⊎◌, length, Float}
use Rattle.std.specs.Prelude.{Option, Some, None}
use Rattle.std.specs.Option.{option_or}
use Rattle.std.specs.Float.Ieee.{is_nan}
use Rattle.doubles.specs.Operators.{◌<ᶠ◌, at}
use Rattle.doubles.specs.Constants.{0ᶠ}
use Rattle.doubles.specs.Functions.{absᶠ}
use Rattle.doubles.specs.Value.{Finite}
use Rattle.arrival.specs.Axes.{axis_of, has}
use Rattle.arrival.specs.Arrivals.{FreeForAll}
use Rattle.arrival.specs.declared.axis.Axis.{Axis}

-- the right end of a stretch that t is inside
abbrev pub past_stretch : (left right t : Float) → Option Float
past_stretch left right t = cond ((left <ᶠ t) && (t <ᶠ right)) (Some right) None

-- that of the first of an axis's two stretches that t is inside
unfoldable pub past : Axis → Float → Option Float
past x t = option_or (past_stretch x.a.left x.a.right t) (past_stretch x.b.left x.b.right t)

-- how many right ends of the first n axes are above t
unfoldable pub above : (ℕ → Axis) → ℕ → Float → ℕ
above f zero t = 0
above f (suc n) t = above f n t + cond (t <ᶠ (f n).a.right) 1 0 + cond (t <ᶠ (f n).b.right) 1 0

-- a time as the scan has it: a number, and its sign is plus, so it is neither below 0 nor -0
pub record Time (t : Float) : Type 0 where
  pub number : is_nan t ≡ false
  pub unsigned : absᶠ t ≡ t

-- t is one of the first n numbers
pub record Among (l : List Float) (n : ℕ) (t : Float) : Type 0 where
  pub index : ℕ
  pub below : index < n
  pub is : t ≡ at l index

-- the largest of the first n durations, or 0
pub record Latest (durations : List Float) (n : ℕ) (t : Float) : Type 0 where
  pub time : Time t
  pub among : (t ≡ 0ᶠ) ⊎ Among durations n t
  pub none_later : (i : ℕ) → i < n → (t <ᶠ at durations i) ≡ false

module _ (durations ends : List Float) where
  -- a time that the scan has come to: no smaller one is free for all, no duration is longer, and an axis has it
  pub record Reached (t : Float) : Type 0 where
    pub time : Time t
    pub no_smaller : (s : Float) → (s <ᶠ t) ≡ true → FreeForAll durations ends s → ⊥
    pub none_later : (i : ℕ) → i < length durations → (t <ᶠ at durations i) ≡ false
    pub axis : ℕ
    pub there : axis < length durations
    pub has_it : has (axis_of durations ends axis) t ≡ true

  -- and none of the first n axes has it inside a stretch
  pub record Passed (n : ℕ) (t : Float) : Type 0 where
    pub reached : Reached t
    pub outside : (i : ℕ) → i < n → past (axis_of durations ends i) t ≡ None

  -- that is free for all, and finite
  pub record Found (t : Float) : Type 0 where
    pub finite : Finite t
    pub passed : Passed (length durations) t

  -- no finite time is
  abbrev pub NeverFound : Type 0
  NeverFound = (t : Float) → Finite t → FreeForAll durations ends t → ⊥

  -- none of the first n axes has t
  abbrev pub NoneHas : Float → ℕ → Type 0
  NoneHas t n = (i : ℕ) → i < n → has (axis_of durations ends i) t ≡ false

  -- the lowest axis that has t
  pub record Lowest (t : Float) (k : ℕ) : Type 0 where
    pub there : k < length durations
    pub has_it : has (axis_of durations ends k) t ≡ true
    pub lowest : NoneHas t k
