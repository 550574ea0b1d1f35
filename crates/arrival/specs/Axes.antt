-- An axis of a move: its shortest duration, and the ends of two stretches of longer durations that it blocks. Which
-- times are free for it, and when it is turned back by number 9. -0 counts as 0: no comparison tells them apart.
-- Definitions only.
use Rattle.std.specs.Prelude.{ℕ, ◌+◌, ◌*◌, Bool, not, ◌&&◌, ◌||◌, List, Float}
use Rattle.std.specs.Float.Ieee.{is_nan}
use Rattle.std.specs.Float.Ieee.Scale.{finite}
use Rattle.doubles.specs.Operators.{◌<ᶠ◌, ◌==ᶠ◌, at}
use Rattle.doubles.specs.Constants.{0ᶠ}
use Rattle.arrival.specs.declared.axis.Axis.{Axis}

-- how many axes there may be, and how many ends each has
abbrev pub axes_most : ℕ
axes_most = 8

abbrev pub ends_length : ℕ
ends_length = 4

-- axis i of the two slices: of its four ends, left and right of each stretch
unfoldable pub axis_of : (durations ends : List Float) → ℕ → Axis
axis_of durations ends i =
    record {
      duration = at durations i;
      a = record { left = at ends (ends_length * i); right = at ends (ends_length * i + 1) };
      b = record { left = at ends (ends_length * i + 2); right = at ends (ends_length * i + 3) };
    }

-- a missing stretch is 0 and 0
abbrev pub missing : (left right : Float) → Bool
missing left right = (left ==ᶠ 0ᶠ) && (right ==ᶠ 0ᶠ)

-- ---- which times are free

-- t is inside a stretch that is there, its ends excluded: one "from t on" ends at infinity, and leaves t itself free
abbrev pub blocks : (left right t : Float) → Bool
blocks left right t = not (missing left right) && ((left <ᶠ t) && (t <ᶠ right))

-- t is not below the shortest duration, and inside no stretch
unfoldable pub free : Axis → Float → Bool
free x t =
    not (t <ᶠ x.duration) && not (blocks x.a.left x.a.right t) && not (blocks x.b.left x.b.right t)

-- ---- which axis it is that has t

-- t is the right end of a stretch that is there
abbrev pub ends_at : (left right t : Float) → Bool
ends_at left right t = not (missing left right) && (right ==ᶠ t)

-- t is its shortest duration or a right end
unfoldable pub has : Axis → Float → Bool
has x t =
    (x.duration ==ᶠ t) || ends_at x.a.left x.a.right t || ends_at x.b.left x.b.right t

-- ---- number 9, of an axis

-- a stretch that is there, whose left end isn't finite or is below the duration, or whose right end is NaN or below the
-- left
abbrev pub wrong_stretch : (duration left right : Float) → Bool
wrong_stretch duration left right =
    not (missing left right) && (not (finite left) || (left <ᶠ duration) || is_nan right || (right <ᶠ left))

-- a duration below 0 or not finite, or such a stretch
unfoldable pub wrong_axis : Axis → Bool
wrong_axis x =
    (x.duration <ᶠ 0ᶠ)
    || not (finite x.duration)
    || wrong_stretch x.duration x.a.left x.a.right
    || wrong_stretch x.duration x.b.left x.b.right
