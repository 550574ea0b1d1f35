-- What a rounding error is measured by: half a unit in the last place, as a share of the exact
-- result. Definitions only.
use Rattle.std.specs.Prelude.{ℕ, ◌+◌, ◌*◌, ◌≤◌}
use Rattle.doubles.specs.Signed.{Signed, ◌⊙◌, Near, Within, size}

-- w times the distance of x and n is at most e
pub record ErrorAtMost (w x n e : ℕ) : Type 0 where
  pub low : w * x ≤ w * n + e
  pub high : w * n ≤ w * x + e

-- r is x with a relative error of at most 1 / w
abbrev pub RelativeError : ℕ → Signed → Signed → Type 0
RelativeError w r x = Near (w ⊙ r) (w ⊙ x) (size x)

-- u * r is x with a relative error of at most 1 / w, and h / w of u besides: where r
-- underflows, its error is half a unit
abbrev pub RelativeErrorOrUnderflow : ℕ → ℕ → ℕ → Signed → Signed → Type 0
RelativeErrorOrUnderflow w h u r x = Near (w ⊙ (u ⊙ r)) (w ⊙ x) (size x + h * u)

-- ---- over a chain of rounded operations

-- 2 ^ 53
abbrev pub W : ℕ
W = 9007199254740992

-- 2 ^ 52
abbrev pub H : ℕ
H = 4503599627370496

-- r is x / d, up to k roundings of numbers of size at most m / d, and τ for what underflows.
-- Each of the k roundings counts as 17 / 16 of 2 ^ -53 of the size: a sixteenth more than one
-- rounding's bound, which pays for rounding what was rounded before, for up to eight.
pub record Approx (r x : Signed) (d k m τ : ℕ) : Type 0 where
  pub near : Near ((16 * W) ⊙ (d ⊙ r)) ((16 * W) ⊙ x) (17 * (k * m) + τ)
  pub bound : Within x m
