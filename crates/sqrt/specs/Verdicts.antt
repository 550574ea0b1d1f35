-- The verdict on a candidate for a square root. Definitions only.
use Rattle.std.specs.Prelude.{◌≡◌, ℕ, ◌+◌, ◌-◌, ◌*◌, ◌/◌, ◌%◌, ◌^◌, ◌<◌, true, cond, T, from_bits}
use Rattle.std.specs.Float.{binary64}
use Rattle.elementary.specs.Functions.{sqrt_of}
use Rattle.sqrt.specs.Roots.{NearestRoot, is_nearest_root}
use Rattle.sqrt.specs.declared.certificate.Verdict.{Verdict}
use Rattle.sqrt.specs.declared.certificate.Verdict.TheVariants.{Nearest, TooLow, TooHigh, Unknown}

-- on r as the whole number nearest to √a
unfoldable pub verdict_of : ℕ → ℕ → Verdict
verdict_of a r =
    cond (is_nearest_root a r) Nearest
    (cond (is_nearest_root a (r + 1)) TooLow (cond (is_nearest_root a (r - 1)) TooHigh Unknown))

-- what it says
abbrev pub Says : ℕ → ℕ → Verdict → Type 0
Says a r Nearest = NearestRoot a r
Says a r TooLow = NearestRoot a (r + 1)
Says a r TooHigh = (0 < r) × NearestRoot a (r - 1)
Says a r Unknown = T true

-- p is the pattern of the root of the double with the pattern b
abbrev pub IsRoot : ℕ → ℕ → Type 0
IsRoot b p = (p < 0x7ff0_0000_0000_0000) × (from_bits binary64 p ≡ sqrt_of (from_bits binary64 b))

-- c is half the exponent of the normal double with the pattern b, and r
abbrev pub IsPattern : ℕ → ℕ → ℕ → Type 0
IsPattern b r c = (b / 2 ^ 52 + 1021) / 2 * 2 ^ 52 + r ≡ c

-- its significand, doubled for an odd exponent
abbrev pub radicand_of : ℕ → ℕ
radicand_of b = (b % 2 ^ 52 + 2 ^ 52) * 2 ^ ((b / 2 ^ 52 + 1021) % 2)

-- what a verdict on c as that pattern says: Unknown, that c has another exponent, or neither
-- it nor a neighbour is the nearest
abbrev pub Certified : ℕ → ℕ → Verdict → Type 0
Certified b c Nearest = IsRoot b c
Certified b c TooLow = IsRoot b (c + 1)
Certified b c TooHigh = (0 < c) × IsRoot b (c - 1)
Certified b c Unknown = (r : ℕ) → r < 2 ^ 53 → IsPattern b r c → verdict_of (radicand_of b * 2 ^ 52) r ≡ Unknown
