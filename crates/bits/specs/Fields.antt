-- The fields of a double's bit pattern: its magnitude in units of the smallest double,
-- 2 ^ -1074, and its normalized significand and exponent. Definitions only.
use Rattle.std.specs.Prelude.{◌≡◌, ℕ, zero, suc, ◌+◌, ◌*◌, ◌/◌, ◌%◌, ◌^◌, ◌≤◌, ◌<◌}

-- the magnitude by the biased exponent and the fraction, the 52 digits below the leading one:
-- a biased exponent of 0 has no leading digit
unfoldable pub field_units : ℕ → ℕ → ℕ
field_units zero fraction = fraction
field_units (suc e) fraction = (2 ^ 52 + fraction) * 2 ^ e

-- the magnitude of the pattern b, whose sign bit is 0
unfoldable pub pattern_units : ℕ → ℕ
unfolding field_units
pattern_units b = field_units (b / 2 ^ 52) (b % 2 ^ 52)

-- The significand has all its 53 digits, also of a subnormal double. The magnitude of b is
-- significand * 2 ^ (exponent - 1022) units; the offset 1022 keeps the exponent above 0.
pub record Normalized (b significand exponent : ℕ) : Type 0 where
  pub normal : 2 ^ 52 ≤ significand
  pub fits : significand < 2 ^ 53
  pub most : exponent ≤ 3067
  pub value : significand * 2 ^ exponent ≡ pattern_units b * 2 ^ 1022
