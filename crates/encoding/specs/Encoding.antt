-- A double's bit pattern as eight bytes, the highest first, and as sixteen hexadecimal digits
-- with capital letters. Definitions only.
use Rattle.std.specs.Prelude.{ℕ, zero, suc, ◌+◌, ◌*◌, ◌/◌, ◌%◌, ◌^◌, cond, List, [], ◌∷◌, ◌++◌, ltb, Float, drop, get_or}
use Rattle.std.specs.Float.{binary64}
use Rattle.std.specs.Float.Ieee.{of_bits}

-- the number of eight bytes, the highest first
abbrev pub big_endian : List ℕ → ℕ
big_endian b =
    ((((((get_or b 0 0 * 256 + get_or b 1 0) * 256 + get_or b 2 0) * 256 + get_or b 3 0) * 256 + get_or b 4 0) * 256
    + get_or b 5 0) * 256 + get_or b 6 0) * 256 + get_or b 7 0

-- the double of the eight bytes from `at` on; every NaN's pattern is the one NaN
abbrev pub double_at : List ℕ → ℕ → Float
double_at b at = of_bits binary64 (big_endian (drop at b))

-- n doubles one behind the other, the first of them at `at`
unfoldable pub doubles_at : List ℕ → (at n : ℕ) → List Float
doubles_at b at zero = []
doubles_at b at (suc n) = doubles_at b at n ++ double_at b (at + 8 * n) ∷ []

-- the ASCII of a hexadecimal digit: 0 to 9, A to F
unfoldable pub hex_digit : ℕ → ℕ
hex_digit d = cond (ltb d 10) (48 + d) (55 + d)

-- the last n digits of w
abbrev pub hex_digits : ℕ → ℕ → List ℕ
hex_digits zero w = []
hex_digits (suc n) w = hex_digit (w / 16 ^ n % 16) ∷ hex_digits n w
