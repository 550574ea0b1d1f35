-- Whole numbers in decimal. Definitions only.
use Rattle.std.specs.Prelude.{ℕ, zero, suc, ◌+◌, ◌^◌, cond, List, ltb}
use Rattle.io.specs.Digits.{last_digits}

-- the least of k, k + 1, .. k + more for which as many decimal digits hold n
abbrev pub least_from : (k more n : ℕ) → ℕ
least_from k zero n = k
least_from k (suc more) n = cond (ltb n (10 ^ k)) k (least_from (suc k) more n)

-- the decimal digits of a number below 10^20, with no zero in front
unfoldable pub decimal : ℕ → List ℕ
decimal n = last_digits 10 (least_from 1 19 n) n

-- how many digits a word may have, and with a space in front
abbrev pub decimal_width : ℕ
decimal_width = 20

abbrev pub number_width : ℕ
number_width = 1 + decimal_width
