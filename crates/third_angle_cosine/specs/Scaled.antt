-- t and 1 + t as whole numbers of two limbs. Definitions only.
use Rattle.std.specs.Prelude.{◌≡◌, ℕ, zero, suc, ◌+◌, ◌-◌, ◌*◌, ◌/◌, ◌%◌, ◌^◌, ◌≤◌, ◌<◌}

-- n * 2 ^ shift in two limbs
pub record Shifted (n shift high low : ℕ) : Type 0 where
  pub value : high * 2 ^ 54 + low ≡ n * 2 ^ shift
  pub high_fits : high < 2 ^ 52
  pub low_fits : low < 2 ^ 54

-- the size of t in units of 2 ^ -106, by the pattern m
abbrev pub size_at : ℕ → ℕ
size_at m = (m % 2 ^ 52 + 2 ^ 52) * 2 ^ (m / 2 ^ 52 - 969)

-- e is 2 ^ 106 + t, or 2 ^ 106 - t where the sign bit is 1
abbrev pub IsOnePlus : ℕ → ℕ → ℕ → Type 0
IsOnePlus zero t e = e ≡ 2 ^ 106 + t
IsOnePlus (suc s) t e = e + t ≡ 2 ^ 106

pub record Target (sign m high low : ℕ) : Type 0 where
  pub value : IsOnePlus sign (size_at m) (high * 2 ^ 54 + low)
  pub high_fits : high < 2 ^ 56
  pub low_fits : low ≤ 2 ^ 54
