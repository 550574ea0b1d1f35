-- The exact value of a double, over whole numbers: every finite double is a whole multiple of
-- 2 ^ -1074. Promises are stated with these. Definitions only.
use Rattle.std.specs.Prelude.{ℕ, ◌*◌, ◌/◌, ◌^◌, cond, ℤ, pos, neg_ℤ, nat_abs, Float}
use Rattle.std.specs.Float.{nan, inf, fin}
use Rattle.std.specs.Float.Ieee.{up, down}

-- 1 is this many times 2 ^ -1074
unfoldable pub scale : ℕ
scale = 2 ^ 1074

-- 2 ^ 1074 times a finite double; 0 for a NaN or an infinity, of which no promise speaks
unfoldable pub exact : Float → ℤ
exact nan = pos 0
exact (inf s) = pos 0
exact (fin s m e) = cond s (neg_ℤ (pos (m * up e * scale / down e))) (pos (m * up e * scale / down e))

-- and without its sign
abbrev pub exact_size : Float → ℕ
exact_size x = nat_abs (exact x)
