-- Square roots of whole numbers: rounded down with the rest, and rounded to the nearest. Definitions only.
use Rattle.std.specs.Prelude.{◌≡◌, ℕ, ◌+◌, ◌*◌, ◌<◌, ◌≤◌, Bool, ◌&&◌, nat_le, nat_lt}

-- the root of a rounded down, and the rest
pub record WholeRoot (a root rest : ℕ) : Type 0 where
  pub sum : root * root + rest ≡ a
  pub least : rest ≤ 2 * root

-- the whole number nearest to √a: √a lies between r - 1/2 and r + 1/2, whose squares are r² - r + 1/4 and r² + r + 1/4
pub record NearestRoot (a r : ℕ) : Type 0 where
  pub below : r * r < a + r
  pub above : a ≤ r * r + r

-- whether r is that number
abbrev pub is_nearest_root : ℕ → ℕ → Bool
is_nearest_root a r = nat_lt (r * r) (a + r) && nat_le a (r * r + r)
