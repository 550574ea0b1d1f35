-- A positive real number as its comparison with whole numbers, and the value of a format that
-- is nearest to it, a tie to the even significand. Definitions only.
--
-- The numbers of a format are whole multiples of its smallest positive value, the unit. A real
-- is compared with whole numbers of half units, because the midpoint of v units and w units is v + w half units.
use Rattle.std.specs.Prelude.{◌≡◌, ◌⊎◌, Bool, true, false, cond, T, Float}
use Prim.Native.Nat.{ℕ, zero, suc, ◌+◌, ◌-◌, ◌*◌, ◌/◌, ◌^◌, ◌<◌, Ordering}
use Rattle.std.proofs.Math.Dec.{is_le}
use Rattle.std.specs.Float.{Format}
use Rattle.std.specs.Float.Ieee.{prec, size, nearest, units}
use Rattle.std.specs.Float.Ieee.Exact.{HasValue}

-- `real n` says how the real compares with n half units. `lt`: it is less than n. `eq`: it is n. `gt`: it is greater.
abbrev pub Real : Type 0
Real = ℕ → Ordering

abbrev pub is_ge : Ordering → Bool
is_ge Ordering.lt = false
is_ge Ordering.eq = true
is_ge Ordering.gt = true

-- n half units are at most the real; are at least the real
abbrev pub AtMost : ℕ → Real → Type 0
AtMost n real = T (is_ge (real n))

abbrev pub AtLeast : ℕ → Real → Type 0
AtLeast n real = T (is_le (real n))

-- n half units are greater than the real
abbrev pub Above : ℕ → Real → Type 0
Above n real = real n ≡ Ordering.lt

-- what is less than a number at most the real is below the real
abbrev pub Monotone : Real → Type 0
Monotone real = (a b : ℕ) → a < b → AtMost b real → real a ≡ Ordering.gt

-- the comparison is that of a real number, from 0 up to 2 ^ d half units
pub record Bounded (real : Real) (d : ℕ) : Type 0 where
  pub monotone : Monotone real
  pub nonneg : AtMost 0 real
  pub bound : Above (2 ^ d) real

-- ---- what nearest means

-- w units are a number of at most p binary digits, with zeros after them
abbrev pub Representable : ℕ → ℕ → Type 0
Representable p w = (m : ℕ) × (j : ℕ) × (m < 2 ^ p) × (w ≡ m * 2 ^ j)

-- r is an even multiple of the distance 2 ^ k between it and its neighbour w
abbrev pub EvenBeside : ℕ → ℕ → Type 0
EvenBeside w r = (h : ℕ) × (k : ℕ) × (r ≡ 2 * h * 2 ^ k) × ((w ≡ r + 2 ^ k) ⊎ (w + 2 ^ k ≡ r))

-- Among the numbers of p digits none is nearer to the real than r: the midpoint of r and any w
-- below r is at most the real, and the midpoint of r and any w above r is at least the real.
-- Where another number is as near as r, it is a neighbour of r, and r is the even one.
pub record Nearest (p : ℕ) (real : Real) (r : ℕ) : Type 0 where
  pub representable : Representable p r
  pub below : (w : ℕ) → Representable p w → w < r → AtMost (w + r) real
  pub above : (w : ℕ) → Representable p w → r < w → AtLeast (w + r) real
  pub tie : (w : ℕ) → Representable p w → (w ≡ r → ⊥) → real (w + r) ≡ Ordering.eq → EvenBeside w r

-- y is finite and has the sign s, and its size, in units of 2 ^ -1074, is the number of 53 digits nearest to the real
abbrev pub NearestDouble : Float → Bool → Real → Type 0
NearestDouble y s real = (r : ℕ) × HasValue y s r (2 ^ 1074) × Nearest 53 real r

-- ---- the nearest, computed

-- n with the d binary digits below it chosen from the highest down, each set where the number
-- is then still at most the real
unfoldable pub floor_from : Real → ℕ → ℕ → ℕ
floor_from real zero n = n
floor_from real (suc d) n = floor_from real d (n + cond (is_ge (real (n + 2 ^ d))) (2 ^ d) 0)

-- the largest whole number of half units that is at most a real below 2 ^ d half units
unfoldable pub floor_of : Real → ℕ → ℕ
unfolding floor_from
floor_of real d = floor_from real d 0

-- The exponent of the last place, in units, where p digits of the real's whole units are kept;
-- and the significand in that place: the floor's p digits q, or q + 1, by how the real
-- compares with the midpoint of the two.
unfoldable pub exponent_of : ℕ → Real → ℕ → ℕ
unfolding floor_of size
exponent_of p real d = size (floor_of real d / 2) - p

unfoldable pub significand_of : ℕ → Real → ℕ → ℕ
unfolding floor_of exponent_of
significand_of p real d =
    let k = exponent_of p real d in
    let q = floor_of real d / 2 ^ suc k in
    nearest q (real ((2 * q + 1) * 2 ^ k))

-- the number of p digits nearest to a real below 2 ^ d half units, in units
abbrev pub nearest_units : ℕ → Real → ℕ → ℕ
nearest_units p real d = significand_of p real d * 2 ^ exponent_of p real d

-- the value of the format f nearest to such a real, with the sign s
unfoldable pub nearest_to : Format → Bool → Real → ℕ → Float
unfolding exponent_of significand_of units
nearest_to f s real d = units f s (significand_of (prec f) real d) (exponent_of (prec f) real d)
