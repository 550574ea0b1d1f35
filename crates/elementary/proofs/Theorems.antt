-- What the four functions give: the nearest number, for any significand width and on any
-- scale, and the nearest double, of which there is one only. That the sine is √(1 - c²) of the
-- exact cosine c is in Pythagoras. Assumes nothing.
use mathlib.Core.Path.{◌≡◌, sym, subst}
use Prim.Native.Nat.{ℕ, zero, suc, ◌*◌, ◌^◌, ◌%◌, ◌≤◌, ◌<◌}
use native.Mathlib.Nat.{le_of_eq, lt_of_le_of_lt, lt_of_lt_of_le, lt_of_mul-lt-mul_right, mul-lt-mul_of_pos_right}
use native.Mathlib.Nat.{mul_right_comm}
use mathlib.Core.Bool.{Bool, false, ◌&&◌}
use lib.Dec.{T, ltb→lt, lit<, leb, ltb, eqb}
use lib.Ieee.{Float, nan, inf, fin, binary64, up, down, fits}
use lib.Ieee.Exact.{HasValue}
use lib.Ieee.Fits.{down_pos, and_r}
use Rattle.bits.proofs.Patterns.{value_unique}
use Rattle.elementary.specs.Nearest.{Real, Bounded, Nearest, NearestDouble, nearest_units, nearest_to}
use Rattle.elementary.specs.Reals.{sqrt_real, cbrt_real, third_angle_cosine_real, third_angle_sine_real}
use Rattle.elementary.specs.Functions.{sqrt_of, cbrt_of, third_angle_cosine_of, third_angle_sine_of}
use Rattle.elementary.proofs.Nearest.{nearest_any_width, nearest_unique, nearest_value}
use Rattle.elementary.proofs.Roots.{sqrt_bounded, cbrt_bounded, sqrt_double_bounded, cbrt_double_bounded}
use Rattle.elementary.proofs.Roots.{sqrt_of_value, cbrt_of_value, no_zero}
use Rattle.elementary.proofs.Cosine.{cosine_bounded, cosine_double_bounded, cosine_of_value}
use Rattle.elementary.proofs.Sine.{sine_bounded, sine_double_bounded, sine_of_value}

-- ---- any width p, any scale `one`, any argument ±a / b; d digits are enough for the result's half units

module _ (p : ℕ) (some : 0 < p) (one a b d : ℕ) (pos-b : 0 < b) where
  pub sqrt_nearest : a * (one * one) < 2 ^ d * 2 ^ d * b
      → Nearest p (sqrt_real one a b) (nearest_units p (sqrt_real one a b) d)
  sqrt_nearest h = nearest_any_width p some (sqrt_real one a b) d (sqrt_bounded one a b d pos-b h)

  pub cbrt_nearest : a * (one * one * one) < 2 ^ d * 2 ^ d * 2 ^ d * b
      → Nearest p (cbrt_real one a b) (nearest_units p (cbrt_real one a b) d)
  cbrt_nearest h = nearest_any_width p some (cbrt_real one a b) d (cbrt_bounded one a b d pos-b h)

  pub cosine_nearest : (s : Bool) → 0 < one → one < 2 ^ d → a ≤ b
      → Nearest p (third_angle_cosine_real one s a b) (nearest_units p (third_angle_cosine_real one s a b) d)
  cosine_nearest s o h l =
      nearest_any_width p some (third_angle_cosine_real one s a b) d (cosine_bounded one s a b d o pos-b l h)

  pub sine_nearest : (s : Bool) → 0 < one → one < 2 ^ d → a ≤ b
      → Nearest p (third_angle_sine_real one s a b) (nearest_units p (third_angle_sine_real one s a b) d)
  sine_nearest s o h l =
      nearest_any_width p some (third_angle_sine_real one s a b) d (sine_bounded one s a b d o pos-b l h)

-- ---- doubles

-- there is no other nearest double
pub nearest_double_unique : (y z : Float) (s : Bool) (real : Real) → T (fits binary64 y) → T (fits binary64 z)
    → NearestDouble y s real → NearestDouble z s real → y ≡ z
nearest_double_unique y z s real fy fz (r, hy, ny) (t, hz, nz) =
    value_unique binary64 y z s r fy fz hy
    (subst (λ (n : ℕ). HasValue z s n (2 ^ 1074)) (nearest_unique 53 real t r nz ny) hz)

by_definition : (y : Float) (s : Bool) (real : Real) (d : ℕ) → y ≡ nearest_to binary64 s real d → Bounded real d
    → d < 2098 → NearestDouble y s real
by_definition y s real d e b h =
    subst (λ (x : Float). NearestDouble x s real) (sym e) (nearest_value binary64 s real d b h)

-- a finite double is below 2 ^ 1024
in_range : (x : Float) (s : Bool) (a b : ℕ) → T (fits binary64 x) → HasValue x s a b → 0 < a → 0 < b → a < 2 ^ 1024 * b
unfolding fits
in_range nan s a b f h p q = absurd h
in_range (inf t) s a b f h p q = absurd h
in_range (fin t zero e) s a b f h p q = absurd (no_zero (up e) a b (down e) p (down_pos e) h.1)
in_range (fin t (suc m) e) s a b f h p q =
    let l : suc m * up e < 2 ^ 1024 * down e =
    ltb→lt (suc m * up e) (2 ^ 1024 * down e)
    (and_r (eqb (suc m % 2) 1 && ltb (suc m) (2 ^ 53) && leb (down e) (2 ^ 1074))
    (ltb (suc m * up e) (2 ^ 1024 * down e)) f) in
    lt_of_mul-lt-mul_right (down e)
    (lt_of_le_of_lt (le_of_eq (sym h.1))
    (lt_of_lt_of_le (mul-lt-mul_of_pos_right l q) (le_of_eq (mul_right_comm (2 ^ 1024) (down e) b))))

-- a double x above 0, of the value a / b
pub sqrt_nearest_double : (x : Float) (a b : ℕ) → T (fits binary64 x) → HasValue x false a b → 0 < a → 0 < b
    → NearestDouble (sqrt_of x) false (sqrt_real (2 ^ 1075) a b)
sqrt_nearest_double x a b f h p q =
    by_definition (sqrt_of x) false (sqrt_real (2 ^ 1075) a b) 1600 (sqrt_of_value x a b h p q)
    (sqrt_double_bounded a b q (in_range x false a b f h p q)) (lit< tt)

-- a double x of the value ±a / b, other than 0
pub cbrt_nearest_double : (x : Float) (s : Bool) (a b : ℕ) → T (fits binary64 x) → HasValue x s a b → 0 < a → 0 < b
    → NearestDouble (cbrt_of x) s (cbrt_real (2 ^ 1075) a b)
cbrt_nearest_double x s a b f h p q =
    by_definition (cbrt_of x) s (cbrt_real (2 ^ 1075) a b) 1600 (cbrt_of_value x s a b h p q)
    (cbrt_double_bounded a b q (in_range x s a b f h p q)) (lit< tt)

-- a number t of the value ±a / b, from -1 to 1
pub cosine_nearest_double : (t : Float) (s : Bool) (a b : ℕ) → HasValue t s a b → 0 < b → a ≤ b
    → NearestDouble (third_angle_cosine_of t) false (third_angle_cosine_real (2 ^ 1075) s a b)
cosine_nearest_double t s a b h q l =
    by_definition (third_angle_cosine_of t) false (third_angle_cosine_real (2 ^ 1075) s a b) 1077
    (cosine_of_value t s a b h q l) (cosine_double_bounded s a b q l) (lit< tt)

pub sine_nearest_double : (t : Float) (s : Bool) (a b : ℕ) → HasValue t s a b → 0 < b → a ≤ b
    → NearestDouble (third_angle_sine_of t) false (third_angle_sine_real (2 ^ 1075) s a b)
sine_nearest_double t s a b h q l =
    by_definition (third_angle_sine_of t) false (third_angle_sine_real (2 ^ 1075) s a b) 1077 (sine_of_value t s a b h q l)
    (sine_double_bounded s a b q l) (lit< tt)
