-- How far `round` moves a fraction, in either format: at most half a unit in the last place.
-- In units of the format's smallest value, with n / c the fraction and g the result,
-- 2 ^ prec * |g * c - n| is at most n + 2 ^ (prec - 1) * c; and at most n where n / c is a
-- whole number of units. Subnormal results included. Assumes nothing.
use mathlib.Core.Path.{◌≡◌, sym, ap, ◌∙◌, subst}
use mathlib.Core.Logic.{inl, inr}
use Prim.Native.Nat.{ℕ, suc, ◌+◌, ◌-◌, ◌*◌, ◌/◌, ◌%◌, ◌^◌, ◌≤◌, ◌<◌, compare, Ordering}
use native.Mathlib.Nat.{le_trans, le_of_eq, eq-zero-or-pos, mul-le-mul_left, mul-le-mul_right, mul-pos, mul-one, mod-lt}
use native.Mathlib.Nat.{div-add-mod', le-div_iff_mul-le, pow-succ', le_of_mul-le-mul_right}
use native.Mathlib.Omega.{arith}
use lib.Pow.{pow-add, pow_pos}
use lib.Ieee.{Format, prec, low, nearest, size}
use lib.Ieee.Digits.{size_reaches}
use lib.Ieee.Fits.{two, two-le_pos}
use lib.Ieee.Nearest.{closest}
use lib.Ieee.Order.{drop, kept}
use lib.Ieee.Scale.{grid}
use Rattle.bits.specs.Comparison.{Says}
use Rattle.bits.proofs.Comparison.{says}
use Rattle.doubles.specs.Error.{ErrorAtMost}

-- ---- the nearest multiple of u is at most half a u away
nearest_error : (q r u : ℕ) (o : Ordering) → Says o (r * 2) u → r < u → ErrorAtMost 2 (nearest q o * u) (q * u + r) u
nearest_error q r u Ordering.lt c l = record { low = omega arith; high = omega arith }
nearest_error q r u Ordering.eq c l =
    let d : q % 2 ≤ 1 = omega arith in
    let e : q % 2 * u ≤ 1 * u = mul-le-mul_right u d in
    record { low = omega arith; high = omega arith }
nearest_error q r u Ordering.gt c l = record { low = omega arith; high = omega arith }

closest_error : (n u : ℕ) → 0 < u → ErrorAtMost 2 (closest n u * u) n u
closest_error n u U =
    subst (λ (x : ℕ). ErrorAtMost 2 (closest n u * u) x u) (div-add-mod' n u)
    (nearest_error (n / u) (n % u) u (compare (n % u * 2) u) (says (n % u * 2) u) (mod-lt n U))

-- ---- either no digit is dropped, or the fraction has all the digits that are kept
all_in_use : (z p : ℕ) → 0 < p → 0 < z - p → p - 1 + (z - p) < z
all_in_use z p P h = omega arith

full : (p n c : ℕ) → 0 < p → 0 < c → 0 < drop p n c → 2 ^ (p - 1) * (c * 2 ^ drop p n c) ≤ n
full p n c P C K =
    let k = drop p n c in
    let a : 2 ^ (p - 1 + k) ≤ n / c = size_reaches (n / c) (p - 1 + k) (all_in_use (size (n / c)) p P K) in
    let b : 2 ^ (p - 1 + k) * c ≤ n = (le-div_iff_mul-le C).0 a in
    omega (arith, pow-add 2 (p - 1) k, ap (λ (x : ℕ). x * c) (pow-add 2 (p - 1) k))

-- 2 ^ p is twice 2 ^ (p - 1)
twice : (p : ℕ) → 0 < p → 2 ^ p ≡ 2 * 2 ^ (p - 1)
twice p P = ap (λ (x : ℕ). 2 ^ x) (one_more p P) ∙ pow-succ' 2 (p - 1)
  where
    one_more : (q : ℕ) → 0 < q → q ≡ suc (q - 1)
    one_more q Q = omega arith

-- half a unit u = c * j in the last place, against h = 2 ^ (p - 1)
scaled_error : (q j c n h e : ℕ) → ErrorAtMost 2 (q * (c * j)) n (c * j) → h * (c * j) ≤ e
    → ErrorAtMost (2 * h) (q * j * c) n e
scaled_error q j c n h e x l =
    record { low = omega (arith, mul-le-mul_left h x.low); high = omega (arith, mul-le-mul_left h x.high) }

-- a whole number that is at most half a one away is the number
whole_same : (q c w : ℕ) → 0 < c → ErrorAtMost 2 (q * (c * 1)) (w * c) (c * 1) → q ≡ w
whole_same q c w C x =
    let l : q * 2 ≤ w * 2 + 1 = le_of_mul-le-mul_right {k = c} (omega (arith, x.low)) C in
    let h : w * 2 ≤ q * 2 + 1 = le_of_mul-le-mul_right {k = c} (omega (arith, x.high)) C in
    omega arith

module _ (p n c : ℕ) (P : 0 < p) (C : 0 < c) where
  kept_half : ErrorAtMost 2 (kept p n c * (c * 2 ^ drop p n c)) n (c * 2 ^ drop p n c)
  kept_half = closest_error n (c * 2 ^ drop p n c) (mul-pos C (pow_pos (drop p n c)))

  kept_error : ErrorAtMost (2 * 2 ^ (p - 1)) (kept p n c * 2 ^ drop p n c * c) n (n + 2 ^ (p - 1) * c)
  kept_error = scaled_error (kept p n c) (2 ^ drop p n c) c n (2 ^ (p - 1)) (n + 2 ^ (p - 1) * c) kept_half (
      elim (eq-zero-or-pos (drop p n c)) [
        | inl z ↦ le_trans (le_of_eq (ap (λ (x : ℕ). 2 ^ (p - 1) * (c * 2 ^ x)) z)) (omega arith)
        | inr k ↦ le_trans (full p n c P C k) (omega arith)
      ])

  kept_error_whole : (w : ℕ) → n ≡ w * c → ErrorAtMost (2 * 2 ^ (p - 1)) (kept p n c * 2 ^ drop p n c * c) n n
  kept_error_whole w e = elim (eq-zero-or-pos (drop p n c)) [
    | inl z ↦
        let g : kept p n c ≡ w = whole_same (kept p n c) c w C (
        subst (λ (x : ℕ). ErrorAtMost 2 (kept p n c * (c * 1)) x (c * 1)) e
        (subst (λ (x : ℕ). ErrorAtMost 2 (kept p n c * (c * 2 ^ x)) n (c * 2 ^ x)) z kept_half)) in
        let y : kept p n c * 2 ^ drop p n c * c ≡ n =
        ap (λ (x : ℕ). x * 2 ^ drop p n c * c) g ∙ ap (λ (x : ℕ). w * 2 ^ x * c) z ∙ ap (λ (x : ℕ). x * c) (mul-one w)
        ∙ sym e in
        record {
          low = omega (arith, ap (λ (x : ℕ). 2 * 2 ^ (p - 1) * x) y);
          high = omega (arith, ap (λ (x : ℕ). 2 * 2 ^ (p - 1) * x) y);
        }
    | inr k ↦ scaled_error (kept p n c) (2 ^ drop p n c) c n (2 ^ (p - 1)) n kept_half (full p n c P C k)
  ]

-- ---- the error of `round`, whose result is `grid` units
module _ (f : Format) (a c : ℕ) (C : 0 < c) where
  P : 0 < prec f
  P = two-le_pos (prec f) (two f)

  pub round_error : ErrorAtMost (2 ^ prec f) (grid f a c * c) (a * 2 ^ low f) (a * 2 ^ low f + 2 ^ (prec f - 1) * c)
  round_error = rw (twice (prec f) P) (kept_error (prec f) (a * 2 ^ low f) c P C)

  -- of a fraction that is n units
  pub round_error_whole : (n : ℕ) → a * 2 ^ low f ≡ n * c → ErrorAtMost (2 ^ prec f) (grid f a c) n n
  round_error_whole n e =
      let w = 2 ^ prec f in
      let o : ErrorAtMost w (grid f a c * c) (n * c) (n * c) =
      subst (λ (x : ℕ). ErrorAtMost w (grid f a c * c) x x) e
      (rw (twice (prec f) P) (kept_error_whole (prec f) (a * 2 ^ low f) c P C n e)) in
      record {
        low = le_of_mul-le-mul_right {m = w * grid f a c} {n = w * n + n} {k = c} (omega (arith, o.low)) C;
        high = le_of_mul-le-mul_right {m = w * n} {n = w * grid f a c + n} {k = c} (omega (arith, o.high)) C;
      }
