-- Laws of exact values: a value that the format holds is a whole number of units and its own
-- rounding, and what `round` gives has the value `grid`. Assumes nothing.
use mathlib.Core.Path.{◌≡◌, refl, sym, ap, ◌∙◌}
use mathlib.Core.Logic.{◌⊎◌, inl, inr}
use Prim.Native.Nat.{ℕ, zero, suc, ◌+◌, ◌-◌, ◌*◌, ◌/◌, ◌%◌, ◌^◌, ◌≤◌, ◌<◌}
use native.Mathlib.Nat.{lt_of_not-le, le_of_suc-le-suc, not-le_of_lt, add-sub_of_le, mul-one, zero-mul, zero-div}
use native.Mathlib.Nat.{mul_assoc, mul_comm, mul-div_cancel, mul-lt-mul_of_pos_right}
use native.Mathlib.Nat.{lt_of_mul-lt-mul_right, pow-succ'}
use native.Mathlib.Omega.{arith}
use mathlib.Core.Bool.{Bool, true, false, ◌&&◌, cond}
use lib.IntN.{ℤ, pos, negsuc}
use lib.Dec.{T, leb, ltb, eqb, ltb→lt, leb→le, eqb→eq, lit<}
use lib.Pow.{pow-add, pow_pos, pow-lt}
use lib.Ieee.{Float, nan, inf, fin, Format, binary32, binary64, prec, emax, low, up, down, odd, units, round, fits}
use lib.Ieee.Fits.{down_pos, and_l, and_r, round_is, round-fits}
use lib.Ieee.Exact.{HasValue, units_val, round_exact}
use lib.Ieee.Order.{drop, kept}
use lib.Ieee.Scale.{grid, overflow, finite, round_same}
use Rattle.bits.proofs.Patterns.{value_unique}
use Rattle.doubles.specs.Signed.{zeroˢ}
use Rattle.doubles.specs.Value.{signed, magnitude, value}

-- ---- any whole number of units that x equals is its value
pub value_of : (f : Format) (x : Float) (s : Bool) (a : ℕ) → HasValue x s a (2 ^ low f) → value f x ≡ signed s a
unfolding value
value_of f nan s a h = absurd h
value_of f (inf t) s a h = absurd h
value_of f (fin t m e) s a h =
    ap (λ (b : Bool). signed b (m * up e * 2 ^ low f / down e)) h.0
    ∙ ap (λ (n : ℕ). signed s n) (ap (λ (n : ℕ). n / down e) h.1 ∙ mul-div_cancel a (down_pos e))

zero_units : (f : Format) → 0 * 1 * 2 ^ low f / 1 ≡ 0
zero_units f = omega arith

pub zero_value : (f : Format) (s : Bool) → value f (fin s 0 (pos 0)) ≡ zeroˢ
unfolding value
zero_value f false = ap (λ (n : ℕ). signed false n) (zero_units f)
zero_value f true = ap (λ (n : ℕ). signed true n) (zero_units f)

-- a value is written with one part 0
pub one_part : (f : Format) (x : Float) → ((value f x).less ≡ 0) ⊎ ((value f x).plus ≡ 0)
unfolding value
one_part f nan = inl refl
one_part f (inf s) = inl refl
one_part f (fin false m e) = inl refl
one_part f (fin true m e) = inr refl

-- ---- a value that the format holds is m * 2 ^ j units, with an m of no more digits than the format keeps
exponent_reaches : (l k : ℕ) → 2 ^ suc k ≤ 2 ^ l → suc k ≤ l
exponent_reaches l k h = le_of_suc-le-suc (lt_of_not-le (λ (g : suc l ≤ suc k). not-le_of_lt (pow-lt g) h))

-- m * 2 ^ e in units is m shifted
shift : (m : ℕ) (e : ℤ) (l : ℕ) → down e ≤ 2 ^ l → (j : ℕ) × (m * up e * 2 ^ l ≡ m * 2 ^ j * down e)
shift m (pos k) l h =
    (k + l, mul_assoc m (2 ^ k) (2 ^ l) ∙ ap (λ (x : ℕ). m * x) (sym (pow-add 2 k l)) ∙ sym (mul-one (m * 2 ^ (k + l))))
shift m (negsuc k) l h =
    let d = 2 ^ suc k in
    let r = 2 ^ (l - suc k) in (
      l - suc k,
      ap (λ (x : ℕ). x * 2 ^ l) (mul-one m)
          ∙ ap (λ (x : ℕ). m * x)
          (ap (λ (x : ℕ). 2 ^ x) (sym (add-sub_of_le (exponent_reaches l k h))) ∙ pow-add 2 (suc k) (l - suc k)
          ∙ mul_comm d r)
          ∙ sym (mul_assoc m r d),
    )

-- what `fits` says of a number that is not 0
record Held (f : Format) (m : ℕ) (e : ℤ) : Type 0 where
  few : suc m < 2 ^ prec f
  fine : down e ≤ 2 ^ low f
  under : suc m * up e < 2 ^ suc (emax f) * down e

held : (f : Format) (s : Bool) (m : ℕ) (e : ℤ) → T (fits f (fin s (suc m) e)) → Held f m e
unfolding fits
held f s m e h =
    let A = eqb (suc m % 2) 1 in
    let B = ltb (suc m) (2 ^ prec f) in
    let C = leb (down e) (2 ^ low f) in
    let D = ltb (suc m * up e) (2 ^ suc (emax f) * down e) in
    record {
      few = ltb→lt (suc m) (2 ^ prec f) (and_r A B (and_l (A && B) C (and_l (A && B && C) D h)));
      fine = leb→le (down e) (2 ^ low f) (and_r (A && B) C (and_l (A && B && C) D h));
      under = ltb→lt (suc m * up e) (2 ^ suc (emax f) * down e) (and_r (A && B && C) D h);
    }

-- the magnitude of a value that fits, with its digits and its shift
pub record Digits (f : Format) (n : ℕ) : Type 0 where
  pub q : ℕ
  pub j : ℕ
  pub is : n ≡ q * 2 ^ j
  pub few : q < 2 ^ prec f
  pub under : n < overflow f

pub magnitude_exact : (f : Format) (s : Bool) (m : ℕ) (e : ℤ) → T (fits f (fin s m e))
    → magnitude f (fin s m e) * down e ≡ m * up e * 2 ^ low f
unfolding magnitude
magnitude_exact f s zero e h =
    let z : 0 * up e * 2 ^ low f ≡ 0 = omega arith in
    ap (λ (x : ℕ). x / down e * down e) z ∙ ap (λ (x : ℕ). x * down e) (zero-div (down e)) ∙ zero-mul (down e) ∙ sym z
magnitude_exact f s (suc m) e h =
    let z = shift (suc m) e (low f) (held f s m e h).fine in
    ap (λ (x : ℕ). x / down e * down e) z.1
    ∙ ap (λ (x : ℕ). x * down e) (mul-div_cancel (suc m * 2 ^ z.0) (down_pos e)) ∙ sym z.1

pub digits : (f : Format) (s : Bool) (m : ℕ) (e : ℤ) → T (fits f (fin s (suc m) e))
    → Digits f (magnitude f (fin s (suc m) e))
unfolding magnitude
digits f s m e h =
    let k = held f s m e h in
    let z = shift (suc m) e (low f) k.fine in
    record {
      q = suc m;
      j = z.0;
      is = ap (λ (x : ℕ). x / down e) z.1 ∙ mul-div_cancel (suc m * 2 ^ z.0) (down_pos e);
      few = k.few;
      under = lt_of_mul-lt-mul_right (down e) {m = magnitude f (fin s (suc m) e)} {n = overflow f}
          (omega (
            arith,
            magnitude_exact f s (suc m) e h,
            mul-lt-mul_of_pos_right k.under (pow_pos (low f)),
            ap (λ (x : ℕ). x * down e) (pow-add 2 (low f) (suc (emax f))),
          ));
    }

pub fits_value : (f : Format) (s : Bool) (m : ℕ) (e : ℤ) → T (fits f (fin s m e))
    → HasValue (fin s m e) s (magnitude f (fin s m e)) (2 ^ low f)
fits_value f s m e h = (refl, sym (magnitude_exact f s m e h))

-- the sign makes no difference to whether a value fits
pub unsigned_fits : (f : Format) (s : Bool) (m : ℕ) (e : ℤ) → T (fits f (fin s m e)) → T (fits f (fin false m e))
unfolding fits
unsigned_fits f s zero e h = h
unsigned_fits f s (suc m) e h = h

-- a 0 that fits is written in one way
unit_exponent : (e : ℤ) → up e * down e ≡ 1 → e ≡ pos 0
unit_exponent (pos zero) h = refl
unit_exponent (pos (suc k)) h = absurd (even_one (2 ^ k) (sym (ap (λ (x : ℕ). x * 1) (pow-succ' 2 k)) ∙ h))
  where
    even_one : (p : ℕ) → 2 * p * 1 ≡ 1 → ⊥
    even_one p h = omega arith
unit_exponent (negsuc k) h = absurd (even_one (2 ^ k) (sym (ap (λ (x : ℕ). 1 * x) (pow-succ' 2 k)) ∙ h))
  where
    even_one : (p : ℕ) → 1 * (2 * p) ≡ 1 → ⊥
    even_one p h = omega arith

pub zero_fits : (f : Format) (s : Bool) (e : ℤ) → T (fits f (fin s 0 e)) → e ≡ pos 0
unfolding fits
zero_fits f s e h = unit_exponent e (eqb→eq (up e * down e) 1 h)

-- `round` leaves a value that the format holds as it is
pub round_zero : (f : Format) (s : Bool) (c : ℕ) → 0 < c → round f s 0 c ≡ fin s 0 (pos 0)
round_zero f s c C = round_same f s 0 c 0 1 C (lit< tt) (omega arith) ∙ at_one f
  where
    at_one : (f : Format) → round f s 0 1 ≡ fin s 0 (pos 0)
    at_one binary32 = unfold round in refl
    at_one binary64 = unfold round in refl

pub round_held : (f : Format) (s : Bool) (m : ℕ) (e : ℤ) → T (fits f (fin s m e))
    → round f s (m * up e) (down e) ≡ fin s m e
round_held f s zero e h = rw (zero_fits f s e h) (round_zero f s 1 (lit< tt))
round_held f s (suc m) e h =
    let n = magnitude f (fin s (suc m) e) in
    let d = digits f s m e h in
    let v : HasValue (round f s n (2 ^ low f)) s n (2 ^ low f) =
    round_exact f s n (2 ^ low f) d.q d.j (pow_pos (low f)) d.few (rw d.is at d.under)
    (ap (λ (x : ℕ). x * 2 ^ low f) d.is) in
    round_same f s (suc m * up e) (down e) n (2 ^ low f) (down_pos e) (pow_pos (low f))
    (sym (magnitude_exact f s (suc m) e h))
    ∙ value_unique f (round f s n (2 ^ low f)) (fin s (suc m) e) s n (round-fits f s n (2 ^ low f)) h v
    (fits_value f s (suc m) e h)

-- ---- what `round` gives, where it is finite
units_under : (f : Format) (s : Bool) (q k : ℕ) → T (finite (units f s q k)) → q * 2 ^ k < overflow f
unfolding units
units_under f s q k = go (ltb (q * 2 ^ k) (overflow f)) (ltb→lt (q * 2 ^ k) (overflow f))
  where
    go : (b : Bool) → (T b → q * 2 ^ k < overflow f) → T (finite (cond b (odd (suc (prec f)) s q k (low f)) (inf s)))
        → q * 2 ^ k < overflow f
    go true h t = h tt
    go false h t = absurd t

module _ (f : Format) (s : Bool) (a c : ℕ) (t : T (finite (round f s a c))) where
  pub round_under : grid f a c < overflow f
  round_under =
      units_under f s (kept (prec f) (a * 2 ^ low f) c) (drop (prec f) (a * 2 ^ low f) c) (rw (round_is f s a c) at t)

  pub round_has_value : HasValue (round f s a c) s (grid f a c) (2 ^ low f)
  round_has_value =
      rw (round_is f s a c)
      (units_val f s (kept (prec f) (a * 2 ^ low f) c) (drop (prec f) (a * 2 ^ low f) c) round_under)

  pub round_value : value f (round f s a c) ≡ signed s (grid f a c)
  round_value = value_of f (round f s a c) s (grid f a c) round_has_value
