-- The error of one operation, in either format, any signs, subnormal results included: a
-- finite result is the exact result with a relative error of at most 2 ^ -prec, and for a product or a quotient half
-- a unit besides, for what underflows. A finite result has finite operands, but that a divisor may be infinite.
-- Values are whole numbers of units, so a product of two is in units of a unit's square. Assumes nothing.
use mathlib.Core.Path.{◌≡◌, refl, sym, ap, ◌∙◌, subst}
use mathlib.Core.Logic.{inl, inr}
use Prim.Native.Nat.{ℕ, ◌+◌, ◌-◌, ◌*◌, ◌^◌, ◌≤◌, ◌<◌}
use native.Mathlib.Nat.{eq-zero-or-pos, le_of_lt, mul-sub, mul-pos, mul_comm, le_of_mul-le-mul_right, mul-le-mul_right}
use native.Mathlib.Omega.{arith}
use mathlib.Core.Bool.{Bool, true, false, not, beq, cond}
use lib.IntN.{ℤ}
use lib.Dec.{T, T_not, ltb, eqb, ltb→lt, nltb→le}
use lib.Ieee.{Float, nan, inf, fin, Format, prec, low, up, down, unlike, round, neg, sum, add, sub, mul, div, fits}
use lib.Ieee.{is_nan}
use lib.Ieee.Fits.{up_pos, down_pos, neg-fits}
use lib.Ieee.Scale.{grid, finite}
use Rattle.doubles.specs.Signed.{Signed, zeroˢ, ◌⊕◌, ◌⊙◌, ◌⊗◌, minus, size}
use Rattle.doubles.specs.Value.{signed, magnitude, value}
use Rattle.doubles.specs.Error.{ErrorAtMost, RelativeError, RelativeErrorOrUnderflow}
use Rattle.doubles.proofs.SignedLaws.{pair_eq}
use Rattle.doubles.proofs.RoundLaws.{round_error, round_error_whole}
use Rattle.doubles.proofs.ValueLaws.{magnitude_exact, round_value, zero_value}

-- ---- two fractions a / c and b / c that are x and y units
pub record Fractions (f : Format) (a b c x y : ℕ) : Type 0 where
  pub positive : 0 < c
  pub left : a * 2 ^ low f ≡ x * c
  pub right : b * 2 ^ low f ≡ y * c

-- two finite values over their common denominator, as `add` and `lt` take them
pub operands : (f : Format) (s : Bool) (m : ℕ) (e : ℤ) (t : Bool) (n : ℕ) (d : ℤ) → T (fits f (fin s m e))
    → T (fits f (fin t n d))
    → Fractions f (m * up e * down d) (n * up d * down e) (down e * down d) (magnitude f (fin s m e))
    (magnitude f (fin t n d))
operands f s m e t n d p q = record {
  positive = mul-pos (down_pos e) (down_pos d);
  left = widened (magnitude f (fin s m e)) (m * up e) (2 ^ low f) (down e) (down d) (magnitude_exact f s m e p);
  right = widened (magnitude f (fin t n d)) (n * up d) (2 ^ low f) (down d) (down e) (magnitude_exact f t n d q)
      ∙ ap (λ (z : ℕ). magnitude f (fin t n d) * z) (mul_comm (down d) (down e));
}
  where
    widened : (x m u c d : ℕ) → x * c ≡ m * u → m * d * u ≡ x * (c * d)
    widened x m u c d e = omega (arith, ap (λ (z : ℕ). z * d) e)

pub swapped : (f : Format) (a b c x y : ℕ) → Fractions f a b c x y → Fractions f b a c y x
swapped f a b c x y h = record { positive = h.positive; left = h.right; right = h.left }

module _ (f : Format) (a b c x y : ℕ) (h : Fractions f a b c x y) where
  pub sum_units : (a + b) * 2 ^ low f ≡ (x + y) * c
  sum_units = omega arith

  pub keeps_order : a ≤ b → x ≤ y
  keeps_order l =
      le_of_mul-le-mul_right {m = x} {n = y} {k = c} (omega (arith, mul-le-mul_right (2 ^ low f) l)) h.positive

  pub difference_units : (b - a) * 2 ^ low f ≡ (y - x) * c
  difference_units =
      mul_comm (b - a) (2 ^ low f) ∙ mul-sub (2 ^ low f) b a ∙ both ∙ sym (mul-sub c y x) ∙ mul_comm c (y - x)
    where
      both : 2 ^ low f * b - 2 ^ low f * a ≡ c * y - c * x
      both = omega arith

-- ---- a sum
plus_error : (w g n : ℕ) (z : Signed) → ErrorAtMost w g n n → z.plus ≡ z.less + n → RelativeError w (signed false g) z
plus_error w g n z c e =
    let s : size z ≡ n = omega arith in
    let m : w * z.plus ≡ w * (z.less + n) = ap (λ (x : ℕ). w * x) e in
    rw s (record { low = omega (arith, c.low, m); high = omega (arith, c.high, m) })

less_error : (w g n : ℕ) (z : Signed) → ErrorAtMost w g n n → z.less ≡ z.plus + n → RelativeError w (signed true g) z
less_error w g n z c e =
    let s : size z ≡ n = omega arith in
    let m : w * z.less ≡ w * (z.plus + n) = ap (λ (x : ℕ). w * x) e in
    rw s (record { low = omega (arith, c.low, m); high = omega (arith, c.high, m) })

-- a fraction of n units, rounded, against a number of that size with the sign
module _ (f : Format) (a c n : ℕ) (z : Signed) (C : 0 < c) (e : a * 2 ^ low f ≡ n * c) where
  round_plus : z.plus ≡ z.less + n → T (finite (round f false a c))
      → RelativeError (2 ^ prec f) (value f (round f false a c)) z
  round_plus h t =
      rw (round_value f false a c t) (plus_error (2 ^ prec f) (grid f a c) n z (round_error_whole f a c C n e) h)

  round_less : z.less ≡ z.plus + n → T (finite (round f true a c))
      → RelativeError (2 ^ prec f) (value f (round f true a c)) z
  round_less h t =
      rw (round_value f true a c t) (less_error (2 ^ prec f) (grid f a c) n z (round_error_whole f a c C n e) h)

sum_error : (f : Format) (s : Bool) (a : ℕ) (t : Bool) (b c x y : ℕ) → Fractions f a b c x y
    → T (finite (sum f s a t b c)) → RelativeError (2 ^ prec f) (value f (sum f s a t b c)) (signed s x ⊕ signed t y)
unfolding sum
sum_error f false a false b c x y k h =
    round_plus f (a + b) c (x + y) (signed false x ⊕ signed false y) k.positive (sum_units f a b c x y k)
    (omega arith) h
sum_error f true a true b c x y k h =
    round_less f (a + b) c (x + y) (signed true x ⊕ signed true y) k.positive (sum_units f a b c x y k)
    (omega arith) h
sum_error f false a true b c x y k h = go (ltb a b) (ltb→lt a b) (nltb→le a b) h
  where
    go : (o : Bool) → (T o → a < b) → (T (not o) → b ≤ a)
        → T (finite (cond o (round f true (b - a) c) (round f false (a - b) c)))
        → RelativeError (2 ^ prec f) (value f (cond o (round f true (b - a) c) (round f false (a - b) c)))
        (signed false x ⊕ signed true y)
    go true l g t =
        round_less f (b - a) c (y - x) (signed false x ⊕ signed true y) k.positive (difference_units f a b c x y k)
        (omega (arith, keeps_order f a b c x y k (le_of_lt (l tt)))) t
    go false l g t =
        round_plus f (a - b) c (x - y) (signed false x ⊕ signed true y) k.positive
        (difference_units f b a c y x (swapped f a b c x y k))
        (omega (arith, keeps_order f b a c y x (swapped f a b c x y k) (g tt))) t
sum_error f true a false b c x y k h = go (ltb a b) (ltb b a) (ltb→lt a b) (nltb→le a b) (nltb→le b a) h
  where
    go : (o i : Bool) → (T o → a < b) → (T (not o) → b ≤ a) → (T (not i) → a ≤ b)
        → T (finite (cond o (round f false (b - a) c) (round f i (a - b) c)))
        → RelativeError (2 ^ prec f) (value f (cond o (round f false (b - a) c) (round f i (a - b) c)))
        (signed true x ⊕ signed false y)
    go true i l g j t =
        round_plus f (b - a) c (y - x) (signed true x ⊕ signed false y) k.positive (difference_units f a b c x y k)
        (omega (arith, keeps_order f a b c x y k (le_of_lt (l tt)))) t
    go false true l g j t =
        round_less f (a - b) c (x - y) (signed true x ⊕ signed false y) k.positive
        (difference_units f b a c y x (swapped f a b c x y k))
        (omega (arith, keeps_order f b a c y x (swapped f a b c x y k) (g tt))) t
    go false false l g j t =
        round_plus f (a - b) c (x - y) (signed true x ⊕ signed false y) k.positive
        (difference_units f b a c y x (swapped f a b c x y k))
        (omega (arith, keeps_order f b a c y x (swapped f a b c x y k) (g tt), keeps_order f a b c x y k (j tt))) t

-- neither an infinity nor a NaN is finite
pub not_finite : (b s : Bool) → T (finite (cond b (inf s) nan)) → ⊥
not_finite true s t = t
not_finite false s t = t

not_finite' : (b s : Bool) → T (finite (cond b nan (inf s))) → ⊥
not_finite' true s t = t
not_finite' false s t = t

pub add_error : (f : Format) (x y : Float) → T (fits f x) → T (fits f y) → T (finite (add f x y))
    → RelativeError (2 ^ prec f) (value f (add f x y)) (value f x ⊕ value f y)
unfolding add value
add_error f nan y p q h = absurd h
add_error f (inf s) nan p q h = absurd h
add_error f (inf s) (inf t) p q h = absurd (not_finite (beq s t) s h)
add_error f (inf s) (fin t n d) p q h = absurd h
add_error f (fin s m e) nan p q h = absurd h
add_error f (fin s m e) (inf t) p q h = absurd h
add_error f (fin s m e) (fin t n d) p q h =
    sum_error f s (m * up e * down d) t (n * up d * down e) (down e * down d) (magnitude f (fin s m e))
    (magnitude f (fin t n d)) (operands f s m e t n d p q) h

pub add_finite : (f : Format) (x y : Float) → T (finite (add f x y)) → T (finite x) × T (finite y)
unfolding add
add_finite f nan y h = absurd h
add_finite f (inf s) nan h = absurd h
add_finite f (inf s) (inf t) h = absurd (not_finite (beq s t) s h)
add_finite f (inf s) (fin t n d) h = absurd h
add_finite f (fin s m e) nan h = absurd h
add_finite f (fin s m e) (inf t) h = absurd h
add_finite f (fin s m e) (fin t n d) h = (tt, tt)

-- ---- a difference
pub neg_value : (f : Format) (x : Float) → value f (neg x) ≡ minus (value f x)
unfolding value neg
neg_value f nan = refl
neg_value f (inf s) = refl
neg_value f (fin false m e) = refl
neg_value f (fin true m e) = refl

neg_finite : (x : Float) → T (finite (neg x)) → T (finite x)
unfolding neg
neg_finite nan h = h
neg_finite (inf s) h = h
neg_finite (fin s m e) h = tt

pub sub_error : (f : Format) (x y : Float) → T (fits f x) → T (fits f y) → T (finite (sub f x y))
    → RelativeError (2 ^ prec f) (value f (sub f x y)) (value f x ⊕ minus (value f y))
unfolding sub
sub_error f x y p q h = rw (neg_value f y) at (add_error f x (neg y) p (neg-fits f y q) h)

pub sub_finite : (f : Format) (x y : Float) → T (finite (sub f x y)) → T (finite x) × T (finite y)
unfolding sub
sub_finite f x y h = let a = add_finite f x (neg y) h in (a.0, neg_finite y a.1)

-- ---- `round` of a fraction a / c that is n units over u
module _ (f : Format) (a c n u : ℕ) (C : 0 < c) (e : a * 2 ^ low f * u ≡ n * c) where
  scaled_error : ErrorAtMost (2 ^ prec f) (u * grid f a c) n (n + 2 ^ (prec f - 1) * u)
  scaled_error = go (2 ^ prec f) (2 ^ (prec f - 1)) (grid f a c) (a * 2 ^ low f) e (round_error f a c C)
    where
      go : (w h g v : ℕ) → v * u ≡ n * c → ErrorAtMost w (g * c) v (v + h * c) → ErrorAtMost w (u * g) n (n + h * u)
      go w h g v i o = record {
        low = le_of_mul-le-mul_right {m = w * (u * g)} {n = w * n + (n + h * u)} {k = c}
            (omega (arith, mul-le-mul_right u o.low, ap (λ (z : ℕ). w * z) i)) C;
        high = le_of_mul-le-mul_right {m = w * n} {n = w * (u * g) + (n + h * u)} {k = c}
            (omega (arith, mul-le-mul_right u o.high, ap (λ (z : ℕ). w * z) i)) C;
      }

  -- with either sign
  scaled_round : (s : Bool) (z : Signed) → z ≡ signed s n → T (finite (round f s a c))
      → RelativeErrorOrUnderflow (2 ^ prec f) (2 ^ (prec f - 1)) u (value f (round f s a c)) z
  scaled_round s z i t =
      rw (i, round_value f s a c t) (either s (2 ^ prec f) (2 ^ (prec f - 1)) (grid f a c) scaled_error)
    where
      either : (s : Bool) (w h g : ℕ) → ErrorAtMost w (u * g) n (n + h * u)
          → RelativeErrorOrUnderflow w h u (signed s g) (signed s n)
      either false w h g o = record { low = omega arith; high = omega arith }
      either true w h g o = record { low = omega arith; high = omega arith }

-- ---- a product: value x * value y, in units of a unit, is the number of units in 1 times the result
product_sign : (s t : Bool) (x y : ℕ) → signed s x ⊗ signed t y ≡ signed (unlike s t) (x * y)
product_sign false false x y = pair_eq (x * y + 0 * 0) (x * 0 + 0 * y) (x * y) 0 (omega arith) (omega arith)
product_sign false true x y = pair_eq (x * 0 + 0 * y) (x * y + 0 * 0) 0 (x * y) (omega arith) (omega arith)
product_sign true false x y = pair_eq (0 * y + x * 0) (0 * 0 + x * y) 0 (x * y) (omega arith) (omega arith)
product_sign true true x y = pair_eq (0 * 0 + x * y) (0 * y + x * 0) (x * y) 0 (omega arith) (omega arith)

product_units : (x y m n u c d : ℕ) → x * c ≡ m * u → y * d ≡ n * u → m * n * u * u ≡ x * y * (c * d)
product_units x y m n u c d p q = omega (arith, ap (λ (z : ℕ). z * (y * d)) p, ap (λ (z : ℕ). m * u * z) q)

pub mul_error : (f : Format) (x y : Float) → T (fits f x) → T (fits f y) → T (finite (mul f x y))
    → RelativeErrorOrUnderflow (2 ^ prec f) (2 ^ (prec f - 1)) (2 ^ low f) (value f (mul f x y)) (value f x ⊗ value f y)
unfolding mul value
mul_error f nan y p q h = absurd h
mul_error f (inf s) nan p q h = absurd h
mul_error f (inf s) (inf t) p q h = absurd h
mul_error f (inf s) (fin t n d) p q h = absurd (not_finite' (eqb n 0) (unlike s t) h)
mul_error f (fin s m e) nan p q h = absurd h
mul_error f (fin s m e) (inf t) p q h = absurd (not_finite' (eqb m 0) (unlike s t) h)
mul_error f (fin s m e) (fin t n d) p q h =
    scaled_round f (m * up e * (n * up d)) (down e * down d) (magnitude f (fin s m e) * magnitude f (fin t n d))
    (2 ^ low f) (mul-pos (down_pos e) (down_pos d))
    (product_units (magnitude f (fin s m e)) (magnitude f (fin t n d)) (m * up e) (n * up d) (2 ^ low f) (down e)
    (down d) (magnitude_exact f s m e p) (magnitude_exact f t n d q))
    (unlike s t) (signed s (magnitude f (fin s m e)) ⊗ signed t (magnitude f (fin t n d)))
    (product_sign s t (magnitude f (fin s m e)) (magnitude f (fin t n d))) h

pub mul_finite : (f : Format) (x y : Float) → T (finite (mul f x y)) → T (finite x) × T (finite y)
unfolding mul
mul_finite f nan y h = absurd h
mul_finite f (inf s) nan h = absurd h
mul_finite f (inf s) (inf t) h = absurd h
mul_finite f (inf s) (fin t n d) h = absurd (not_finite' (eqb n 0) (unlike s t) h)
mul_finite f (fin s m e) nan h = absurd h
mul_finite f (fin s m e) (inf t) h = absurd (not_finite' (eqb m 0) (unlike s t) h)
mul_finite f (fin s m e) (fin t n d) h = (tt, tt)

-- ---- a quotient by a finite y: the size of y times the result is x with y's sign, in units of a unit
abbrev pub turned : Bool → Signed → Signed
turned false x = x
turned true x = minus x

quotient_sign : (s t : Bool) (u x : ℕ) → u ⊙ turned t (signed s x) ≡ signed (unlike s t) (u * x)
quotient_sign false false u x = pair_eq (u * x) (u * 0) (u * x) 0 refl (omega arith)
quotient_sign false true u x = pair_eq (u * 0) (u * x) 0 (u * x) (omega arith) refl
quotient_sign true false u x = pair_eq (u * 0) (u * x) 0 (u * x) (omega arith) refl
quotient_sign true true u x = pair_eq (u * x) (u * 0) (u * x) 0 refl (omega arith)

quotient_units : (x y m n u c d : ℕ) → x * c ≡ m * u → y * d ≡ n * u → m * d * u * y ≡ u * x * (n * c)
quotient_units x y m n u c d p q = omega (arith, ap (λ (z : ℕ). z * (d * y)) p, ap (λ (z : ℕ). x * c * z) q)

not_zero : (n : ℕ) → T (not (eqb n 0)) → 0 < n
not_zero n h =
    elim (eq-zero-or-pos n)
    [ inl z ↦ absurd (T_not (eqb n 0) h (subst (λ (k : ℕ). T (eqb k 0)) (sym z) tt)) | inr l ↦ l ]

pub div_error : (f : Format) (x : Float) (t : Bool) (n : ℕ) (d : ℤ) → T (fits f x) → T (fits f (fin t n d))
    → T (finite (div f x (fin t n d)))
    → RelativeErrorOrUnderflow (2 ^ prec f) (2 ^ (prec f - 1)) (magnitude f (fin t n d))
    (value f (div f x (fin t n d))) (2 ^ low f ⊙ turned t (value f x))
unfolding div value
div_error f nan t n d p q h = absurd h
div_error f (inf s) t n d p q h = absurd h
div_error f (fin s m e) t n d p q h = go (eqb n 0) (not_zero n) h
  where
    go : (b : Bool) → (T (not b) → 0 < n)
        → T (finite (cond b (cond (eqb m 0) nan (inf (unlike s t)))
        (round f (unlike s t) (m * up e * down d) (n * up d * down e))))
        → RelativeErrorOrUnderflow (2 ^ prec f) (2 ^ (prec f - 1)) (magnitude f (fin t n d))
        (value f (cond b (cond (eqb m 0) nan (inf (unlike s t)))
        (round f (unlike s t) (m * up e * down d) (n * up d * down e))))
        (2 ^ low f ⊙ turned t (signed s (magnitude f (fin s m e))))
    go true z g = absurd (not_finite' (eqb m 0) (unlike s t) g)
    go false z g =
        scaled_round f (m * up e * down d) (n * up d * down e) (2 ^ low f * magnitude f (fin s m e))
        (magnitude f (fin t n d)) (mul-pos (mul-pos (z tt) (up_pos d)) (down_pos e))
        (quotient_units (magnitude f (fin s m e)) (magnitude f (fin t n d)) (m * up e) (n * up d) (2 ^ low f) (down e)
        (down d) (magnitude_exact f s m e p) (magnitude_exact f t n d q))
        (unlike s t) (2 ^ low f ⊙ turned t (signed s (magnitude f (fin s m e))))
        (quotient_sign s t (2 ^ low f) (magnitude f (fin s m e))) g

-- by an infinity it is 0
pub div_infinite : (f : Format) (x : Float) (t : Bool) → T (finite (div f x (inf t)))
    → value f (div f x (inf t)) ≡ zeroˢ
unfolding div
div_infinite f nan t h = absurd h
div_infinite f (inf s) t h = absurd h
div_infinite f (fin s m e) t h = zero_value f (unlike s t)

pub div_finite : (f : Format) (x y : Float) → T (finite (div f x y)) → T (finite x) × T (not (is_nan y))
unfolding div is_nan
div_finite f nan y h = absurd h
div_finite f (inf s) nan h = absurd h
div_finite f (inf s) (inf t) h = absurd h
div_finite f (inf s) (fin t n d) h = absurd h
div_finite f (fin s m e) nan h = absurd h
div_finite f (fin s m e) (inf t) h = (tt, tt)
div_finite f (fin s m e) (fin t n d) h = (tt, tt)
