-- Comparisons agree with the order of exact values, for finite values of either format. Assumes nothing.
use mathlib.Core.Path.{◌≡◌, sym, subst}
use mathlib.Core.Logic.{◌⊎◌, inl, inr}
use Prim.Native.Nat.{ℕ, ◌+◌, ◌*◌, ◌^◌, ◌≤◌, ◌<◌}
use native.Mathlib.Nat.{eq-or-lt_of_le, eq-zero-or-pos, le_of_eq, le_of_lt, mul-lt-mul_of_pos_right}
use native.Mathlib.Nat.{lt_of_mul-lt-mul_right, le_of_mul-le-mul_right, mul-le-mul_right}
use native.Mathlib.Omega.{arith}
use mathlib.Core.Bool.{Bool, true, false, not, ◌&&◌, ◌||◌, beq}
use lib.IntN.{pos}
use lib.Dec.{T, ltb, eqb, ltb→lt, lt→ltb, nltb→le, eqb→eq}
use lib.Pow.{pow_pos}
use lib.Ieee.{Float, nan, inf, fin, Format, low, up, down, below, level, lt, le, fits}
use lib.Ieee.Fits.{and_l, and_r, and_i, eq→eqb}
use lib.Ieee.Scale.{finite}
use Rattle.doubles.specs.Signed.{Signed, zeroˢ, Below, AtMost}
use Rattle.doubles.specs.Value.{signed, magnitude, value}
use Rattle.doubles.proofs.ValueLaws.{zero_value, one_part}
use Rattle.doubles.proofs.OperationLaws.{Fractions, operands, swapped, sum_units, keeps_order}

or_split : (a b : Bool) → T (a || b) → T a ⊎ T b
or_split true b t = inl tt
or_split false b t = inr t

or_l : (a b : Bool) → T a → T (a || b)
or_l true b t = tt
or_l false b t = absurd t

or_r : (a b : Bool) → T b → T (a || b)
or_r true b t = tt
or_r false b t = t

-- ---- of two fractions a / c and b / c that are x and y units
module _ (f : Format) (a b c x y : ℕ) (h : Fractions f a b c x y) where
  units_lt : a < b → x < y
  units_lt l = lt_of_mul-lt-mul_right c {m = x} {n = y} (omega (arith, mul-lt-mul_of_pos_right l (pow_pos (low f))))

  fraction_lt : x < y → a < b
  fraction_lt l =
      lt_of_mul-lt-mul_right (2 ^ low f) {m = a} {n = b} (omega (arith, mul-lt-mul_of_pos_right l h.positive))

  fraction_le : x ≤ y → a ≤ b
  fraction_le l =
      le_of_mul-le-mul_right {m = a} {n = b} {k = 2 ^ low f} (omega (arith, mul-le-mul_right c l)) (pow_pos (low f))

  -- 0 and the sum
  from_zero : Fractions f 0 (a + b) c 0 (x + y)
  from_zero = record { positive = h.positive; left = omega arith; right = sum_units f a b c x y h }

below_value : (f : Format) (s t : Bool) (a b c x y : ℕ) → Fractions f a b c x y → T (below s a t b)
    → Below (signed s x) (signed t y)
below_value f false false a b c x y k h = omega (arith, units_lt f a b c x y k (ltb→lt a b h))
below_value f false true a b c x y k h = absurd h
below_value f true false a b c x y k h =
    omega (arith, units_lt f 0 (a + b) c 0 (x + y) (from_zero f a b c x y k) (ltb→lt 0 (a + b) h))
below_value f true true a b c x y k h = omega (arith, units_lt f b a c y x (swapped f a b c x y k) (ltb→lt b a h))

value_below : (f : Format) (s t : Bool) (a b c x y : ℕ) → Fractions f a b c x y → Below (signed s x) (signed t y)
    → T (below s a t b)
value_below f false false a b c x y k h = lt→ltb a b (fraction_lt f a b c x y k (omega arith))
value_below f false true a b c x y k h = absurd (none_below x y h)
  where
    none_below : (x y : ℕ) → x + y < 0 + 0 → ⊥
    none_below x y h = omega arith
value_below f true false a b c x y k h =
    lt→ltb 0 (a + b) (fraction_lt f 0 (a + b) c 0 (x + y) (from_zero f a b c x y k) (omega arith))
value_below f true true a b c x y k h = lt→ltb b a (fraction_lt f b a c y x (swapped f a b c x y k) (omega arith))

not_below_value : (f : Format) (s t : Bool) (a b c x y : ℕ) → Fractions f a b c x y → T (not (below s a t b))
    → AtMost (signed t y) (signed s x)
not_below_value f false false a b c x y k h =
    omega (arith, keeps_order f b a c y x (swapped f a b c x y k) (nltb→le a b h))
not_below_value f false true a b c x y k h = omega arith
not_below_value f true false a b c x y k h =
    omega (
      arith,
      keeps_order f (a + b) 0 c (x + y) 0 (swapped f 0 (a + b) c 0 (x + y) (from_zero f a b c x y k))
          (nltb→le 0 (a + b) h),
    )
not_below_value f true true a b c x y k h = omega (arith, keeps_order f a b c x y k (nltb→le b a h))

level_value : (f : Format) (s t : Bool) (a b c x y : ℕ) → Fractions f a b c x y → T (level s a t b)
    → AtMost (signed s x) (signed t y)
level_value f s t a b c x y k h = go s t (and_r (eqb a b) (beq s t || eqb a 0) h)
  where
    e : a ≡ b
    e = eqb→eq a b (and_l (eqb a b) (beq s t || eqb a 0) h)

    xy : x ≤ y
    xy = keeps_order f a b c x y k (le_of_eq e)

    yx : y ≤ x
    yx = keeps_order f b a c y x (swapped f a b c x y k) (le_of_eq (sym e))

    none : a ≡ 0 → x + y ≤ 0
    none z = keeps_order f (a + b) 0 c (x + y) 0 (swapped f 0 (a + b) c 0 (x + y) (from_zero f a b c x y k))
        (omega (arith, e))

    go : (s t : Bool) → T (beq s t || eqb a 0) → AtMost (signed s x) (signed t y)
    go false false i = omega (arith, xy)
    go true true i = omega (arith, yx)
    go true false i = omega arith
    go false true i = omega (arith, none (eqb→eq a 0 i))

value_level : (f : Format) (s t : Bool) (a b c x y : ℕ) → Fractions f a b c x y → AtMost (signed s x) (signed t y)
    → T (below s a t b || level s a t b)
value_level f false false a b c x y k h =
    elim (eq-or-lt_of_le (fraction_le f a b c x y k (omega arith))) [
      | inl e ↦ or_r (ltb a b) (eqb a b && true) (and_i (eqb a b) true (eq→eqb e) tt)
      | inr l ↦ or_l (ltb a b) (eqb a b && true) (lt→ltb a b l)
    ]
value_level f true true a b c x y k h =
    elim (eq-or-lt_of_le (fraction_le f b a c y x (swapped f a b c x y k) (omega arith))) [
      | inl e ↦ or_r (ltb b a) (eqb a b && true) (and_i (eqb a b) true (eq→eqb (sym e)) tt)
      | inr l ↦ or_l (ltb b a) (eqb a b && true) (lt→ltb b a l)
    ]
value_level f true false a b c x y k h =
    elim (eq-zero-or-pos (a + b)) [
      | inl e ↦ or_r (ltb 0 (a + b)) (eqb a b && eqb a 0) (both_zero a b e)
      | inr l ↦ or_l (ltb 0 (a + b)) (eqb a b && eqb a 0) (lt→ltb 0 (a + b) l)
    ]
  where
    both_zero : (a b : ℕ) → a + b ≡ 0 → T (eqb a b && eqb a 0)
    both_zero a b e =
        let i : a ≡ b = omega arith in let j : a ≡ 0 = omega arith in and_i (eqb a b) (eqb a 0) (eq→eqb i) (eq→eqb j)
value_level f false true a b c x y k h =
    let l : a + b ≤ 0 =
    fraction_le f (a + b) 0 c (x + y) 0 (swapped f 0 (a + b) c 0 (x + y) (from_zero f a b c x y k)) (omega arith) in
    let i : a ≡ b = omega arith in
    let j : a ≡ 0 = omega arith in
    and_i (eqb a b) (eqb a 0) (eq→eqb i) (eq→eqb j)

-- ---- of two floats
pub lt→below : (f : Format) (x y : Float) → T (fits f x) → T (fits f y) → T (finite x) → T (finite y) → T (lt x y)
    → Below (value f x) (value f y)
unfolding lt value
lt→below f nan y p q i k h = absurd i
lt→below f (inf s) y p q i k h = absurd i
lt→below f (fin s m e) nan p q i k h = absurd k
lt→below f (fin s m e) (inf t) p q i k h = absurd k
lt→below f (fin s m e) (fin t n d) p q i k h =
    below_value f s t (m * up e * down d) (n * up d * down e) (down e * down d) (magnitude f (fin s m e))
    (magnitude f (fin t n d)) (operands f s m e t n d p q) h

pub below→lt : (f : Format) (x y : Float) → T (fits f x) → T (fits f y) → T (finite x) → T (finite y)
    → Below (value f x) (value f y) → T (lt x y)
unfolding lt value
below→lt f nan y p q i k h = absurd i
below→lt f (inf s) y p q i k h = absurd i
below→lt f (fin s m e) nan p q i k h = absurd k
below→lt f (fin s m e) (inf t) p q i k h = absurd k
below→lt f (fin s m e) (fin t n d) p q i k h =
    value_below f s t (m * up e * down d) (n * up d * down e) (down e * down d) (magnitude f (fin s m e))
    (magnitude f (fin t n d)) (operands f s m e t n d p q) h

pub not_lt→atmost : (f : Format) (x y : Float) → T (fits f x) → T (fits f y) → T (finite x) → T (finite y)
    → T (not (lt x y)) → AtMost (value f y) (value f x)
unfolding lt value
not_lt→atmost f nan y p q i k h = absurd i
not_lt→atmost f (inf s) y p q i k h = absurd i
not_lt→atmost f (fin s m e) nan p q i k h = absurd k
not_lt→atmost f (fin s m e) (inf t) p q i k h = absurd k
not_lt→atmost f (fin s m e) (fin t n d) p q i k h =
    not_below_value f s t (m * up e * down d) (n * up d * down e) (down e * down d) (magnitude f (fin s m e))
    (magnitude f (fin t n d)) (operands f s m e t n d p q) h

pub le→atmost : (f : Format) (x y : Float) → T (fits f x) → T (fits f y) → T (finite x) → T (finite y) → T (le x y)
    → AtMost (value f x) (value f y)
unfolding le value
le→atmost f nan y p q i k h = absurd i
le→atmost f (inf s) y p q i k h = absurd i
le→atmost f (fin s m e) nan p q i k h = absurd k
le→atmost f (fin s m e) (inf t) p q i k h = absurd k
le→atmost f (fin s m e) (fin t n d) p q i k h =
    let a = m * up e * down d in
    let b = n * up d * down e in
    elim (or_split (below s a t b) (level s a t b) h) [
      | inl l ↦ le_of_lt
          (below_value f s t a b (down e * down d) (magnitude f (fin s m e)) (magnitude f (fin t n d))
          (operands f s m e t n d p q) l)
      | inr l ↦ level_value f s t a b (down e * down d) (magnitude f (fin s m e)) (magnitude f (fin t n d))
          (operands f s m e t n d p q) l
    ]

pub atmost→le : (f : Format) (x y : Float) → T (fits f x) → T (fits f y) → T (finite x) → T (finite y)
    → AtMost (value f x) (value f y) → T (le x y)
unfolding le value
atmost→le f nan y p q i k h = absurd i
atmost→le f (inf s) y p q i k h = absurd i
atmost→le f (fin s m e) nan p q i k h = absurd k
atmost→le f (fin s m e) (inf t) p q i k h = absurd k
atmost→le f (fin s m e) (fin t n d) p q i k h =
    value_level f s t (m * up e * down d) (n * up d * down e) (down e * down d) (magnitude f (fin s m e))
    (magnitude f (fin t n d)) (operands f s m e t n d p q) h

-- a value is written with one part 0, so one that is not below +0 has no negative part
pub not_negative : (f : Format) (x : Float) → T (fits f x) → T (finite x) → T (not (lt x (fin false 0 (pos 0))))
    → (value f x).less ≡ 0
not_negative f x p i h =
    let z = fin false 0 (pos 0) in
    let a : AtMost zeroˢ (value f x) =
    subst (λ (v : Signed). AtMost v (value f x)) (zero_value f false)
    (not_lt→atmost f x z p (unfold fits in tt) i tt h) in
    elim (one_part f x) [ inl e ↦ e | inr e ↦ omega arith ]
