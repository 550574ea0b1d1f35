-- A rounded difference below a value d comes from an exact difference of at most d: rounding
-- keeps the order, and d is its own rounding. Either format; at the end the form that a condition
-- `(x - y).abs() < d` on doubles needs. Assumes nothing.
use mathlib.Core.Path.{◌≡◌, refl, sym, ap, ◌∙◌, subst}
use Prim.Native.Nat.{ℕ, suc, ◌+◌, ◌-◌, ◌*◌, ◌/◌, ◌^◌, ◌≤◌, ◌<◌}
use native.Mathlib.Nat.{le_trans, le_of_eq, le_of_lt, lt_of_not-le, le_of_suc-le-suc, not-le_of_lt, mul-le-mul_right}
use native.Mathlib.Omega.{arith}
use mathlib.Core.Bool.{Bool, true, false, not, beq, cond}
use lib.IntN.{ℤ}
use lib.Dec.{T, ltb, ltb→lt, nltb→le}
use lib.Pow.{pow_pos}
use lib.Ieee.{Float, nan, inf, fin, Format, binary64, low, up, down, round, neg, sum, add, sub, lt, fits}
use lib.Ieee.Fits.{round-fits, neg-fits, sub-fits}
use lib.Ieee.Exact.{HasValue, round_exact}
use lib.Ieee.Order.{round_mono}
use lib.Ieee.Scale.{grid, overflow, finite, round_val}
use Rattle.doubles.specs.Functions.{absᶠ}
use Rattle.doubles.specs.Signed.{Signed, ◌⊕◌, minus, size, Below, AtMost}
use Rattle.doubles.specs.Value.{signed, magnitude, value, val, Fits, Finite, Close}
use Rattle.doubles.proofs.SignedLaws.{size_signed}
use Rattle.doubles.proofs.ValueLaws.{unsigned_fits, value_of, Digits, digits, round_value, round_under}
use Rattle.doubles.proofs.OperationLaws.{Fractions, operands, swapped, sum_units, difference_units, keeps_order}
use Rattle.doubles.proofs.OperationLaws.{not_finite, neg_value, sub_finite}
use Rattle.doubles.proofs.OrderLaws.{lt→below, le→atmost}

-- ---- rounding a fraction of w units does not go below n units that the format holds, where n is at most w
has_finite : (x : Float) (n u : ℕ) → HasValue x false n u → T (finite x)
has_finite nan n u h = h
has_finite (inf s) n u h = h
has_finite (fin s m e) n u h = tt

not_below : (f : Format) (a c w n : ℕ) → 0 < c → a * 2 ^ low f ≡ w * c → grid f a c < overflow f → Digits f n → n ≤ w
    → n ≤ grid f a c
not_below f a c w n C e g h l =
    let u = 2 ^ low f in
    let x = round f false n u in
    let y = round f false a c in
    let hx : HasValue x false n u =
    round_exact f false n u h.q h.j (pow_pos (low f)) h.few (rw h.is at h.under)
    (ap (λ (z : ℕ). z * u) h.is) in
    let hy : HasValue y false (grid f a c) u = round_val f a c g in
    let m = round_mono f n u a c (pow_pos (low f)) C (le_trans (mul-le-mul_right c l) (le_of_eq (sym e))) in
    let k : AtMost (value f x) (value f y) =
    le→atmost f x y (round-fits f false n u) (round-fits f false a c) (has_finite x n u hx)
    (has_finite y (grid f a c) u hy) m in
    let i : AtMost (signed false n) (signed false (grid f a c)) =
    rw (value_of f x false n hx, value_of f y false (grid f a c) hy) at k in
    omega arith

-- ---- a sum is `round` of a fraction of its size
record AsRound (f : Format) (r : Float) (w : ℕ) : Type 0 where
  s : Bool
  a : ℕ
  c : ℕ
  positive : 0 < c
  is : r ≡ round f s a c
  units : a * 2 ^ low f ≡ w * c

sum_round : (f : Format) (s : Bool) (a : ℕ) (t : Bool) (b c x y : ℕ) → Fractions f a b c x y
    → AsRound f (sum f s a t b c) (size (signed s x ⊕ signed t y))
unfolding sum
sum_round f false a false b c x y k =
    record {
      s = false;
      a = a + b;
      c = c;
      positive = k.positive;
      is = refl;
      units = sum_units f a b c x y k ∙ ap (λ (z : ℕ). z * c) (omega arith);
    }
sum_round f true a true b c x y k =
    record {
      s = true;
      a = a + b;
      c = c;
      positive = k.positive;
      is = refl;
      units = sum_units f a b c x y k ∙ ap (λ (z : ℕ). z * c) (omega arith);
    }
sum_round f false a true b c x y k = go (ltb a b) (ltb→lt a b) (nltb→le a b)
  where
    go : (o : Bool) → (T o → a < b) → (T (not o) → b ≤ a)
        → AsRound f (cond o (round f true (b - a) c) (round f false (a - b) c)) (size (signed false x ⊕ signed true y))
    go true l g = record {
      s = true;
      a = b - a;
      c = c;
      positive = k.positive;
      is = refl;
      units = difference_units f a b c x y k
          ∙ ap (λ (z : ℕ). z * c) (omega (arith, keeps_order f a b c x y k (le_of_lt (l tt))));
    }
    go false l g = record {
      s = false;
      a = a - b;
      c = c;
      positive = k.positive;
      is = refl;
      units = difference_units f b a c y x (swapped f a b c x y k)
          ∙ ap (λ (z : ℕ). z * c) (omega (arith, keeps_order f b a c y x (swapped f a b c x y k) (g tt)));
    }
sum_round f true a false b c x y k = go (ltb a b) (ltb→lt a b) (nltb→le a b)
  where
    go : (o : Bool) → (T o → a < b) → (T (not o) → b ≤ a)
        → AsRound f (cond o (round f false (b - a) c) (round f (ltb b a) (a - b) c))
        (size (signed true x ⊕ signed false y))
    go true l g = record {
      s = false;
      a = b - a;
      c = c;
      positive = k.positive;
      is = refl;
      units = difference_units f a b c x y k
          ∙ ap (λ (z : ℕ). z * c) (omega (arith, keeps_order f a b c x y k (le_of_lt (l tt))));
    }
    go false l g = record {
      s = ltb b a;
      a = a - b;
      c = c;
      positive = k.positive;
      is = refl;
      units = difference_units f b a c y x (swapped f a b c x y k)
          ∙ ap (λ (z : ℕ). z * c) (omega (arith, keeps_order f b a c y x (swapped f a b c x y k) (g tt)));
    }

add_round : (f : Format) (x y : Float) → T (fits f x) → T (fits f y) → T (finite (add f x y))
    → AsRound f (add f x y) (size (value f x ⊕ value f y))
unfolding add value
add_round f nan y p q h = absurd h
add_round f (inf s) nan p q h = absurd h
add_round f (inf s) (inf t) p q h = absurd (not_finite (beq s t) s h)
add_round f (inf s) (fin t n d) p q h = absurd h
add_round f (fin s m e) nan p q h = absurd h
add_round f (fin s m e) (inf t) p q h = absurd h
add_round f (fin s m e) (fin t n d) p q h =
    sum_round f s (m * up e * down d) t (n * up d * down e) (down e * down d) (magnitude f (fin s m e))
    (magnitude f (fin t n d)) (operands f s m e t n d p q)

-- ---- a sum, and a difference, that rounds to less than a value
pub sum_below : (f : Format) (x y : Float) (s : Bool) (m : ℕ) (e : ℤ) → T (fits f x) → T (fits f y)
    → T (fits f (fin s (suc m) e)) → T (finite (add f x y))
    → size (value f (add f x y)) < magnitude f (fin s (suc m) e)
    → size (value f x ⊕ value f y) ≤ magnitude f (fin s (suc m) e)
sum_below f x y s m e p q r h l =
    let d = magnitude f (fin s (suc m) e) in
    let w = size (value f x ⊕ value f y) in
    let i = add_round f x y p q h in
    let t : T (finite (round f i.s i.a i.c)) = subst (λ (z : Float). T (finite z)) i.is h in
    let g = grid f i.a i.c in
    let sz : size (value f (add f x y)) ≡ g =
    ap (λ (z : Float). size (value f z)) i.is
    ∙ ap (λ (v : Signed). size v) (round_value f i.s i.a i.c t) ∙ size_signed i.s g in
    let gd : g < d = subst (λ (z : ℕ). z < d) sz l in
    le_of_suc-le-suc
    (lt_of_not-le
    (λ (k : suc d ≤ w). not-le_of_lt gd
    (not_below f i.a i.c w d i.positive i.units (round_under f i.s i.a i.c t)
    (digits f s m e r) (le_of_lt k))))

pub difference_below : (f : Format) (x y : Float) (s : Bool) (m : ℕ) (e : ℤ) → T (fits f x) → T (fits f y)
    → T (fits f (fin s (suc m) e)) → T (finite (sub f x y))
    → size (value f (sub f x y)) < magnitude f (fin s (suc m) e)
    → size (value f x ⊕ minus (value f y)) ≤ magnitude f (fin s (suc m) e)
unfolding sub
difference_below f x y s m e p q r h l = rw (neg_value f y) at (sum_below f x (neg y) s m e p (neg-fits f y q) r h l)

-- ---- the same for a test of doubles: |r| < d
size_magnitude : (f : Format) (s : Bool) (m : ℕ) (e : ℤ) → size (value f (fin s m e)) ≡ magnitude f (fin false m e)
unfolding value magnitude
size_magnitude f s m e = size_signed s (m * up e * 2 ^ low f / down e)

magnitude_below : (f : Format) (n : ℕ) (d : ℤ) (m : ℕ) (e : ℤ)
    → Below (value f (fin false n d)) (value f (fin false m e))
    → magnitude f (fin false n d) < magnitude f (fin false m e)
unfolding value
magnitude_below f n d m e h = omega arith

abs_below : (r : Float) (m : ℕ) (e : ℤ) → Fits r → Fits (fin false m e) → T (lt (absᶠ r) (fin false m e))
    → Finite r × (size (val r) < magnitude binary64 (fin false m e))
unfolding absᶠ
abs_below nan m e f g h = absurd (unfold lt in h)
abs_below (inf s) m e f g h = absurd (unfold lt in h)
abs_below (fin s n d) m e f g h = (
  tt,
  rw (size_magnitude binary64 s n d)
      (magnitude_below binary64 n d m e
      (lt→below binary64 (fin false n d) (fin false m e) (unsigned_fits binary64 s n d f) g tt tt h)),
)

pub close : (x y : Float) (m : ℕ) (e : ℤ) → Fits x → Fits y → Fits (fin false (suc m) e)
    → T (lt (absᶠ (sub binary64 x y)) (fin false (suc m) e)) → Close x y (fin false (suc m) e)
close x y m e f g k h =
    let u = abs_below (sub binary64 x y) (suc m) e (sub-fits binary64 x y) k h in
    let b = sub_finite binary64 x y u.0 in
    record {
      x_finite = b.0;
      y_finite = b.1;
      apart = rw (size_magnitude binary64 false (suc m) e)
          (difference_below binary64 x y false m e f g k u.0 u.1);
    }
