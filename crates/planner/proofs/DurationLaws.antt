-- The duration of an accepted profile with its brake and accel: it is finite and at least 0. Assumes nothing.
use Prim.Native.Nat.{ℕ, ◌+◌, ◌-◌, ◌*◌, ◌^◌, ◌≤◌, ◌<◌}
use native.Mathlib.Nat.{le_of_mul-le-mul_left, one-le-pow, mul-le-mul_right, zero-lt-suc}
use native.Mathlib.Omega.{arith}
use mathlib.Core.Path.{◌≡◌, refl}
use mathlib.Core.Bool.{Bool, true, false, not, ◌&&◌, beq}
use mathlib.Core.List.{List}
use lib.IntN.{pos}
use lib.Dec.{T, ltb, lit<}
use lib.Ieee.{Float, nan, inf, fin, Format, binary64, prec, low, up, down, round, sum, add, fits, of_bits}
use lib.Ieee.Exact.{HasValue, units_val}
use lib.Ieee.Fits.{round_is, add-fits}
use lib.Ieee.Order.{drop, kept}
use lib.Ieee.Scale.{grid, overflow, finite}
use Rattle.doubles.specs.Operators.{◌+ᶠ◌, ◌<ᶠ◌, ◌≤ᶠ◌, at}
use Rattle.doubles.specs.Constants.{0ᶠ}
use Rattle.doubles.specs.Signed.{Signed, zeroˢ, ◌⊕◌, ◌⊙◌, Near, size, AtMost}
use Rattle.doubles.specs.Value.{magnitude, value, val, Fits, Finite, NotNegative}
use Rattle.doubles.specs.Error.{ErrorAtMost}
use Rattle.doubles.specs.Error.{W}
use Rattle.doubles.proofs.DoubleLaws.{add64}
use Rattle.doubles.proofs.ValueLaws.{zero_value}
use Rattle.doubles.proofs.RoundLaws.{round_error_whole}
use Rattle.doubles.proofs.OperationLaws.{Fractions, operands, swapped, sum_units, difference_units}
use Rattle.doubles.proofs.OrderLaws.{not_lt→atmost, atmost→le, not_negative}
use Rattle.doubles.proofs.SumLaws.{add_not_negative, bounded_finite, not_negative_less, less_not_negative}
use Rattle.profile.specs.Tolerances.{t_max}
use Rattle.profile_rows.specs.Rows.{sums}
use Rattle.doubles.proofs.CondLaws.{cond_of}
use Rattle.replay.proofs.DurationBound.{Time}
use Rattle.replay.proofs.ReplayBound.{t_max_fits, t_max_finite}

-- ---- a sum of two that are far below the format's largest value is finite, in either format
value_finite : (x : Float) (s : Bool) (a c : ℕ) → HasValue x s a c → T (finite x)
value_finite nan s a c h = h
value_finite (inf t) s a c h = h
value_finite (fin t m e) s a c h = tt

-- a fraction a / c of n units
round_finite : (f : Format) (s : Bool) (a c n : ℕ) → 0 < c → a * 2 ^ low f ≡ n * c → 2 * n < overflow f
    → T (finite (round f s a c))
round_finite f s a c n C e h =
    value_finite (round f s a c) s (grid f a c) (2 ^ low f)
    (rw (round_is f s a c) (units_val f s (kept (prec f) (a * 2 ^ low f) c) (drop (prec f) (a * 2 ^ low f) c)
    (under (2 ^ prec f) (grid f a c) (overflow f) (one-le-pow (prec f) 2 (zero-lt-suc 1))
    (round_error_whole f a c C n e) h)))
  where
    under : (w g o : ℕ) → 1 ≤ w → ErrorAtMost w g n n → 2 * n < o → g < o
    under w g o l r h =
        let b : g ≤ 2 * n = le_of_mul-le-mul_left {m = g} {n = 2 * n} {k = w}
        (omega (arith, r.low, mul-le-mul_right n l)) l in omega arith

sum_finite : (f : Format) (s : Bool) (a : ℕ) (t : Bool) (b c x y : ℕ) → Fractions f a b c x y → 2 * (x + y) < overflow f
    → T (finite (sum f s a t b c))
unfolding sum
sum_finite f s a t b c x y k h =
    cond_of (λ (z : Float). T (finite z)) (beq s t)
    (round_finite f s (a + b) c (x + y) k.positive (sum_units f a b c x y k) h)
    (cond_of (λ (z : Float). T (finite z)) (ltb a b)
    (round_finite f t (b - a) c (y - x) k.positive (difference_units f a b c x y k)
    (less (y - x) (omega arith) (overflow f) h))
    (round_finite f (s && ltb b a) (a - b) c (x - y) k.positive
    (difference_units f b a c y x (swapped f a b c x y k)) (less (x - y) (omega arith) (overflow f) h)))
  where
    less : (n : ℕ) → n ≤ x + y → (o : ℕ) → 2 * (x + y) < o → 2 * n < o
    less n l o h = omega arith

add_stays_finite : (f : Format) (x y : Float) → T (fits f x) → T (fits f y) → T (finite x) → T (finite y)
    → 2 * (magnitude f x + magnitude f y) < overflow f → T (finite (add f x y))
unfolding add
add_stays_finite f nan y p q i k h = absurd i
add_stays_finite f (inf s) y p q i k h = absurd i
add_stays_finite f (fin s m e) nan p q i k h = absurd k
add_stays_finite f (fin s m e) (inf t) p q i k h = absurd k
add_stays_finite f (fin s m e) (fin t n d) p q i k h =
    sum_finite f s (m * up e * down d) t (n * up d * down e) (down e * down d) (magnitude f (fin s m e))
    (magnitude f (fin t n d)) (operands f s m e t n d p q) h

-- ---- doubles from 0 to n units
pub record UpTo (n : ℕ) (x : Float) : Type 0 where
  pub fits : Fits x
  pub finite : Finite x
  pub less : (val x).less ≡ 0
  pub most : (val x).plus ≤ n

magnitude_at_most : (f : Format) (x : Float) (n : ℕ) → (value f x).less ≡ 0 → (value f x).plus ≤ n → magnitude f x ≤ n
unfolding value
magnitude_at_most f nan n e h = unfold magnitude in h
magnitude_at_most f (inf s) n e h = unfold magnitude in h
magnitude_at_most f (fin false m d) n e h = h
magnitude_at_most f (fin true m d) n e h = omega arith

-- a rounded sum of two that are not negative is at most twice the exact one
at_most_twice : (x y r : Signed) (n m : ℕ) → x.less ≡ 0 → y.less ≡ 0 → r.less ≡ 0 → x.plus ≤ n → y.plus ≤ m
    → Near (W ⊙ r) (W ⊙ (x ⊕ y)) (size (x ⊕ y)) → r.plus ≤ 2 * (n + m)
at_most_twice x y r n m a b c k l h =
    let s : size (x ⊕ y) ≡ x.plus + y.plus = omega arith in
    side x.plus x.less y.plus y.less r.plus r.less (size (x ⊕ y)) a b c s k l h.low
  where
    side : (xp xl yp yl rp rl e : ℕ) → xl ≡ 0 → yl ≡ 0 → rl ≡ 0 → e ≡ xp + yp → xp ≤ n → yp ≤ m
        → W * rp + W * (xl + yl) ≤ W * (xp + yp) + W * rl + e → rp ≤ 2 * (n + m)
    side xp xl yp yl rp rl e a b c s k l h = omega arith

pub plus_up_to : (x y : Float) (n m : ℕ) → UpTo n x → UpTo m y → 2 * (n + m) < overflow binary64
    → UpTo (2 * (n + m)) (x +ᶠ y)
plus_up_to x y n m a b h =
    let i : Finite (x +ᶠ y) = add_stays_finite binary64 x y a.fits b.fits a.finite b.finite
    (below _ _ n m (overflow binary64) (magnitude_at_most binary64 x n a.less a.most)
    (magnitude_at_most binary64 y m b.less b.most) h) in
    let l : (val (x +ᶠ y)).less ≡ 0 =
    not_negative_less binary64 (x +ᶠ y) (add_not_negative binary64 x y a.fits b.fits
    (less_not_negative binary64 x a.finite a.less) b.finite b.less) i in
    record {
      fits = add-fits binary64 x y;
      finite = i;
      less = l;
      most = at_most_twice (val x) (val y) (val (x +ᶠ y)) n m a.less b.less l a.most b.most
          (add64 x y a.fits b.fits i);
    }
  where
    below : (x y n m o : ℕ) → x ≤ n → y ≤ m → 2 * (n + m) < o → 2 * (x + y) < o
    below x y n m o k l h = omega arith

-- ---- 1e12, in units
unfoldable pub longest : ℕ
longest = (val t_max).plus

pub two_longest : 2 * (longest + longest) < overflow binary64
unfolding longest value magnitude of_bits
two_longest = lit< tt

pub three_longest : 2 * (2 * (longest + longest) + longest) < overflow binary64
unfolding longest value magnitude of_bits
three_longest = lit< tt

pub zero_is : 0ᶠ ≡ fin false 0 (pos 0)
unfolding of_bits
zero_is = refl

-- a finite double that is not below 0, and one that is not above 1e12 besides
pub time : (t : Float) → Fits t → Finite t → T (not (t <ᶠ 0ᶠ)) → Time t
time t p i h = record { fits = p; finite = i; less = not_negative binary64 t p i (rw zero_is at h) }

up_to_longest : (t : Float) → Time t → T (not (t_max <ᶠ t)) → UpTo longest t
unfolding longest
up_to_longest t a h =
    record {
      fits = a.fits;
      finite = a.finite;
      less = a.less;
      most = side (val t) (val t_max) a.less
          (not_lt→atmost binary64 t_max t t_max_fits a.fits t_max_finite a.finite h);
    }
  where
    side : (x y : Signed) → x.less ≡ 0 → AtMost x y → x.plus ≤ y.plus
    side x y e h = omega arith

at_least_zero : (x : Float) (n : ℕ) → UpTo n x → T (0ᶠ ≤ᶠ x)
at_least_zero x n a =
    rw zero_is (atmost→le binary64 (fin false 0 (pos 0)) x (unfold fits in tt) a.fits tt a.finite
    (rw (zero_value binary64 false) (side (val x) a.less)))
  where
    side : (y : Signed) → y.less ≡ 0 → AtMost zeroˢ y
    side y e = omega arith

-- ---- the sum of seven times is no NaN: it is finite or +∞
record Sum (s : Float) : Type 0 where
  fits : Fits s
  not_negative : NotNegative binary64 s

infixl 20 ◌plus◌
◌plus◌ : {s t : Float} → Sum s → Time t → Sum (s +ᶠ t)
◌plus◌ {s} {t} a b =
    record {
      fits = add-fits binary64 s t;
      not_negative = add_not_negative binary64 s t a.fits b.fits a.not_negative b.finite b.less;
    }

total_sum : (t : List Float) → ((i : ℕ) → i < 7 → Time (at t i)) → Sum (at (sums t) 6)
unfolding sums
total_sum t a =
    let first : Sum (at t 0) =
    record {
      fits = (a 0 (lit< tt)).fits;
      not_negative = less_not_negative binary64 (at t 0) (a 0 (lit< tt)).finite (a 0 (lit< tt)).less;
    } in
    first plus a 1 (lit< tt) plus a 2 (lit< tt) plus a 3 (lit< tt) plus a 4 (lit< tt) plus a 5 (lit< tt)
    plus a 6 (lit< tt)

total_up_to : (s : Float) → Sum s → T (not (t_max <ᶠ s)) → UpTo longest s
total_up_to s a h =
    let i : Finite s = bounded_finite binary64 s t_max a.not_negative t_max_finite h in
    up_to_longest s (record { fits = a.fits; finite = i; less = not_negative_less binary64 s a.not_negative i }) h

-- ---- with brake and accel
pub with_durations : (t : List Float) (brake accel : Float) → ((i : ℕ) → i < 7 → Time (at t i))
    → T (not (t_max <ᶠ at (sums t) 6)) → Time brake → T (not (t_max <ᶠ brake)) → Time accel → T (not (t_max <ᶠ accel))
    → Finite (at (sums t) 6 +ᶠ brake +ᶠ accel) × T (0ᶠ ≤ᶠ at (sums t) 6 +ᶠ brake +ᶠ accel)
with_durations t brake accel a h b k c l =
    let s = at (sums t) 6 in
    let d = plus_up_to (s +ᶠ brake) accel _ _ (plus_up_to s brake _ _ (total_up_to s (total_sum t a) h)
    (up_to_longest brake b k) two_longest) (up_to_longest accel c l) three_longest in
    (d.finite, at_least_zero (s +ᶠ brake +ᶠ accel) _ d)
