-- Sums of numbers that are not negative, in either format: such a sum is no NaN, though it may
-- be +∞, and one that is not above a finite value is finite. Assumes nothing.
use mathlib.Core.Path.{◌≡◌, ap}
use Prim.Native.Nat.{ℕ, suc, ◌+◌, ◌-◌, ◌*◌, ◌^◌, ◌≤◌, ◌<◌}
use native.Mathlib.Nat.{le_of_mul-le-mul_right}
use native.Mathlib.Omega.{arith}
use mathlib.Core.Bool.{Bool, true, false, not, cond}
use lib.Dec.{T, ltb, ltb→lt}
use lib.Pow.{pow_pos}
use lib.Ieee.{Float, nan, inf, fin, Format, prec, low, up, down, odd, units, round, sum, add, lt, fits}
use lib.Ieee.Fits.{round_is}
use lib.Ieee.Exact.{HasValue, odd_sign}
use lib.Ieee.Order.{drop, kept}
use lib.Ieee.Scale.{overflow, finite}
use Rattle.doubles.specs.Signed.{Signed}
use Rattle.doubles.specs.Value.{signed, magnitude, value, NotNegative}
use Rattle.doubles.proofs.ValueLaws.{value_of, zero_value, round_zero}
use Rattle.doubles.proofs.OperationLaws.{Fractions, operands}

-- ---- what `round` gives
value_not_negative : (f : Format) (x : Float) (a : ℕ) → HasValue x false a (2 ^ low f) → NotNegative f x
value_not_negative f nan a h = h
value_not_negative f (inf t) a h = absurd h
value_not_negative f (fin t m d) a h = ap (λ (v : Signed). v.less) (value_of f (fin t m d) false a h)

round_not_negative : (f : Format) (a c : ℕ) → NotNegative f (round f false a c)
round_not_negative f a c =
    rw (round_is f false a c) (in_units (kept (prec f) (a * 2 ^ low f) c) (drop (prec f) (a * 2 ^ low f) c))
  where
    in_units : (q k : ℕ) → NotNegative f (units f false q k)
    in_units q k = unfold units in (go (ltb (q * 2 ^ k) (overflow f)))
      where
        go : (b : Bool) → NotNegative f (cond b (odd (suc (prec f)) false q k (low f)) (inf false))
        go true = value_not_negative f (odd (suc (prec f)) false q k (low f)) (q * 2 ^ k)
            (odd_sign (suc (prec f)) false q k (low f))
        go false = tt

round_zero_not_negative : (f : Format) (s : Bool) (n c : ℕ) → 0 < c → n ≡ 0 → NotNegative f (round f s n c)
round_zero_not_negative f s n c C e = rw (e, round_zero f s c C) (ap (λ (v : Signed). v.less) (zero_value f s))

-- ---- a sum of two
none : (a u c x : ℕ) → 0 < u → a * u ≡ x * c → x ≡ 0 → a ≡ 0
none a u c x U e z =
    let l : a ≤ 0 = le_of_mul-le-mul_right {m = a} {n = 0} {k = u} (omega (arith, ap (λ (y : ℕ). y * c) z)) U in
    omega arith

sum_not_negative : (f : Format) (s : Bool) (a : ℕ) (t : Bool) (b c x y : ℕ) → Fractions f a b c x y
    → (signed s x).less ≡ 0 → (signed t y).less ≡ 0 → NotNegative f (sum f s a t b c)
unfolding sum
sum_not_negative f false a false b c x y k i j = round_not_negative f (a + b) c
sum_not_negative f true a true b c x y k i j =
    let az = none a (2 ^ low f) c x (pow_pos (low f)) k.left i in
    let bz = none b (2 ^ low f) c y (pow_pos (low f)) k.right j in
    round_zero_not_negative f true (a + b) c k.positive (omega arith)
sum_not_negative f false a true b c x y k i j =
    go (ltb a b) (ltb→lt a b) (none b (2 ^ low f) c y (pow_pos (low f)) k.right j)
  where
    go : (o : Bool) → (T o → a < b) → b ≡ 0 → NotNegative f (cond o (round f true (b - a) c) (round f false (a - b) c))
    go true l z = round_zero_not_negative f true (b - a) c k.positive (omega arith)
    go false l z = round_not_negative f (a - b) c
sum_not_negative f true a false b c x y k i j =
    go (ltb a b) (ltb b a) (none a (2 ^ low f) c x (pow_pos (low f)) k.left i)
  where
    go : (o l : Bool) → a ≡ 0 → NotNegative f (cond o (round f false (b - a) c) (round f l (a - b) c))
    go true l z = round_not_negative f (b - a) c
    go false l z = round_zero_not_negative f l (a - b) c k.positive (omega arith)

pub add_not_negative : (f : Format) (x y : Float) → T (fits f x) → T (fits f y) → NotNegative f x → T (finite y)
    → (value f y).less ≡ 0 → NotNegative f (add f x y)
unfolding add value
add_not_negative f nan y p q u i n = absurd u
add_not_negative f (inf s) nan p q u i n = absurd i
add_not_negative f (inf s) (inf t) p q u i n = absurd i
add_not_negative f (inf s) (fin t m d) p q u i n = u
add_not_negative f (fin s k e) nan p q u i n = absurd i
add_not_negative f (fin s k e) (inf t) p q u i n = absurd i
add_not_negative f (fin s k e) (fin t m d) p q u i n =
    sum_not_negative f s (k * up e * down d) t (m * up d * down e) (down e * down d) (magnitude f (fin s k e))
    (magnitude f (fin t m d)) (operands f s k e t m d p q) u n

-- ---- what is not above a finite value is finite
pub bounded_finite : (f : Format) (x y : Float) → NotNegative f x → T (finite y) → T (not (lt y x)) → T (finite x)
unfolding lt
bounded_finite f nan y u i h = absurd u
bounded_finite f (inf true) y u i h = absurd u
bounded_finite f (inf false) nan u i h = absurd i
bounded_finite f (inf false) (inf t) u i h = absurd i
bounded_finite f (inf false) (fin t n d) u i h = absurd h
bounded_finite f (fin s m e) y u i h = tt

pub not_negative_less : (f : Format) (x : Float) → NotNegative f x → T (finite x) → (value f x).less ≡ 0
not_negative_less f nan u i = absurd u
not_negative_less f (inf s) u i = absurd i
not_negative_less f (fin s m e) u i = u

pub less_not_negative : (f : Format) (x : Float) → T (finite x) → (value f x).less ≡ 0 → NotNegative f x
less_not_negative f nan i n = i
less_not_negative f (inf s) i n = absurd i
less_not_negative f (fin s m e) i n = n
