-- The exact sum of a profile's times, from the check's condition on their sum in doubles. Assumes nothing.
use mathlib.Core.Path.{◌≡◌, refl, ap}
use Prim.Native.Nat.{ℕ, zero, suc, ◌+◌, ◌*◌, ◌^◌, ◌≤◌, ◌<◌}
use native.Mathlib.Nat.{le_refl, le_trans, le_of_lt, mul-le-mul_left, mul-le-mul_right, one-le-pow, pow-succ'}
use native.Mathlib.Nat.{zero-lt-suc}
use native.Mathlib.Omega.{arith}
use mathlib.Core.Bool.{not}
use mathlib.Core.List.{List}
use lib.Dec.{T}
use lib.Ieee.{Float, binary64}
use lib.Ieee.Fits.{add-fits}
use Rattle.doubles.specs.Operators.{◌+ᶠ◌, ◌<ᶠ◌, at}
use Rattle.doubles.specs.Signed.{Signed, ◌⊕◌, ◌⊙◌, Near, size, AtMost}
use Rattle.doubles.specs.Value.{val, Fits, Finite, NotNegative}
use Rattle.doubles.specs.Error.{W}
use Rattle.doubles.proofs.OperationLaws.{add_finite}
use Rattle.doubles.proofs.OrderLaws.{not_lt→atmost}
use Rattle.doubles.proofs.SumLaws.{add_not_negative, bounded_finite, not_negative_less, less_not_negative}
use Rattle.doubles.proofs.DoubleLaws.{add64}
use Rattle.profile_rows.specs.Rows.{sums}
use Rattle.replay.proofs.ExactMotion.{sum_to}

-- the sum in doubles of the times up to phase n
unfoldable pub sumᶠ : (ℕ → Float) → ℕ → Float
sumᶠ t zero = t 0
sumᶠ t (suc n) = sumᶠ t n +ᶠ t (suc n)

-- which the check has in its last sum
pub last_sum : (t : List Float) → sumᶠ (λ i. at t i) 6 ≡ at (sums t) 6
unfolding sumᶠ sums
last_sum t = refl

-- a time: a finite double that is not negative
pub record Time (t : Float) : Type 0 where
  pub fits : Fits t
  pub finite : Finite t
  pub less : (val t).less ≡ 0

-- a sum of two that are not negative is at most twice its rounding
at_most_double : (x y r : Signed) → x.less ≡ 0 → y.less ≡ 0 → r.less ≡ 0 → Near (W ⊙ r) (W ⊙ (x ⊕ y)) (size (x ⊕ y))
    → x.plus + y.plus ≤ 2 * r.plus
at_most_double x y r a b c n =
    let s : size (x ⊕ y) ≡ x.plus + y.plus = omega arith in
    side x.plus x.less y.plus y.less r.plus r.less (size (x ⊕ y)) a b c s n.high
  where
    side : (xp xl yp yl rp rl e : ℕ) → xl ≡ 0 → yl ≡ 0 → rl ≡ 0 → e ≡ xp + yp
        → W * rl + W * (xp + yp) ≤ W * (xl + yl) + W * rp + e → xp + yp ≤ 2 * rp
    side xp xl yp yl rp rl e a b c s h = omega arith

module _ (t : ℕ → Float) (N : ℕ) (a : (i : ℕ) → i < suc N → Time (t i)) where
  sum_fits : (n : ℕ) → n < suc N → Fits (sumᶠ t n)
  unfolding sumᶠ
  sum_fits zero l = (a 0 l).fits
  sum_fits (suc n) l = add-fits binary64 (sumᶠ t n) (t (suc n))

  sum_not_negative : (n : ℕ) → n < suc N → NotNegative binary64 (sumᶠ t n)
  unfolding sumᶠ
  sum_not_negative zero l = less_not_negative binary64 (t 0) (a 0 l).finite (a 0 l).less
  sum_not_negative (suc n) l =
      let l' = le_of_lt l in
      add_not_negative binary64 (sumᶠ t n) (t (suc n)) (sum_fits n l') (a (suc n) l).fits (sum_not_negative n l')
      (a (suc n) l).finite (a (suc n) l).less

  -- a rounded sum of two is at least half of the exact one, which is close enough here
  sum_bound : (n : ℕ) → n < suc N → Finite (sumᶠ t n)
      → sum_to (suc n) (λ i. (val (t i)).plus) ≤ 2 ^ n * (val (sumᶠ t n)).plus
  unfolding sumᶠ sum_to
  sum_bound zero l i = omega arith
  sum_bound (suc n) l i =
      let l' : n < suc N = le_of_lt l in
      let x = sumᶠ t n in
      let y = t (suc n) in
      let fx = (add_finite binary64 x y i).0 in
      let d = at_most_double (val x) (val y) (val (x +ᶠ y)) (not_negative_less binary64 x (sum_not_negative n l') fx)
      (a (suc n) l).less (not_negative_less binary64 (x +ᶠ y) (sum_not_negative (suc n) l) i)
      (add64 x y (sum_fits n l') (a (suc n) l).fits i) in
      next (val x).plus (val y).plus (val (x +ᶠ y)).plus (sum_to n (λ i. (val (t i)).plus) + (val (t n)).plus) (2 ^ n)
      (2 ^ suc n) d (sum_bound n l' fx) (pow-succ' 2 n) (one-le-pow n 2 (zero-lt-suc 1))
    where
      next : (x y z s n n' : ℕ) → x + y ≤ 2 * z → s ≤ n * x → n' ≡ 2 * n → 1 ≤ n → s + y ≤ n' * z
      next x y z s n n' d ih e o = omega (arith, ap (λ (w : ℕ). w * z) e, mul-le-mul_left n d, mul-le-mul_right y o)

  -- a sum that is not above `longest`, which is not above `most`
  pub duration_bound : (longest most : Float) → Fits longest → Finite longest → T (not (longest <ᶠ sumᶠ t N))
      → AtMost (val longest) (val most)
      → sum_to (suc N) (λ i. (val (t i)).plus) ≤ 2 ^ N * size (val most)
  duration_bound longest most f i n c =
      let s = sumᶠ t N in
      let l = le_refl (suc N) in
      let u = sum_not_negative N l in
      let is = bounded_finite binary64 s longest u i n in
      let m = not_lt→atmost binary64 longest s f (sum_fits N l) i is n in
      le_trans (sum_bound N l is) (mul-le-mul_left (2 ^ N)
      (chain (val s) (val longest) (val most) (not_negative_less binary64 s u is) m c))
    where
      chain : (x y w : Signed) → x.less ≡ 0 → AtMost x y → AtMost y w → x.plus ≤ size w
      chain x y w z a b = omega arith
