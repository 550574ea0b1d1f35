-- Laws of the small functions on doubles, as their code tests and computes. Assumes nothing.
use mathlib.Core.Path.{◌≡◌, refl, sym, ap, ◌∙◌, subst}
use Prim.Native.Nat.{ℕ, zero, suc, ◌+◌, ◌*◌, ◌^◌, ◌≤◌, ◌<◌}
use native.Mathlib.Nat.{mul-pos, mul-le-mul_right, zero-lt-suc}
use native.Mathlib.Omega.{arith}
use mathlib.Core.Bool.{Bool, true, false, not, ◌&&◌, beq}
use lib.IntN.{ℤ, pos}
use lib.Dec.{T, eqb, eqb_refl}
use lib.Pow.{pow_pos}
use lib.Ieee.{Float, nan, inf, fin, binary64, low, up, down, lt, le, eq, ne, neg, add, sub, sum, round}
use lib.Ieee.{fits, is_nan, of_bits}
use lib.Ieee.Bits.{is_true}
use lib.Ieee.Fits.{up_pos}
use lib.Ieee.Scale.{finite}
use Rattle.std.specs.Float.{float_is_finite, float_with_sign}
use Rattle.doubles.specs.Operators.{◌-ᶠ◌, ◌≤ᶠ◌, ◌!=ᶠ◌}
use Rattle.doubles.specs.Constants.{0ᶠ}
use Rattle.doubles.specs.Functions.{absᶠ}
use Rattle.doubles.specs.Signed.{Signed, zeroˢ, AtMost}
use Rattle.doubles.specs.Value.{magnitude, value, Fits}
use Rattle.doubles.proofs.ValueLaws.{zero_value, magnitude_exact, unsigned_fits, zero_fits, round_held}
use Rattle.doubles.proofs.OrderLaws.{le→atmost, atmost→le}

-- ---- only a NaN differs from itself
same_sign : (s : Bool) → beq s s ≡ true
same_sign true = refl
same_sign false = refl

pub nan_test : (x : Float) → (x !=ᶠ x) ≡ is_nan x
unfolding ne eq is_nan
nan_test nan = refl
nan_test (inf s) = ap not (same_sign s)
nan_test (fin s m e) =
    rw (is_true (eqb (m * up e * down e) (m * up e * down e)) (eqb_refl (m * up e * down e)), same_sign s)

-- and it is the one that there is
pub is_nan_law : (x : Float) → T (is_nan x) → x ≡ nan
unfolding is_nan
is_nan_law nan h = refl
is_nan_law (inf s) h = absurd h
is_nan_law (fin s m e) h = absurd h

-- what is true holds
pub holds : (b : Bool) → b ≡ true → T b
holds b e = subst (λ (b : Bool). T b) (sym e) tt

-- ---- the absolute value: std's word for it
pub sign_cleared : (x : Float) → float_with_sign false x ≡ absᶠ x
unfolding float_with_sign absᶠ
sign_cleared nan = refl
sign_cleared (inf s) = refl
sign_cleared (fin s m e) = refl

zero_is : 0ᶠ ≡ fin false 0 (pos 0)
unfolding of_bits
zero_is = refl

refuted : {X : Type 0} (b : Bool) → T b → b ≡ false → X
refuted true t e = absurd (subst (λ (b : Bool). T b) e tt)
refuted false t e = absurd t

-- no positive number is at most 0
positive_above : (m : ℕ) (e : ℤ) → Fits (fin false (suc m) e) → le (fin false (suc m) e) (fin false 0 (pos 0)) ≡ true
    → ⊥
unfolding value
positive_above m e f h =
    let z = fin false 0 (pos 0) in
    let x = fin false (suc m) e in
    let l : AtMost (value binary64 x) zeroˢ =
    subst (λ (v : Signed). AtMost (value binary64 x) v) (zero_value binary64 false)
    (le→atmost binary64 x z f (unfold fits in tt) tt tt (holds (le x z) h)) in
    nonzero (magnitude binary64 x) (down e) (suc m * up e * 2 ^ low binary64)
    (magnitude_exact binary64 false (suc m) e f)
    (mul-pos (mul-pos (zero-lt-suc m) (up_pos e)) (pow_pos (low binary64))) l
  where
    nonzero : (g d n : ℕ) → g * d ≡ n → 0 < n → g + 0 ≤ 0 + 0 → ⊥
    nonzero g d n e p l = omega (arith, mul-le-mul_right d l)

-- at most 0: the difference from 0, which is exact
pub abs_difference : (x : Float) → Fits x → (x ≤ᶠ 0ᶠ) ≡ true → 0ᶠ -ᶠ x ≡ absᶠ x
abs_difference x f h = rw zero_is (go x f (rw zero_is at h))
  where
    go : (x : Float) → Fits x → le x (fin false 0 (pos 0)) ≡ true → sub binary64 (fin false 0 (pos 0)) x ≡ absᶠ x
    go nan f h = unfold sub absᶠ add neg in refl
    go (inf true) f h = unfold sub absᶠ add neg in refl
    go (inf false) f h = absurd (unfold le lt eq in (holds false h))
    go (fin true m e) f h = unfold sub absᶠ add neg sum in
        (same (0 * 1 * down e + m * up e * 1) (1 * down e) (omega arith) (omega arith)
        ∙ round_held binary64 false m e (unsigned_fits binary64 true m e f))
      where
        same : (a c : ℕ) → a ≡ m * up e → c ≡ down e
            → round binary64 false a c ≡ round binary64 false (m * up e) (down e)
        same a c p q = cc
    go (fin false zero e) f h = rw (zero_fits binary64 false e f) (unfold sub absᶠ add neg sum round in refl)
    go (fin false (suc m) e) f h = absurd (positive_above m e f h)

-- above 0, or a NaN
pub abs_itself : (x : Float) → Fits x → (x ≤ᶠ 0ᶠ) ≡ false → x ≡ absᶠ x
abs_itself x f h = go x f (rw zero_is at h)
  where
    go : (x : Float) → Fits x → le x (fin false 0 (pos 0)) ≡ false → x ≡ absᶠ x
    go nan f h = unfold absᶠ in refl
    go (inf true) f h = refuted (le (inf true) (fin false 0 (pos 0))) (unfold le lt eq in tt) h
    go (inf false) f h = unfold absᶠ in refl
    go (fin true m e) f h =
        refuted (le (fin true m e) (fin false 0 (pos 0)))
        (atmost→le binary64 (fin true m e) (fin false 0 (pos 0)) f (unfold fits in tt) tt tt
        (rw (zero_value binary64 false) (unfold value in (omega arith)))) h
    go (fin false m e) f h = unfold absᶠ in refl

-- below anything: a finite number
pub abs_below_finite : (x y : Float) → T (lt (absᶠ x) y) → T (finite x)
unfolding absᶠ lt
abs_below_finite nan y h = absurd h
abs_below_finite (inf s) nan h = absurd h
abs_below_finite (inf s) (inf t) h = absurd h
abs_below_finite (inf s) (fin t n d) h = absurd h
abs_below_finite (fin s m e) y h = tt

-- ---- finite is between the infinities
pub finite_between : (x : Float) → (lt x (inf false) && lt (inf true) x) ≡ finite x
unfolding lt
finite_between nan = refl
finite_between (inf true) = refl
finite_between (inf false) = refl
finite_between (fin s m e) = refl

-- std's test
pub finite_test : (x : Float) → float_is_finite x ≡ finite x
unfolding float_is_finite
finite_test nan = refl
finite_test (inf s) = refl
finite_test (fin s m e) = refl
