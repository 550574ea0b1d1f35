-- The operations on doubles, as the rules of `ErrorChain` take them: 2 ^ 53 and 2 ^ 52 are
-- numerals there, and 2 ^ 1074, which `omega` cannot hold, is the shut name `scale`.
-- Assumes nothing.
use mathlib.Core.Path.{◌≡◌, refl, ap, subst}
use Prim.Native.Nat.{ℕ, ◌+◌, ◌*◌, ◌≤◌, ◌<◌}
use native.Mathlib.Nat.{le_of_mul-le-mul_left}
use native.Mathlib.Omega.{arith}
use mathlib.Core.Bool.{false}
use lib.IntN.{pos}
use lib.Pow.{pow_pos}
use lib.Ieee.{Float, fin, binary64, div, fits, of_bits}
use Rattle.doubles.specs.Operators.{◌+ᶠ◌, ◌-ᶠ◌, ◌*ᶠ◌, ◌/ᶠ◌}
use Rattle.doubles.specs.Constants.{2ᶠ, 6ᶠ}
use Rattle.doubles.specs.Exact.{scale}
use Rattle.doubles.specs.Signed.{Signed, ◌⊕◌, ◌⊙◌, ◌⊗◌, minus, size, Near}
use Rattle.doubles.specs.Value.{magnitude, val, Fits, Finite}
use Rattle.doubles.specs.Error.{RelativeErrorOrUnderflow, W, H}
use Rattle.doubles.proofs.SignedLaws.{pair_eq, size_times}
use Rattle.doubles.proofs.OperationLaws.{add_error, sub_error, mul_error, div_error}

pub scale_pos : 0 < scale
unfolding scale
scale_pos = pow_pos 1074

pub add64 : (x y : Float) → Fits x → Fits y → Finite (x +ᶠ y)
    → Near (W ⊙ val (x +ᶠ y)) (W ⊙ (val x ⊕ val y)) (size (val x ⊕ val y))
add64 x y p q h = add_error binary64 x y p q h

pub sub64 : (x y : Float) → Fits x → Fits y → Finite (x -ᶠ y)
    → Near (W ⊙ val (x -ᶠ y)) (W ⊙ (val x ⊕ minus (val y))) (size (val x ⊕ minus (val y)))
sub64 x y p q h = sub_error binary64 x y p q h

pub mul64 : (x y : Float) → Fits x → Fits y → Finite (x *ᶠ y)
    → RelativeErrorOrUnderflow W H scale (val (x *ᶠ y)) (val x ⊗ val y)
unfolding scale
mul64 x y p q h = mul_error binary64 x y p q h

-- by a first factor that is not negative
times : (x y : Signed) → x.less ≡ 0 → x ⊗ y ≡ x.plus ⊙ y
times x y e =
    let a : x.less * y.less ≡ 0 * y.less = ap (λ (z : ℕ). z * y.less) e in
    let b : x.less * y.plus ≡ 0 * y.plus = ap (λ (z : ℕ). z * y.plus) e in
    pair_eq (x.plus * y.plus + x.less * y.less) (x.plus * y.less + x.less * y.plus) (x.plus * y.plus)
    (x.plus * y.less) (omega arith) (omega arith)

pub mul64_by : (t x : Float) → Fits t → Fits x → (val t).less ≡ 0 → Finite (t *ᶠ x)
    → Near (W ⊙ (scale ⊙ val (t *ᶠ x))) (W ⊙ ((val t).plus ⊙ val x)) ((val t).plus * size (val x) + H * scale)
mul64_by t x p q n h =
    subst (λ (s : ℕ). Near (W ⊙ (scale ⊙ val (t *ᶠ x))) (W ⊙ ((val t).plus ⊙ val x)) (s + H * scale))
    (size_times (val t).plus (val x))
    (subst (λ (z : Signed). RelativeErrorOrUnderflow W H scale (val (t *ᶠ x)) z) (times (val t) (val x) n)
    (mul64 t x p q h))

-- a quotient by c whole ones
module _ (w h c u : ℕ) (r x : Signed) (U : 0 < u) where
  scaled_low : (rp rl xp xl b : ℕ)
      → w * (c * u * rp) + w * (u * xl) ≤ w * (u * xp) + w * (c * u * rl) + (u * b + h * (c * u))
      → w * (c * rp) + w * xl ≤ w * xp + w * (c * rl) + (b + h * c)
  scaled_low rp rl xp xl b l =
      le_of_mul-le-mul_left {m = w * (c * rp) + w * xl} {n = w * xp + w * (c * rl) + (b + h * c)} {k = u}
      (omega arith) U

  unscale : RelativeErrorOrUnderflow w h (c * u) r (u ⊙ x) → RelativeErrorOrUnderflow w h c r x
  unscale n = go (subst (λ (b : ℕ). Near (w ⊙ ((c * u) ⊙ r)) (w ⊙ (u ⊙ x)) (b + h * (c * u))) (size_times u x) n)
    where
      go : Near (w ⊙ ((c * u) ⊙ r)) (w ⊙ (u ⊙ x)) (u * size x + h * (c * u)) → RelativeErrorOrUnderflow w h c r x
      go m = record {
        low = scaled_low r.plus r.less x.plus x.less (size x) m.low;
        high = scaled_low r.less r.plus x.less x.plus (size x) m.high;
      }

two_is : 2ᶠ ≡ fin false 1 (pos 1)
unfolding of_bits
two_is = refl

six_is : 6ᶠ ≡ fin false 3 (pos 1)
unfolding of_bits
six_is = refl

pub half64 : (x : Float) → Fits x → Finite (x /ᶠ 2ᶠ) → Near (W ⊙ (2 ⊙ val (x /ᶠ 2ᶠ))) (W ⊙ val x) (size (val x) + H * 2)
half64 x p h = rw two_is (go (rw two_is at h))
  where
    go : Finite (div binary64 x (fin false 1 (pos 1)))
        → Near (W ⊙ (2 ⊙ val (div binary64 x (fin false 1 (pos 1))))) (W ⊙ val x) (size (val x) + H * 2)
    go h = unfold scale magnitude in
        (unscale W H 2 scale (val (div binary64 x (fin false 1 (pos 1)))) (val x) scale_pos
        (div_error binary64 x false 1 (pos 1) p (unfold fits in tt) h))

pub sixth64 : (x : Float) → Fits x → Finite (x /ᶠ 6ᶠ)
    → Near (W ⊙ (6 ⊙ val (x /ᶠ 6ᶠ))) (W ⊙ val x) (size (val x) + H * 6)
sixth64 x p h = rw six_is (go (rw six_is at h))
  where
    go : Finite (div binary64 x (fin false 3 (pos 1)))
        → Near (W ⊙ (6 ⊙ val (div binary64 x (fin false 3 (pos 1))))) (W ⊙ val x) (size (val x) + H * 6)
    go h = unfold scale magnitude in
        (unscale W H 6 scale (val (div binary64 x (fin false 3 (pos 1)))) (val x) scale_pos
        (div_error binary64 x false 3 (pos 1) p (unfold fits in tt) h))
