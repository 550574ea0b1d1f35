-- One row of a profile from the row before, as the check works it out in doubles, and how far it is from the exact row.
-- Assumes nothing.
use mathlib.Core.Path.{◌≡◌, ap, subst}
use Prim.Native.Nat.{ℕ, suc, ◌+◌, ◌*◌, ◌≤◌, zero-le}
use native.Mathlib.Nat.{le_refl, mul-le-mul_left, mul-le-mul_right}
use native.Mathlib.Omega.{arith}
use lib.Dec.{lit≤}
use lib.Ieee.{Float, binary64}
use lib.Ieee.Fits.{add-fits, mul-fits, div-fits}
use Rattle.doubles.specs.Operators.{◌+ᶠ◌, ◌*ᶠ◌, ◌/ᶠ◌}
use Rattle.doubles.specs.Constants.{2ᶠ, 6ᶠ}
use Rattle.doubles.specs.Signed.{Signed, ◌⊕◌, ◌⊙◌, Near, size}
use Rattle.doubles.specs.Value.{val, Fits, Finite}
use Rattle.doubles.proofs.SignedLaws.{within_size}
use Rattle.doubles.specs.Error.{W, H, Approx}
use Rattle.doubles.proofs.ErrorChain.{no_rounding, weakened, rescaled, add_rule, mul_rule, div_rule}
use Rattle.doubles.proofs.OperationLaws.{add_finite, mul_finite, div_finite}
use Rattle.doubles.proofs.DoubleLaws.{add64, mul64_by, half64, sixth64}
use Rattle.profile_rows.specs.Rows.{row_after}
use Rattle.profile_rows.specs.declared.Row.{Row}
use Rattle.replay.specs.Replay.{U}
use Rattle.replay.proofs.ExactMotion.{2⁵⁰, Phase, row_state, time, moved, size_a, size_v, size_p, underflow_a}
use Rattle.replay.proofs.ExactMotion.{underflow_v, underflow_p}

-- ---- the rules of `ErrorChain`, at doubles

-- x is a double that approximates X / d
record Computed (x : Float) (X : Signed) (d k m τ : ℕ) : Type 0 where
  fits : Fits x
  approx : Approx (val x) X d k m τ

sum : {x y : Float} {X Y : Signed} {d k m n τ σ : ℕ} → k ≤ 8 → Finite (x +ᶠ y) → Computed x X d k m τ
    → Computed y Y d k n σ
    → Computed (x +ᶠ y) (X ⊕ Y) d (suc k) (m + n) (2 * (τ + σ))
sum {x} {y} {X} {Y} {d} {k} {m} {n} {τ} {σ} K h a b =
    record {
      fits = add-fits binary64 x y;
      approx =
          add_rule (val x) (val y) (val (x +ᶠ y)) X Y d k m n τ σ K a.approx b.approx
          (add64 x y a.fits b.fits h);
    }

-- by a time, which is not negative
product : (t : Float) {x : Float} {X : Signed} {d k m τ : ℕ} → k ≤ 8 → Fits t → (val t).less ≡ 0 → Finite (t *ᶠ x)
    → Computed x X d k m τ
    → Computed (t *ᶠ x) ((val t).plus ⊙ X) (d * U) (suc k) ((val t).plus * m) (2 * ((val t).plus * τ) + 16 * (H * (d * U)))
product t {x} {X} {d} {k} {m} {τ} K ft n h a =
    record {
      fits = mul-fits binary64 t x;
      approx = mul_rule (val x) (val (t *ᶠ x)) X (val t).plus U d k m τ K
          a.approx (mul64_by t x ft a.fits n h);
    }

half : {x : Float} {X : Signed} {d k m τ : ℕ} → k ≤ 8 → Finite (x /ᶠ 2ᶠ) → Computed x X d k m τ
    → Computed (x /ᶠ 2ᶠ) X (d * 2) (suc k) m (2 * τ + 16 * (H * (d * 2)))
half {x} {X} {d} {k} {m} {τ} K h a =
    record {
      fits = div-fits binary64 x 2ᶠ;
      approx = div_rule (val x) (val (x /ᶠ 2ᶠ)) X 2 d k m τ K a.approx
          (half64 x a.fits h);
    }

sixth : {x : Float} {X : Signed} {d k m τ : ℕ} → k ≤ 8 → Finite (x /ᶠ 6ᶠ) → Computed x X d k m τ
    → Computed (x /ᶠ 6ᶠ) X (d * 6) (suc k) m (2 * τ + 16 * (H * (d * 6)))
sixth {x} {X} {d} {k} {m} {τ} K h a =
    record {
      fits = div-fits binary64 x 6ᶠ;
      approx = div_rule (val x) (val (x /ᶠ 6ᶠ)) X 6 d k m τ K a.approx
          (sixth64 x a.fits h);
    }

-- a double over d, as if k roundings had made it
operand : (x : Float) → Fits x → (d k : ℕ) → Computed x (d ⊙ val x) d k (d * size (val x)) 0
operand x f d k =
    record {
      fits = f;
      approx = weakened (val x) (d ⊙ val x) d 0 k (d * size (val x)) 0 0 zero-le (le_refl 0)
          (no_rounding (val x) d (d * size (val x))
          (record {
            low = omega (arith, mul-le-mul_left d (within_size (val x)).low);
            high = omega (arith, mul-le-mul_left d (within_size (val x)).high);
          }));
    }

-- the same over c times d, with more roundings
over : {x : Float} {X : Signed} {d k m τ : ℕ} (c l : ℕ) → k ≤ l → Computed x X d k m τ
    → Computed x (c ⊙ X) (c * d) l (c * m) (c * τ)
over {x} {X} {d} {k} {m} {τ} c l K a =
    record {
      fits = a.fits;
      approx = weakened (val x) (c ⊙ X) (c * d) k l (c * m) (c * τ) (c * τ) K (le_refl (c * τ))
          (rescaled c (val x) X d k m τ a.approx);
    }

-- ---- up to seven roundings are at most 2 ^ -50 of the size
seven_roundings : {x : Float} {X : Signed} {d k m τ : ℕ} → Computed x X d k m τ → k ≤ 7 → (e : ℕ) (Y : Signed) (l σ : ℕ)
    → d ≡ e → X.plus ≡ Y.plus → X.less ≡ Y.less → m ≤ l → τ ≤ 128 * σ → Near (2⁵⁰ ⊙ (e ⊙ val x)) (2⁵⁰ ⊙ Y) (l + σ)
seven_roundings {x} {X} {d} {k} {m} {τ} a K e Y l σ de xp xl ml τσ =
    record {
      low =
          side (val x).plus (val x).less X.plus X.less Y.plus Y.less d e k m l τ σ K de xp xl ml τσ
          a.approx.near.low;
      high =
          side (val x).less (val x).plus X.less X.plus Y.less Y.plus d e k m l τ σ K de xl xp ml τσ
          a.approx.near.high;
    }
  where
    side : (rp rl xp xl yp yl d e k m l τ σ : ℕ) → k ≤ 7 → d ≡ e → xp ≡ yp → xl ≡ yl → m ≤ l → τ ≤ 128 * σ
        → 16 * W * (d * rp) + 16 * W * xl ≤ 16 * W * xp + 16 * W * (d * rl) + (17 * (k * m) + τ)
        → 2⁵⁰ * (e * rp) + 2⁵⁰ * yl ≤ 2⁵⁰ * yp + 2⁵⁰ * (e * rl) + (l + σ)
    side rp rl xp xl yp yl d e k m l τ σ K de p q ml ts h =
        omega (arith, mul-le-mul_right m K, ap (λ (z : ℕ). z * rp) de, ap (λ (z : ℕ). z * rl) de)

-- ---- the row after a phase is near the exact phase of the row before
module _ (r : Row) (h : Phase) (ft : Fits h.t) (fj : Fits h.j) (n : (val h.t).less ≡ 0) where
  pub acceleration_error : Fits r.a → Finite (row_after r h.t h.j).a
      → Near (2⁵⁰ ⊙ (U ⊙ val (row_after r h.t h.j).a)) (2⁵⁰ ⊙ (moved h (row_state r)).z) (size_a r h + underflow_a)
  unfolding row_after
  acceleration_error fa f =
      let t = h.t in
      let j = h.j in
      let a = r.a in
      seven_roundings (sum (lit≤ tt) f (operand a fa (1 * U) 1)
      (product t zero-le ft n (add_finite binary64 a (t *ᶠ j) f).1 (operand j fj 1 0)))
      (lit≤ tt) U (moved h (row_state r)).z (size_a r h) underflow_a (omega arith) (omega arith) (omega arith)
      (omega arith) (omega arith)

  pub velocity_error : Fits r.v → Fits r.a → Finite (row_after r h.t h.j).v
      → Near (2⁵⁰ ⊙ ((2 * (U * U)) ⊙ val (row_after r h.t h.j).v)) (2⁵⁰ ⊙ (moved h (row_state r)).y)
      (size_v r h + underflow_v (time h))
  unfolding row_after
  velocity_error fv fa f =
      let t = h.t in
      let j = h.j in
      let v = r.v in
      let a = r.a in
      let s = a +ᶠ t *ᶠ j /ᶠ 2ᶠ in
      let f₁ = (add_finite binary64 v (t *ᶠ s) f).1 in
      let f₂ = (mul_finite binary64 t s f₁).1 in
      let f₃ = (add_finite binary64 a (t *ᶠ j /ᶠ 2ᶠ) f₂).1 in
      let f₄ = (div_finite binary64 (t *ᶠ j) 2ᶠ f₃).0 in
      seven_roundings
      (sum (lit≤ tt) f (operand v fv (1 * U * 2 * U) 4)
      (product t (lit≤ tt) ft n f₁ (sum (lit≤ tt) f₂ (operand a fa (1 * U * 2) 2)
      (half (lit≤ tt) f₃ (product t zero-le ft n f₄ (operand j fj 1 0))))))
      (lit≤ tt) (2 * (U * U)) (moved h (row_state r)).y (size_v r h) (underflow_v (time h)) (omega arith) (omega arith)
      (omega arith) (omega arith) (omega arith)

  pub position_error : Fits r.p → Fits r.v → Fits r.a → Finite (row_after r h.t h.j).p
      → Near (2⁵⁰ ⊙ ((6 * (U * U * U)) ⊙ val (row_after r h.t h.j).p)) (2⁵⁰ ⊙ (moved h (row_state r)).x)
      (size_p r h + underflow_p (time h))
  unfolding row_after
  position_error fp fv fa f =
      let t = h.t in
      let j = h.j in
      let p = r.p in
      let v = r.v in
      let a = r.a in
      let q = a /ᶠ 2ᶠ +ᶠ t *ᶠ j /ᶠ 6ᶠ in
      let s = v +ᶠ t *ᶠ q in
      let f₁ = (add_finite binary64 p (t *ᶠ s) f).1 in
      let f₂ = (mul_finite binary64 t s f₁).1 in
      let f₃ = (add_finite binary64 v (t *ᶠ q) f₂).1 in
      let f₄ = (mul_finite binary64 t q f₃).1 in
      let f₅ = add_finite binary64 (a /ᶠ 2ᶠ) (t *ᶠ j /ᶠ 6ᶠ) f₄ in
      let f₆ = (div_finite binary64 (t *ᶠ j) 6ᶠ f₅.1).0 in
      seven_roundings
      (sum (lit≤ tt) f (operand p fp (3 * U * (1 * 2) * U * U) 6)
      (product t (lit≤ tt) ft n f₁ (sum (lit≤ tt) f₂ (operand v fv (3 * U * (1 * 2) * U) 4)
      (product t (lit≤ tt) ft n f₃ (sum (lit≤ tt) f₄ (over (3 * U) 2 (lit≤ tt)
      (half zero-le f₅.0 (operand a fa 1 0)))
      (same_divisor (sixth (lit≤ tt) f₅.1 (product t zero-le ft n f₆ (operand j fj 1 0)))))))))
      (lit≤ tt) (6 * (U * U * U)) (moved h (row_state r)).x (size_p r h) (underflow_p (time h)) (omega arith)
      (omega arith) (omega arith) (omega arith) (omega arith)
    where
      same_divisor : {x : Float} {X : Signed} {k m τ : ℕ} → Computed x X (1 * U * 6) k m τ
          → Computed x X (3 * U * (1 * 2)) k m τ
      same_divisor {x} {X} {k} {m} {τ} a = subst (λ (d : ℕ). Computed x X d k m τ) (omega arith) a
