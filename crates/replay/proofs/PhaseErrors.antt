-- One phase carries the error of a row on: a row of doubles against the exact state, before and after. Assumes nothing.
use mathlib.Core.Path.{◌≡◌, refl}
use Prim.Native.Nat.{ℕ, ◌+◌, ◌*◌}
use native.Mathlib.Nat.{mul-le-mul_left}
use native.Mathlib.Omega.{arith}
use mathlib.Core.Bool.{Bool, true, false, not, cond}
use lib.IntN.{pos}
use lib.Dec.{T}
use lib.Ieee.{Float, fin, binary64, fits, of_bits}
use lib.Ieee.Fits.{add-fits, cond-fits}
use Rattle.doubles.specs.Operators.{◌+ᶠ◌, ◌*ᶠ◌, ◌/ᶠ◌, ◌<ᶠ◌}
use Rattle.doubles.specs.Constants.{0ᶠ, 2ᶠ, 6ᶠ}
use Rattle.doubles.specs.Signed.{Signed, ◌⊕◌, ◌⊙◌, Near}
use Rattle.doubles.specs.Value.{val, Fits, Finite}
use Rattle.doubles.proofs.OperationLaws.{add_finite, mul_finite, div_finite}
use Rattle.doubles.proofs.OrderLaws.{not_negative}
use Rattle.profile_rows.specs.Rows.{row_after, stored_if}
use Rattle.profile_rows.specs.declared.Row.{Row}
use Rattle.replay.specs.Replay.{U}
use Rattle.replay.proofs.ExactMotion.{2⁵⁰, Phase, Stateˢ, next_row, next_state, time, jerk, size_a, size_v, size_p}
use Rattle.replay.proofs.ExactMotion.{underflow_a, underflow_v, underflow_p}
use Rattle.replay.proofs.RowErrors.{acceleration_error, velocity_error, position_error}

-- ---- a row's errors: its velocity and its acceleration are at most ey and ez from a state's, in 2 ^ -50 of the
-- state's units; and its position at most ex
pub record MotionError (r : Row) (s : Stateˢ) (ey ez : ℕ) : Type 0 where
  pub y : Near (2⁵⁰ ⊙ ((2 * (U * U)) ⊙ val r.v)) (2⁵⁰ ⊙ s.y) ey
  pub z : Near (2⁵⁰ ⊙ (U ⊙ val r.a)) (2⁵⁰ ⊙ s.z) ez

abbrev pub PositionError : Row → Stateˢ → ℕ → Type 0
PositionError r s ex = Near (2⁵⁰ ⊙ ((6 * (U * U * U)) ⊙ val r.p)) (2⁵⁰ ⊙ s.x) ex

-- ---- an exact phase of two states carries their distance on, and l is what a rounded phase adds
carry_z : (t : ℕ) (j a a' z : Signed) (ez l : ℕ) → Near (2⁵⁰ ⊙ a') (2⁵⁰ ⊙ (a ⊕ t ⊙ j)) l → Near (2⁵⁰ ⊙ a) (2⁵⁰ ⊙ z) ez
    → Near (2⁵⁰ ⊙ a') (2⁵⁰ ⊙ (z ⊕ t ⊙ j)) (ez + l)
carry_z t j a a' z ez l h g = record { low = omega (arith, h.low, g.low); high = omega (arith, h.high, g.high) }

carry_y : (t : ℕ) (j a v v' y z : Signed) (ey ez l : ℕ) → Near (2⁵⁰ ⊙ v') (2⁵⁰ ⊙ (v ⊕ (2 * t) ⊙ a ⊕ (t * t) ⊙ j)) l
    → Near (2⁵⁰ ⊙ v) (2⁵⁰ ⊙ y) ey → Near (2⁵⁰ ⊙ a) (2⁵⁰ ⊙ z) ez
    → Near (2⁵⁰ ⊙ v') (2⁵⁰ ⊙ (y ⊕ (2 * t) ⊙ z ⊕ (t * t) ⊙ j)) (ey + 2 * t * ez + l)
carry_y t j a v v' y z ey ez l h g k =
    record {
      low = omega (arith, h.low, g.low, mul-le-mul_left (2 * t) k.low);
      high = omega (arith, h.high, g.high, mul-le-mul_left (2 * t) k.high);
    }

carry_x : (t : ℕ) (j a v p p' x y z : Signed) (ex ey ez l : ℕ)
    → Near (2⁵⁰ ⊙ p') (2⁵⁰ ⊙ (p ⊕ (3 * t) ⊙ v ⊕ (3 * (t * t)) ⊙ a ⊕ (t * t * t) ⊙ j)) l
    → Near (2⁵⁰ ⊙ p) (2⁵⁰ ⊙ x) ex → Near (2⁵⁰ ⊙ v) (2⁵⁰ ⊙ y) ey → Near (2⁵⁰ ⊙ a) (2⁵⁰ ⊙ z) ez
    → Near (2⁵⁰ ⊙ p') (2⁵⁰ ⊙ (x ⊕ (3 * t) ⊙ y ⊕ (3 * (t * t)) ⊙ z ⊕ (t * t * t) ⊙ j))
    (ex + 3 * t * ey + 3 * (t * t) * ez + l)
carry_x t j a v p p' x y z ex ey ez l h g k m =
    record {
      low = omega (arith, h.low, g.low, mul-le-mul_left (3 * t) k.low, mul-le-mul_left (3 * (t * t)) m.low);
      high =
          omega (arith, h.high, g.high, mul-le-mul_left (3 * t) k.high, mul-le-mul_left (3 * (t * t)) m.high);
    }

-- ---- what is asked of a phase and a row: they are of doubles, what is set too, and the time is not below 0 (it may be
-- a NaN)
pub record PhaseFits (h : Phase) : Type 0 where
  pub t : Fits h.t
  pub j : Fits h.j
  pub a : Fits h.a
  pub not_negative : T (not (h.t <ᶠ 0ᶠ))

pub record RowFits (r : Row) : Type 0 where
  pub p : Fits r.p
  pub v : Fits r.v
  pub a : Fits r.a

pub zero_is : 0ᶠ ≡ fin false 0 (pos 0)
unfolding of_bits
zero_is = refl

pub zero_fits : Fits 0ᶠ
zero_fits = rw zero_is (unfold fits in tt)

pub next_fits : (h : Phase) (r : Row) → PhaseFits h → RowFits (next_row h r)
unfolding next_row stored_if row_after
next_fits h r g =
    let t = h.t in
    let j = h.j in
    record {
      p = add-fits binary64 r.p (t *ᶠ (r.v +ᶠ t *ᶠ (r.a /ᶠ 2ᶠ +ᶠ t *ᶠ j /ᶠ 6ᶠ)));
      v = add-fits binary64 r.v (t *ᶠ (r.a +ᶠ t *ᶠ j /ᶠ 2ᶠ));
      a = cond-fits binary64 h.sets h.a (r.a +ᶠ t *ᶠ j) g.a (add-fits binary64 r.a (t *ᶠ j));
    }

-- ---- a finite velocity in the next row has a finite motion and phase behind it. The position need not be finite
pub record MotionFinite (r : Row) : Type 0 where
  pub v : Finite r.v
  pub a : Finite r.a

pub record PhaseFinite (h : Phase) : Type 0 where
  pub t : Finite h.t
  pub j : Finite h.j

module _ (h : Phase) (r : Row) (f : Finite (next_row h r).v) where
  pub before_finite : MotionFinite r × PhaseFinite h
  unfolding next_row stored_if row_after
  before_finite =
      let t = h.t in
      let j = h.j in
      let s = r.a +ᶠ t *ᶠ j /ᶠ 2ᶠ in
      let f₁ = add_finite binary64 r.v (t *ᶠ s) f in
      let f₂ = mul_finite binary64 t s f₁.1 in
      let f₃ = add_finite binary64 r.a (t *ᶠ j /ᶠ 2ᶠ) f₂.1 in
      let f₄ = mul_finite binary64 t j (div_finite binary64 (t *ᶠ j) 2ᶠ f₃.1).0 in
      (record { v = f₁.0; a = f₃.0 }, record { t = f₂.0; j = f₄.1 })

pub position_before_finite : (h : Phase) (r : Row) → Finite (next_row h r).p → Finite r.p
unfolding next_row stored_if row_after
position_before_finite h r f =
    (add_finite binary64 r.p (h.t *ᶠ (r.v +ᶠ h.t *ᶠ (r.a /ᶠ 2ᶠ +ᶠ h.t *ᶠ h.j /ᶠ 6ᶠ))) f).0

pub time_not_negative : (h : Phase) → PhaseFits h → Finite h.t → (val h.t).less ≡ 0
time_not_negative h g f = not_negative binary64 h.t g.t f (rw zero_is at g.not_negative)

-- ---- one phase. An acceleration that is set carries no error
module _ (h : Phase) (r : Row) (s : Stateˢ) (ey ez : ℕ) (g : PhaseFits h) (k : RowFits r)
    (f : MotionFinite (next_row h r)) (e : MotionError r s ey ez) where
  n : (val h.t).less ≡ 0
  n = time_not_negative h g (before_finite h r f.v).1.t

  pub position_step : (ex : ℕ) → Finite (next_row h r).p → PositionError r s ex
      → PositionError (next_row h r) (next_state h s)
      (ex + 3 * time h * ey + 3 * (time h * time h) * ez + (size_p r h + underflow_p (time h)))
  unfolding next_row stored_if
  position_step ex q u =
      carry_x (time h) (jerk h) (U ⊙ val r.a) ((2 * (U * U)) ⊙ val r.v) ((6 * (U * U * U)) ⊙ val r.p)
      ((6 * (U * U * U)) ⊙ val (row_after r h.t h.j).p)
      s.x s.y s.z ex ey ez (size_p r h + underflow_p (time h))
      (position_error r h g.t g.j n k.p k.v k.a q) u e.y e.z

  pub motion_step : MotionError (next_row h r) (next_state h s) (ey + 2 * time h * ez + (size_v r h + underflow_v (time h)))
      (ez + (size_a r h + underflow_a))
  unfolding next_row stored_if
  motion_step =
      let a₀ = U ⊙ val r.a in
      record {
        y =
            carry_y (time h) (jerk h) a₀ ((2 * (U * U)) ⊙ val r.v)
            ((2 * (U * U)) ⊙ val (row_after r h.t h.j).v) s.y s.z ey ez (size_v r h + underflow_v (time h))
            (velocity_error r h g.t g.j n k.v k.a f.v) e.y e.z;
        z =
            carried h.sets h.a (row_after r h.t h.j).a (s.z ⊕ time h ⊙ jerk h)
            (ez + (size_a r h + underflow_a))
            (λ c. carry_z (time h) (jerk h) a₀ (U ⊙ val (row_after r h.t h.j).a) s.z ez
            (size_a r h + underflow_a) (acceleration_error r h g.t g.j n k.a c) e.z) f.a;
      }
    where
      carried : (b : Bool) (set a : Float) (w : Signed) (e : ℕ) → (Finite a → Near (2⁵⁰ ⊙ (U ⊙ val a)) (2⁵⁰ ⊙ w) e)
          → Finite (cond b set a) → Near (2⁵⁰ ⊙ (U ⊙ val (cond b set a))) (2⁵⁰ ⊙ cond b (U ⊙ val set) w) e
      carried false set a w e q c = q c
      carried true set a w e q c = record { low = omega arith; high = omega arith }
