-- How an error (`Approx`) grows over a chain of rounded operations. Nothing here is about floats. Assumes nothing.
use Prim.Native.Nat.{ℕ, suc, ◌+◌, ◌*◌, ◌≤◌}
use native.Mathlib.Nat.{mul-le-mul_left, mul-le-mul_right}
use native.Mathlib.Omega.{arith}
use Rattle.doubles.specs.Signed.{Signed, ◌⊕◌, ◌⊙◌, size, Near, Within}
use Rattle.doubles.specs.Error.{W, H, Approx}
use Rattle.doubles.proofs.SignedLaws.{size_le, size_times, near_times}

few : (k m : ℕ) → k ≤ 8 → 17 * (k * m) ≤ 136 * m
few k m h = omega (arith, mul-le-mul_right m h)

-- what approximates, times d, is not much larger than m
computed_within : (r x : Signed) (d k m τ : ℕ) → k ≤ 8 → Approx r x d k m τ → Within (16 ⊙ (d ⊙ r)) (17 * m + τ)
computed_within r x d k m τ K h = record { low = omega (arith, few k m K); high = omega (arith, few k m K) }

-- 16 d times the size of r, from a bound of 16 d r
times_size : (d : ℕ) (r : Signed) (b : ℕ) → Within (16 ⊙ (d ⊙ r)) b → 16 * (d * size r) ≤ b
times_size d r b h = omega (arith, size_le (16 ⊙ (d ⊙ r)) b h, size_times 16 (d ⊙ r), size_times d r)

-- a value is itself, with no rounding
pub no_rounding : (r : Signed) (d m : ℕ) → Within (d ⊙ r) m → Approx r (d ⊙ r) d 0 m 0
no_rounding r d m h = record { near = record { low = omega arith; high = omega arith }; bound = h }

-- more roundings, a larger τ
pub weakened : (r x : Signed) (d k l m τ σ : ℕ) → k ≤ l → τ ≤ σ → Approx r x d k m τ → Approx r x d l m σ
weakened r x d k l m τ σ K S h =
    record {
      near = record { low = omega (arith, mul-le-mul_right m K); high = omega (arith, mul-le-mul_right m K) };
      bound = h.bound;
    }

-- over a multiple of d
pub rescaled : (c : ℕ) (r x : Signed) (d k m τ : ℕ) → Approx r x d k m τ → Approx r (c ⊙ x) (c * d) k (c * m) (c * τ)
rescaled c r x d k m τ h =
    let z = near_times ((16 * W) ⊙ (d ⊙ r)) ((16 * W) ⊙ x) (17 * (k * m) + τ) c h.near in
    record {
      near = record { low = omega arith; high = omega arith };
      bound = record {
        low = omega (arith, mul-le-mul_left c h.bound.low);
        high = omega (arith, mul-le-mul_left c h.bound.high);
      };
    }

-- ---- the three rules, each first for one side of `Near`: the other is the same with the signs changed
module _ (rp rl sp sl qp ql xp xl yp yl d k m n τ σ b : ℕ) where
  add_side : 16 * W * (d * rp) + 16 * W * xl ≤ 16 * W * xp + 16 * W * (d * rl) + (17 * (k * m) + τ)
      → 16 * W * (d * sp) + 16 * W * yl ≤ 16 * W * yp + 16 * W * (d * sl) + (17 * (k * n) + σ)
      → 16 * (d * b) ≤ 17 * (m + n) + (τ + σ)
      → W * qp + W * (rl + sl) ≤ W * (rp + sp) + W * ql + b
      → 16 * W * (d * qp) + 16 * W * (xl + yl)
      ≤ 16 * W * (xp + yp) + 16 * W * (d * ql) + (17 * (suc k * (m + n)) + 2 * (τ + σ))
  add_side h g f e = omega (arith, mul-le-mul_left (16 * d) e)

module _ (rp rl qp ql xp xl t u d k m τ b : ℕ) where
  mul_side : 16 * W * (d * rp) + 16 * W * xl ≤ 16 * W * xp + 16 * W * (d * rl) + (17 * (k * m) + τ)
      → 16 * (d * b) ≤ 17 * m + τ
      → W * (u * qp) + W * (t * rl) ≤ W * (t * rp) + W * (u * ql) + (t * b + H * u)
      → 16 * W * (d * u * qp) + 16 * W * (t * xl)
      ≤ 16 * W * (t * xp) + 16 * W * (d * u * ql) + (17 * (suc k * (t * m)) + (2 * (t * τ) + 16 * (H * (d * u))))
  mul_side h f e = omega (arith, mul-le-mul_left (16 * d) e, mul-le-mul_left t h, mul-le-mul_left t f)

  div_side : 16 * W * (d * rp) + 16 * W * xl ≤ 16 * W * xp + 16 * W * (d * rl) + (17 * (k * m) + τ)
      → 16 * (d * b) ≤ 17 * m + τ
      → W * (u * qp) + W * rl ≤ W * rp + W * (u * ql) + (b + H * u)
      → 16 * W * (d * u * qp) + 16 * W * xl
      ≤ 16 * W * xp + 16 * W * (d * u * ql) + (17 * (suc k * m) + (2 * τ + 16 * (H * (d * u))))
  div_side h f e = omega (arith, mul-le-mul_left (16 * d) e)

-- a sum rounded
pub add_rule : (r s q x y : Signed) (d k m n τ σ : ℕ) → k ≤ 8 → Approx r x d k m τ → Approx s y d k n σ
    → Near (W ⊙ q) (W ⊙ (r ⊕ s)) (size (r ⊕ s))
    → Approx q (x ⊕ y) d (suc k) (m + n) (2 * (τ + σ))
add_rule r s q x y d k m n τ σ K h g e =
    let b = size (r ⊕ s) in
    let u = computed_within r x d k m τ K h in
    let v = computed_within s y d k n σ K g in
    let f : 16 * (d * b) ≤ 17 * (m + n) + (τ + σ) =
    times_size d (r ⊕ s) (17 * (m + n) + (τ + σ)) (record { low = omega arith; high = omega arith }) in
    record {
      near = record {
        low = add_side r.plus r.less s.plus s.less q.plus q.less x.plus x.less y.plus
            y.less d k m n τ σ b h.near.low g.near.low f e.low;
        high = add_side r.less r.plus s.less s.plus q.less q.plus x.less x.plus y.less
            y.plus d k m n τ σ b h.near.high g.near.high f e.high;
      };
      bound = record { low = omega arith; high = omega arith };
    }

-- a product by t rounded, where u is how many units make one
pub mul_rule : (r q x : Signed) (t u d k m τ : ℕ) → k ≤ 8 → Approx r x d k m τ
    → Near (W ⊙ (u ⊙ q)) (W ⊙ (t ⊙ r)) (t * size r + H * u)
    → Approx q (t ⊙ x) (d * u) (suc k) (t * m) (2 * (t * τ) + 16 * (H * (d * u)))
mul_rule r q x t u d k m τ K h e =
    let b = size r in
    let f : 16 * (d * b) ≤ 17 * m + τ = times_size d r (17 * m + τ) (computed_within r x d k m τ K h) in
    record {
      near = record {
        low = mul_side r.plus r.less q.plus q.less x.plus x.less t u d k m τ b h.near.low f
            e.low;
        high = mul_side r.less r.plus q.less q.plus x.less x.plus t u d k m τ b h.near.high f
            e.high;
      };
      bound = record {
        low = omega (arith, mul-le-mul_left t h.bound.low);
        high = omega (arith, mul-le-mul_left t h.bound.high);
      };
    }

-- a quotient by c rounded
pub div_rule : (r q x : Signed) (c d k m τ : ℕ) → k ≤ 8 → Approx r x d k m τ
    → Near (W ⊙ (c ⊙ q)) (W ⊙ r) (size r + H * c)
    → Approx q x (d * c) (suc k) m (2 * τ + 16 * (H * (d * c)))
div_rule r q x c d k m τ K h e =
    let b = size r in
    let f : 16 * (d * b) ≤ 17 * m + τ = times_size d r (17 * m + τ) (computed_within r x d k m τ K h) in
    record {
      near = record {
        low = div_side r.plus r.less q.plus q.less x.plus x.less 0 c d k m τ b h.near.low f
            e.low;
        high = div_side r.less r.plus q.less q.plus x.less x.plus 0 c d k m τ b h.near.high f
            e.high;
      };
      bound = h.bound;
    }
