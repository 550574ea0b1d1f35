-- The last row is close to the target, and the exact state to the last row: so the state is close to the target, as the
-- promise says it over integers. Assumes nothing.
use mathlib.Core.Path.{◌≡◌, refl, ap}
use Prim.Native.Nat.{ℕ, ◌+◌, ◌*◌, ◌≤◌}
use native.Mathlib.Nat.{le_trans, mul-le-mul_left}
use native.Mathlib.Omega.{arith}
use mathlib.Core.Bool.{false}
use lib.IntN.{ℤ, pos, negsuc, ◌*ℤ◌}
use lib.Dec.{T}
use lib.Ieee.{Float, fin, fits, of_bits}
use Rattle.doubles.specs.Operators.{◌-ᶠ◌, ◌<ᶠ◌}
use Rattle.doubles.specs.Functions.{absᶠ}
use Rattle.doubles.specs.Exact.{exact}
use Rattle.doubles.specs.Signed.{Signed, ◌⊕◌, ◌⊙◌, minus, Near, size}
use Rattle.doubles.specs.Value.{val, Fits}
use Rattle.doubles.specs.Value.{Close}
use Rattle.doubles.proofs.DifferenceLaws.{close}
use Rattle.doubles.proofs.IntegerLaws.{Same, same_times, abs_near, exact_same}
use Rattle.profile.specs.Tolerances.{v_precision, a_precision}
use Rattle.replay.specs.Replay.{U}
use Rattle.replay.specs.Promise.{AtMostFrom}
use Rattle.replay.proofs.ExactMotion.{2⁵⁰}
use Rattle.replay.proofs.IntegerReplay.{exact_size_law}

-- ---- from the check's conditions on the last row
1e_8_is : v_precision ≡ fin false 3022314549036573 (negsuc 77)
unfolding of_bits
1e_8_is = refl

1e_10_is : a_precision ≡ fin false 7737125245533627 (negsuc 85)
unfolding of_bits
1e_10_is = refl

pub close_1e_8 : (x y : Float) → Fits x → Fits y → T (absᶠ (x -ᶠ y) <ᶠ v_precision) → Close x y v_precision
close_1e_8 x y f g h = rw 1e_8_is (close x y 3022314549036572 (negsuc 77) f g (unfold fits in tt) (rw 1e_8_is at h))

pub close_1e_10 : (x y : Float) → Fits x → Fits y → T (absᶠ (x -ᶠ y) <ᶠ a_precision) → Close x y a_precision
close_1e_10 x y f g h = rw 1e_10_is (close x y 7737125245533626 (negsuc 85) f g (unfold fits in tt) (rw 1e_10_is at h))

-- ---- over c, a state s is at most e from the row's p, in 2 ^ -50, and p at most d from the target q. f times c is g,
-- the scale of the promise but for 2 ^ 50
near_side : (f c g pp pl qp ql sp sl d e : ℕ) → f * c ≡ g → pp + ql ≤ qp + pl + d
    → 2⁵⁰ * (c * pl) + 2⁵⁰ * sp ≤ 2⁵⁰ * sl + 2⁵⁰ * (c * pp) + e
    → 2⁵⁰ * f * sp + 2⁵⁰ * g * ql ≤ 2⁵⁰ * g * qp + 2⁵⁰ * f * sl + (2⁵⁰ * g * d + f * e)
near_side f c g pp pl qp ql sp sl d e fc a b =
    omega (
      arith,
      mul-le-mul_left (2⁵⁰ * g) a,
      mul-le-mul_left f b,
      ap (λ (z : ℕ). z * pl) fc,
      ap (λ (z : ℕ). z * pp) fc,
    )

near_target : (f c g : ℕ) (p q s : Signed) (d e : ℕ) → f * c ≡ g → size (p ⊕ minus q) ≤ d
    → Near (2⁵⁰ ⊙ (c ⊙ p)) (2⁵⁰ ⊙ s) e → Near ((2⁵⁰ * f) ⊙ s) ((2⁵⁰ * g) ⊙ q) (2⁵⁰ * g * d + f * e)
near_target f c g p q s d e fc z n =
    record {
      low = near_side f c g p.plus p.less q.plus q.less s.plus s.less d e fc (omega arith) n.high;
      high = near_side f c g p.less p.plus q.less q.plus s.less s.plus d e fc (omega arith) n.low;
    }

pub at_most_from : (f c : ℕ) (s : ℤ) (u : Signed) (p q d : Float) (e allowance : ℕ) → Same s u → f * c ≡ 6 * (U * U * U)
    → Close p q d → Near (2⁵⁰ ⊙ (c ⊙ val p)) (2⁵⁰ ⊙ u) e
    → f * e ≤ allowance → AtMostFrom q d allowance (pos (2⁵⁰ * f) *ℤ s)
at_most_from f c s u p q d e allowance o fc z n l =
    let g = 6 * (U * U * U) in
    le_trans
    (abs_near (pos (2⁵⁰ * f) *ℤ s) (pos (2⁵⁰ * g) *ℤ exact q) ((2⁵⁰ * f) ⊙ u) ((2⁵⁰ * g) ⊙ val q)
    (2⁵⁰ * g * size (val d) + f * e)
    (same_times (2⁵⁰ * f) s u o) (same_times (2⁵⁰ * g) (exact q) (val q) (exact_same q))
    (near_target f c g (val p) (val q) u (size (val d)) e fc z.apart n))
    (total (exact_size_law d))
  where
    total : {k : ℕ} → k ≡ size (val d)
        → 2⁵⁰ * (6 * (U * U * U)) * size (val d) + f * e ≤ 2⁵⁰ * (6 * (U * U * U)) * k + allowance
    total h = rw h (omega arith)
