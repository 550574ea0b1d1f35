-- `algebraic::digits::floor_by_digits` meets its contract. Assumes nothing.
use mathlib.Core.Path.{◌≡◌, refl, sym, ap, ◌∙◌}
use Prim.Native.Nat.{ℕ, suc, ◌+◌, ◌-◌, ◌*◌, ◌%◌, ◌^◌, ◌≤◌, ◌<◌}
use native.Mathlib.Nat.{pow-succ'}
use native.Mathlib.Omega.{arith}
use lib.Pow.{pow_mono}
use Rattle.elementary.specs.Nearest.{Real, floor_from}
use mathlib.Core.Bool.{Bool}
use Rattle.std.specs.Ordering.{is_ge}
use Rattle.std.specs.declared.cmp.Ordering.{Ordering}
use Rattle.words.specs.Limbs.{ordering_of}
use Rattle.elementary.proofs.Binade.{digit_one, digit_zero}
use Rattle.algebraic.proofs.Orderings.{ge_true, ge_false}
use Rattle.algebraic.proofs.digits.floor_by_digits.Goals as goal

-- the digit that a turn looks at, as the code has it
record Bit (d : ℕ) : Type 0 where
  is : d ≡ suc (d - 1)
  twice : 2 ^ d ≡ 2 * 2 ^ (d - 1)
  shifted : 1 * 2 ^ (d - 1) % 2 ^ 64 ≡ 2 ^ (d - 1)

bit : (d : ℕ) → 0 < d → d ≤ 53 → Bit d
bit d h l =
    let e : d ≡ suc (d - 1) = omega arith in
    let small : 2 ^ (d - 1) ≤ 2 ^ 52 = pow_mono (let z : d - 1 ≤ 52 = omega arith in z) in
    record { is = e; twice = ap (λ (x : ℕ). 2 ^ x) e ∙ pow-succ' 2 (d - 1); shifted = omega arith }

-- the test of the turn
tested : (real : Real) (n s t : ℕ) (r : Ordering) (g b : Bool) → r ≡ ordering_of (real (n + s)) → s ≡ t → g ≡ is_ge r → g ≡ b
    → is_ge (ordering_of (real (n + t))) ≡ b
tested real n s t r g b e f h k = cc

done : (real : Real) (n : ℕ) → n ≡ floor_from real 0 n
unfolding floor_from
done real n = refl

pub loop-d-preserved-then-is_ge : goal.loop-d-preserved-then-is_ge
loop-d-preserved-then-is_ge g c =
    let l = c.loop-d in
    let b = bit c.loop-d.d c.loop-d-test.true c.loop-d.auto.d in
    rw b.shifted (
      omega (arith, b.twice),
      sym (digit_one (g.R.Algebraic.real c.args.c) (l.d - 1) l.n
          (ge_true (g.R.Algebraic.real c.args.c (l.n + 2 ^ (l.d - 1)))
          (tested (g.R.Algebraic.real c.args.c) l.n _ _ _ _ _ c.compared.ensures b.shifted c.is_ge.ensures c.if-is_ge.true))) ∙ ap (λ (x : ℕ). floor_from (g.R.Algebraic.real c.args.c) x l.n) (sym b.is) ∙ l.invariant.1,
    )

pub loop-d-preserved : goal.loop-d-preserved
loop-d-preserved g c =
    let l = c.loop-d in
    let b = bit c.loop-d.d c.loop-d-test.true c.loop-d.auto.d in (
      omega (arith, b.twice),
      sym (digit_zero (g.R.Algebraic.real c.args.c) (l.d - 1) l.n
          (ge_false (g.R.Algebraic.real c.args.c (l.n + 2 ^ (l.d - 1)))
          (tested (g.R.Algebraic.real c.args.c) l.n _ _ _ _ _ c.compared.ensures b.shifted c.is_ge.ensures c.if-is_ge.false))) ∙ ap (λ (x : ℕ). floor_from (g.R.Algebraic.real c.args.c) x l.n) (sym b.is) ∙ l.invariant.1,
    )

pub returns : goal.returns
returns g c =
    let l = c.loop-d in
    let z : l.d ≡ 0 = omega arith in (
      omega (arith, ap (λ (x : ℕ). 2 ^ x) z),
      done (g.R.Algebraic.real c.args.c) l.n
          ∙ ap (λ (x : ℕ). floor_from (g.R.Algebraic.real c.args.c) x l.n) (sym z) ∙ l.invariant.1,
    )
