-- `third_angle_sine::digits::rising_binade` meets its contract. Assumes nothing.
use mathlib.Core.Path.{◌≡◌, sym, ap, ◌∙◌, subst}
use Prim.Native.Nat.{ℕ, ◌^◌}
use native.Mathlib.Omega.{arith}
use native.Mathlib.Numerals.{add-one}
use Rattle.elementary.specs.Nearest.{AtMost, Above}
use Rattle.elementary.specs.Binade.{InBinade}
use Rattle.std.specs.Ordering.{is_ge}
use Rattle.algebraic.proofs.Orderings.{ge_true, ge_false}
use Rattle.third_angle_sine.proofs.Rounding.{scaled, monotone, below_half, above_least, next_binade}
use Rattle.algebraic.specs.Reals.{units}
use Rattle.third_angle_sine.proofs.digits.rising_binade.Goals as goal

found : (u e : ℕ) → AtMost (2 ^ 53) (scaled 0 u e) → Above (2 ^ 54) (scaled 0 u e) → InBinade (scaled 0 u e)
found u e s l = record { monotone = monotone 0 u e; start = s; end = l }

pub loop-e-init : goal.loop-e-init
loop-e-init c = (omega arith, below_half (units c.args.t) c.requires.0)

pub returns-then-is_ge-clause-in_binade : goal.returns-then-is_ge-clause-in_binade
returns-then-is_ge-clause-in_binade c =
    found (units c.args.t) c.loop-e.e
    (ge_true (scaled 0 (units c.args.t) c.loop-e.e (2 ^ 53))
    (ap is_ge (sym c.compared.ensures) ∙ sym c.is_ge.ensures ∙ c.if-is_ge.true)) c.loop-e.invariant.1

pub loop-e-preserved : goal.loop-e-preserved
loop-e-preserved c =
    let u = units c.args.t in (
      omega arith,
      ap (λ (x : ℕ). scaled 0 u x (2 ^ 54)) (add-one c.loop-e.e)
          ∙ next_binade u c.loop-e.e
          (ge_false (scaled 0 u c.loop-e.e (2 ^ 53))
          (ap is_ge (sym c.compared.ensures) ∙ sym c.is_ge.ensures ∙ c.if-is_ge.false)),
    )

pub returns-clause-in_binade : goal.returns-clause-in_binade
returns-clause-in_binade c =
    let u = units c.args.t in
    let z : c.loop-e.e ≡ 27 = omega arith in
    found u 27 (above_least u c.requires.1)
    (subst (λ (x : ℕ). Above (2 ^ 54) (scaled 0 u x)) z c.loop-e.invariant.1)
