-- `third_angle_cosine::digits::cosine_pattern` meets its contract. Assumes nothing.
use mathlib.Core.Path.{◌≡◌, sym, subst}
use Prim.Native.Nat.{ℕ, ◌^◌, ◌<◌}
use native.Mathlib.Omega.{arith}
use Rattle.elementary.specs.Binade.{RoundsTo}
use Rattle.elementary.proofs.Binade.{rounds_fits}
use Rattle.angle.specs.Arguments.{size_of}
use Rattle.angle.proofs.Values.{size_lt}
use Rattle.third_angle_cosine.proofs.Rounding.{scaled, in_binade, rounded_pattern}
use Rattle.third_angle_cosine.proofs.digits.cosine_pattern.Goals as goal

-- what the digits give, for the size as the definition has it
rounds : (sign m u r : ℕ) → u ≡ size_of m → RoundsTo (scaled sign u) r → RoundsTo (scaled sign (size_of m)) r
rounds sign m u r e h = subst (λ (x : ℕ). RoundsTo (scaled sign x) r) e h

pub rounded_by_digits-requires : goal.rounded_by_digits-requires
rounded_by_digits-requires c =
    in_binade c.args.t.sign.bit _
    (subst (λ (u : ℕ). u < 2 ^ 128) (sym c.size.ensures) (size_lt c.args.t.m c.args.t.least c.args.t.below))

pub overflow_add-result : goal.overflow_add-result
overflow_add-result c = omega (arith, rounds_fits _ _ (rounds _ _ _ _ c.size.ensures c.rounded_by_digits.ensures))

pub returns : goal.returns
returns c = (
  omega (arith, rounds_fits _ _ (rounds _ _ _ _ c.size.ensures c.rounded_by_digits.ensures)),
  rounded_pattern c.args.t.sign.bit c.args.t.m c.args.t.sign.is_bit c.args.t.below
      c.args.t.least c.rounded_by_digits.result (rounds _ _ _ _ c.size.ensures c.rounded_by_digits.ensures),
)
