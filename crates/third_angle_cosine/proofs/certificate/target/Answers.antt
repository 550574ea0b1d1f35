-- `third_angle_cosine::certificate::target` meets its contract. Assumes nothing.
use mathlib.Core.Path.{◌≡◌, sym, ap, ◌∙◌, subst}
use Prim.Native.Nat.{ℕ, ◌+◌, ◌-◌, ◌*◌, ◌/◌, ◌^◌}
use native.Mathlib.Omega.{arith}
use lib.Bits.{bit_and, and_mask}
use Rattle.third_angle_cosine.specs.Scaled.{Shifted, Target, size_at}
use Rattle.third_angle_cosine.proofs.certificate.target.Goals as goal

module _ (m high low : ℕ)
    (s : Shifted (bit_and m 0xf_ffff_ffff_ffff + 0x10_0000_0000_0000) (m / 2 ^ 52 - 969) high low) where
  size : high * 2 ^ 54 + low ≡ size_at m
  size = s.value ∙ ap (λ (x : ℕ). (x + 2 ^ 52) * 2 ^ (m / 2 ^ 52 - 969)) (and_mask m 52)

  plus : Target 0 m (0x10_0000_0000_0000 + high) low
  plus =
      let v = size in
      let h = s.high_fits in
      let l = s.low_fits in
      record { value = omega arith; high_fits = omega arith; low_fits = omega arith }

  minus : Target 1 m (0xf_ffff_ffff_ffff - high) (0x40_0000_0000_0000 - low)
  minus =
      let v = size in
      let h = s.high_fits in
      let l = s.low_fits in
      record { value = omega arith; high_fits = omega arith; low_fits = omega arith }

pub overflow_add-t : goal.overflow_add-t
overflow_add-t c = let a = and_mask c.args.t.m 52 in record { fits = omega arith }

pub shifted-size-requires : goal.shifted-size-requires
shifted-size-requires c = let a = and_mask c.args.t.m 52 in (omega arith, omega arith)

pub returns-then-t-eq0 : goal.returns-then-t-eq0
returns-then-t-eq0 c =
    subst (λ (x : ℕ). Target x c.args.t.m (0x10_0000_0000_0000 + c.shifted-size.result.high)
    c.shifted-size.result.low) (sym c.if-t-eq0.true)
    (plus c.args.t.m c.shifted-size.result.high c.shifted-size.result.low
    c.shifted-size.ensures)

pub returns : goal.returns
returns c =
    subst (λ (x : ℕ). Target x c.args.t.m (0xf_ffff_ffff_ffff - c.shifted-size.result.high)
    (0x40_0000_0000_0000 - c.shifted-size.result.low))
    (let z : 1 ≡ c.args.t.sign.bit = omega (arith, c.if-t-eq0.false, c.args.t.sign.is_bit) in z)
    (minus c.args.t.m c.shifted-size.result.high c.shifted-size.result.low
    c.shifted-size.ensures)
