-- `third_angle_cosine::certificate::is_cosine` meets its contract. Assumes nothing.
use mathlib.Core.Path.{◌≡◌, sym, ap, ◌∙◌, subst}
use Prim.Native.Nat.{ℕ, zero, suc, ◌+◌, ◌-◌, ◌*◌, ◌^◌}
use native.Mathlib.Omega.{arith}
use lib.Dec.{T}
use lib.Ieee.{binary64, of_bits}
use Rattle.midpoints.specs.Cubic.{WellBetween}
use Rattle.third_angle_cosine.specs.Scaled.{IsOnePlus}
use Rattle.third_angle_cosine.proofs.Rounding.{certified, rounded_pattern}
use Rattle.third_angle_cosine.proofs.certificate.is_cosine.Goals as goal

pub returns-then-t-lt4363988038922010624 : goal.returns-then-t-lt4363988038922010624
returns-then-t-lt4363988038922010624 c = record {
  yes = λ e. absurd (subst T (sym e) tt);
  sure = λ t l g e o w. absurd (let z : ⊥ = omega arith in z);
}

pub returns-then-c-le4602678819172646912 : goal.returns-then-c-le4602678819172646912
returns-then-c-le4602678819172646912 c = record {
  yes = λ e. absurd (subst T (sym e) tt);
  sure = λ t l g e o w. absurd (let z : ⊥ = omega arith in z);
}

pub returns-then-c-gt4607182418800017408 : goal.returns-then-c-gt4607182418800017408
returns-then-c-gt4607182418800017408 c = record {
  yes = λ e. absurd (subst T (sym e) tt);
  sure = λ t l g e o w. absurd (let z : ⊥ = omega arith in z);
}

-- there is one number 1 + t
one_plus : (sign t e f : ℕ) → IsOnePlus sign t e → IsOnePlus sign t f → e ≡ f
one_plus zero t e f p q = p ∙ sym q
one_plus (suc sign) t e f p q = omega arith

pub returns : goal.returns
returns c =
    let sign = c.args.t.sign.bit in
    let h = c.args.c - 0x3fe0_0000_0000_0000 in
    record {
      yes =
          λ e.
          ap (of_bits binary64)
          (let z : c.args.c
          ≡ 0x3fd0_0000_0000_0000 + (2 ^ 52 + (c.args.c - 0x3fe0_0000_0000_0000)) = omega arith in z)
          ∙ rounded_pattern sign c.args.t.m c.args.t.sign.is_bit c.args.t.below c.args.t.least
          (2 ^ 52 + h)
          (certified sign c.args.t.m c.args.t.sign.is_bit c.args.t.below _ h c.if-t-lt4363988038922010624.false
          (omega arith) (omega arith)
          c.target.ensures.value (c.between.ensures.yes e));
      sure = λ t l g e o w. c.between.ensures.sure
          (subst (WellBetween 3 (2 * h)) (one_plus sign _ e _ o c.target.ensures.value) w);
    }
