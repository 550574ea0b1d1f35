-- `third_angle_cosine::certificate::shifted` meets its contract. Assumes nothing.
use mathlib.Core.Path.{sym}
use Prim.Native.Nat.{ℕ, ◌+◌, ◌-◌, ◌*◌, ◌/◌, ◌%◌, ◌^◌, ◌≤◌, ◌<◌}
use native.Mathlib.Nat.{lt_of_lt_of_le, le_trans, le_of_eq, mul-lt-mul_of_pos_right}
use native.Mathlib.Omega.{arith}
use lib.Bits.{and_mask}
use lib.Pow.{pow_pos, pow-add, pow_mono}
use Rattle.words.proofs.WideLaws.{upper_part}
use Rattle.third_angle_cosine.specs.Scaled.{Shifted}
use Rattle.third_angle_cosine.proofs.certificate.shifted.Goals as goal

module _ (n y : ℕ) (fits : n < 2 ^ 53) (h : y < 54) where
  most : n * 2 ^ y < 2 ^ 106
  most = lt_of_lt_of_le (mul-lt-mul_of_pos_right fits (pow_pos y))
      (le_trans (le_of_eq (sym (pow-add 2 53 y))) (pow_mono (let z : 53 + y ≤ 106 = omega arith in z)))

  limbs : Shifted n y (n / 2 ^ (54 - y)) (n * 2 ^ y % 2 ^ 64 % 2 ^ 54)
  limbs =
      let u = upper_part 54 n y (omega arith) in
      let m = most in
      record {
        value = rw u (omega arith);
        high_fits = rw u (omega arith);
        low_fits = omega arith;
      }

pub returns : goal.returns
returns c = rw (and_mask (c.args.significand * 2 ^ c.args.shift % 2 ^ 64) 54)
    (limbs c.args.significand c.args.shift c.requires.0 c.requires.1)
