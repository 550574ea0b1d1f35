-- The significand of a subnormal double shifted up to 53 digits, by the number of zeros above
-- it; and of a normal one. Assumes nothing.
use mathlib.Core.Path.{◌≡◌, sym, ap, ◌∙◌}
use Prim.Native.Nat.{ℕ, suc, ◌+◌, ◌-◌, ◌*◌, ◌/◌, ◌%◌, ◌^◌, ◌≤◌, ◌<◌}
use native.Mathlib.Nat.{lt_of_not-le, mul_assoc, le_trans, le_of_eq, lt_of_lt_of_le, mul-le-mul_right}
use native.Mathlib.Nat.{mul-lt-mul_of_pos_right, add_comm}
use native.Mathlib.Decide.{dec_le}
use native.Mathlib.Omega.{arith}
use lib.Pow.{pow_pos, pow-add, pow_mono}
use lib.Count.{count_leading_zeros, leading_top}
use Rattle.bits.specs.Fields.{field_units, pattern_units, Normalized}

-- a fraction l shifted up until its leading digit is the 53rd
pub record Shifted (l : ℕ) : Type 0 where
  pub least : 12 ≤ count_leading_zeros 64 l
  pub most : count_leading_zeros 64 l ≤ 63
  pub normal : 2 ^ 52 ≤ l * 2 ^ (count_leading_zeros 64 l - 11)
  pub fits : l * 2 ^ (count_leading_zeros 64 l - 11) < 2 ^ 53

pub shifted : (l : ℕ) → 0 < l → l < 2 ^ 52 → Shifted l
shifted l p h =
    let t = leading_top 64 l p (lt_of_lt_of_le h (pow_mono (let z : 52 ≤ 64 = omega arith in z))) in
    let j = t.0 in
    let z = count_leading_zeros 64 l in
    let e : z + suc j ≡ 64 = t.1 in
    let small : j < 52 = small_power j l t.2 h in
    record {
      least = omega arith;
      most = omega arith;
      normal = le_trans
          (le_of_eq (ap (λ (x : ℕ). 2 ^ x) (let y : 52 ≡ j + (z - 11) = omega arith in y) ∙ pow-add 2 j (z - 11)))
          (mul-le-mul_right (2 ^ (z - 11)) t.2);
      fits = lt_of_lt_of_le (mul-lt-mul_of_pos_right t.3 (pow_pos (z - 11)))
          (le_of_eq (sym
          (ap (λ (x : ℕ). 2 ^ x) (let y : 53 ≡ suc j + (z - 11) = omega arith in y) ∙ pow-add 2 (suc j) (z - 11))));
    }
  where
    small_power : (j l : ℕ) → 2 ^ j ≤ l → l < 2 ^ 52 → j < 52
    small_power j l a b = elim (dec_le 52 j) [
      | yes g ↦ absurd (let m : 2 ^ 52 ≤ 2 ^ j = pow_mono g in let y : ⊥ = omega arith in y)
      | no f ↦ lt_of_not-le f
    ]

pub subnormal : (b : ℕ) → 0 < b → b < 2 ^ 52
    → Normalized b (b * 2 ^ (count_leading_zeros 64 b - 11)) (1022 - (count_leading_zeros 64 b - 11))
unfolding pattern_units
subnormal b p h =
    let m = shifted b p h in
    let u = count_leading_zeros 64 b - 11 in
    record {
      normal = m.normal;
      fits = m.fits;
      most = omega arith;
      value = mul_assoc b (2 ^ u) (2 ^ (1022 - u))
          ∙ ap (λ (x : ℕ). b * x)
          (sym (pow-add 2 u (1022 - u))
          ∙ ap (λ (x : ℕ). 2 ^ x) (let l = m.most in let y : u + (1022 - u) ≡ 1022 = omega arith in y))
          ∙ ap (λ (x : ℕ). x * 2 ^ 1022)
          (sym (ap (λ (x : ℕ). field_units x (b % 2 ^ 52)) (let y : b / 2 ^ 52 ≡ 0 = omega arith in y)
          ∙ (let y : b % 2 ^ 52 ≡ b = omega arith in y)));
    }

pub normal : (b x : ℕ) → b / 2 ^ 52 ≡ suc x → b < 0x7ff0_0000_0000_0000
    → Normalized b (b % 2 ^ 52 + 2 ^ 52) (b / 2 ^ 52 + 1021)
unfolding pattern_units
normal b x e h = record {
  normal = omega arith;
  fits = omega arith;
  most = omega arith;
  value = ap (λ (y : ℕ). (b % 2 ^ 52 + 2 ^ 52) * y)
      (ap (λ (y : ℕ). 2 ^ y) (let y : b / 2 ^ 52 + 1021 ≡ x + 1022 = omega arith in y) ∙ pow-add 2 x 1022)
      ∙ sym (mul_assoc (b % 2 ^ 52 + 2 ^ 52) (2 ^ x) (2 ^ 1022))
      ∙ ap (λ (y : ℕ). y * 2 ^ x * 2 ^ 1022) (add_comm (b % 2 ^ 52) (2 ^ 52))
      ∙ ap (λ (y : ℕ). y * 2 ^ 1022) (sym (ap (λ (y : ℕ). field_units y (b % 2 ^ 52)) e));
}
