-- `cbrt::certificate::is_root` meets its contract. Assumes nothing.
use mathlib.Core.Path.{◌≡◌, sym, ap, ◌∙◌, subst}
use Prim.Native.Nat.{ℕ, zero, suc, ◌+◌, ◌-◌, ◌*◌, ◌/◌, ◌%◌, ◌^◌, ◌≤◌, ◌<◌}
use native.Mathlib.Nat.{mul_assoc}
use native.Mathlib.Omega.{arith}
use lib.Dec.{T}
use lib.Bits.{bit_and, and_mask}
use lib.Pow.{pow-add}
use lib.Ieee.{binary64, of_bits}
use Rattle.bits.proofs.Normalize.{normal}
use Rattle.midpoints.specs.Cubic.{Between, WellBetween}
use Rattle.elementary.specs.Functions.{cbrt_of}
use Rattle.cbrt.specs.Certificate.{target_of}
use Rattle.elementary.specs.Binade.{RoundsTo}
use Rattle.cbrt.proofs.Roots.{root_of, certified, root_pattern}
use Rattle.cbrt.proofs.certificate.is_root.Goals as goal

-- m * 2 ^ (53 + o) in two limbs, as the code has them
record Limbs (m o : ℕ) : Type 0 where
  high : m * 2 ^ o % 2 ^ 64 / 2 < 2 ^ 56
  low : bit_and (m * 2 ^ o % 2 ^ 64) 1 * 2 ^ 53 % 2 ^ 64 ≤ 2 ^ 54
  value : m * 2 ^ o % 2 ^ 64 / 2 * 2 ^ 54 + bit_and (m * 2 ^ o % 2 ^ 64) 1 * 2 ^ 53 % 2 ^ 64 ≡ m * 2 ^ o * 2 ^ 53

limbs : (m o : ℕ) → m < 2 ^ 53 → o < 3 → Limbs m o
limbs m o h l =
    let small : m * 2 ^ o < 2 ^ 55 = below o l in
    let mask = and_mask (m * 2 ^ o % 2 ^ 64) 1 in
    record {
      high = omega arith;
      low = rw mask (omega arith);
      value = rw mask (omega arith);
    }
  where
    below : (o : ℕ) → o < 3 → m * 2 ^ o < 2 ^ 55
    below zero l = omega arith
    below (suc zero) l = omega arith
    below (suc (suc zero)) l = omega arith
    below (suc (suc (suc o))) l = absurd (let z : ⊥ = omega arith in z)

target : (m o e : ℕ) → e ≡ m * 2 ^ o * 2 ^ 53 → e * 2 ^ 54 ≡ m * 2 ^ (107 + o)
target m o e h =
    ap (λ (x : ℕ). x * 2 ^ 54) h
    ∙ mul_assoc (m * 2 ^ o) (2 ^ 53) (2 ^ 54)
    ∙ mul_assoc m (2 ^ o) (2 ^ 107)
    ∙ ap (λ (x : ℕ). m * x)
    (sym (pow-add 2 o 107) ∙ ap (λ (x : ℕ). 2 ^ x) (let z : o + 107 ≡ 107 + o = omega arith in z))

-- the fields of b, and the start of the root's binade
module _ (b : ℕ) (least : 2 ^ 52 ≤ b) (finite : b < 0x7ff0_0000_0000_0000) where
  start : (b / 2 ^ 52 + 2043) / 3 * 2 ^ 52 % 2 ^ 64 ≡ (b / 2 ^ 52 + 2043) / 3 * 2 ^ 52
  start = omega arith

  pattern_at : (y : ℕ) → b / 2 ^ 52 + 1021 + 1022 ≡ y → (r : ℕ) → RoundsTo (root_of (b % 2 ^ 52 + 2 ^ 52) (y % 3)) r
      → of_bits binary64 (y / 3 * 2 ^ 52 + r) ≡ cbrt_of (of_bits binary64 b)
  pattern_at y e r =
      subst (λ (z : ℕ). RoundsTo (root_of (b % 2 ^ 52 + 2 ^ 52) (z % 3)) r
      → of_bits binary64 (z / 3 * 2 ^ 52 + r) ≡ cbrt_of (of_bits binary64 b)) e
      (root_pattern b (b % 2 ^ 52 + 2 ^ 52) (b / 2 ^ 52 + 1021) (normal b (b / 2 ^ 52 - 1) (omega arith) finite)
      (omega arith) finite r)

  settled : (c s e : ℕ) → s ≡ (b / 2 ^ 52 + 2043) / 3 * 2 ^ 52 → s ≤ c → 2 ^ 52 < c - s → c - s < 2 ^ 53
      → e ≡ (b % 2 ^ 52 + 2 ^ 52) * 2 ^ ((b / 2 ^ 52 + 2043) % 3) * 2 ^ 53 → Between 0 (2 * (c - s)) e
      → of_bits binary64 c ≡ cbrt_of (of_bits binary64 b)
  settled c s e is lo above below v h =
      ap (of_bits binary64) (sym (ap (λ (x : ℕ). x + (c - s)) (sym is) ∙ (let z : s + (c - s) ≡ c = omega arith in z)))
      ∙ pattern_at (b / 2 ^ 52 + 2043) (omega arith) (c - s)
      (certified (b % 2 ^ 52 + 2 ^ 52) ((b / 2 ^ 52 + 2043) % 3) (omega arith) (omega arith) (omega arith)
      (c - s) e above below (target (b % 2 ^ 52 + 2 ^ 52) ((b / 2 ^ 52 + 2043) % 3) e v) h)

pub returns-then-c-start : goal.returns-then-c-start
returns-then-c-start c = record {
  yes = λ e. absurd (subst T (sym e) tt);
  sure = λ p q w. absurd
      (let z : ⊥ = omega (arith, start c.args.b c.requires.0 c.requires.1) in z);
}

pub returns-then-n-le4503599627370496 : goal.returns-then-n-le4503599627370496
returns-then-n-le4503599627370496 c =
    record {
      yes = λ e. absurd (subst T (sym e) tt);
      sure = λ p q w. absurd
          (let z : ⊥ = omega (arith, start c.args.b c.requires.0 c.requires.1) in z);
    }

pub returns-then-n-ge9007199254740992 : goal.returns-then-n-ge9007199254740992
returns-then-n-ge9007199254740992 c =
    record {
      yes = λ e. absurd (subst T (sym e) tt);
      sure = λ p q w. absurd
          (let z : ⊥ = omega (arith, start c.args.b c.requires.0 c.requires.1) in z);
    }

pub overflow_add-m : goal.overflow_add-m
overflow_add-m c = omega (arith, and_mask c.args.b 52)

pub overflow_mul-n : goal.overflow_mul-n
overflow_mul-n c =
    omega (arith, start c.args.b c.requires.0 c.requires.1)

pub invariant_of-between : goal.invariant_of-between
invariant_of-between c =
    let b = c.args.b in
    let m = (b % 2 ^ 52 + 2 ^ 52) * 2 ^ ((b / 2 ^ 52 + 2043) % 3) % 2 ^ 64 in
    rw (and_mask b 52, and_mask m 1)
    (record {
      high_fits = (limbs (b % 2 ^ 52 + 2 ^ 52) ((b / 2 ^ 52 + 2043) % 3) (omega arith) (omega arith)).high;
      low_fits = omega arith;
    })

pub returns : goal.returns
returns c =
    let b = c.args.b in
    let starts = start b c.requires.0 c.requires.1 in
    let parts = limbs (b % 2 ^ 52 + 2 ^ 52) ((b / 2 ^ 52 + 2043) % 3) (omega arith) (omega arith) in
    record {
      yes =
          λ e.
          settled b c.requires.0 c.requires.1 c.args.c _ _ starts
          c.if-c-start.false c.if-n-le4503599627370496.false c.if-n-ge9007199254740992.false
          parts.value
          (rw (and_mask b 52) at (c.between.ensures.yes e));
      sure =
          λ p q w.
          (rw (and_mask b 52) at c.between.ensures.sure)
          (subst (λ (e : ℕ). WellBetween 0 (2 * (c.args.c - (b / 2 ^ 52 + 2043) / 3 * 2 ^ 52 % 2 ^ 64)) e)
          (sym parts.value)
          (subst (λ (x : ℕ). WellBetween 0 (2 * (c.args.c - x)) (target_of b)) (sym starts) w));
    }
