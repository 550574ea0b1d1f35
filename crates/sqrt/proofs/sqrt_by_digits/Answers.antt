-- `sqrt::sqrt_by_digits` meets its contract. Assumes nothing.
use Rattle.std.proofs.Common.{◌≡◌, ℕ, ◌+◌, ◌-◌, ◌%◌, ◌^◌, ◌<◌, ◌≤◌, true, not, T, sym, refl, ap, ◌∙◌, subst, inl, inr}
use Rattle.std.proofs.Common.{eq-or-lt_of_le, arith}
use lib.Ieee.{Float, nan, binary64, of_bits, to_bits, fits, is_nan, div}
use lib.Ieee.Bits.{of_bits-to_bits}
use Rattle.bits.specs.Fields.{pattern_units}
use Rattle.elementary.specs.Functions.{sqrt_of}
use Rattle.bits.proofs.Patterns.{pattern_most, pattern_units_pos, pattern_value}
use Rattle.elementary.proofs.Roots.{sqrt_of_negative}
use Rattle.sqrt.proofs.Specials.{at_nan}
use Rattle.sqrt.proofs.sqrt_by_digits.Goals as goal

-- where the pattern is known, so is the result
at_pattern : (x : Float) (b : ℕ) → T (fits binary64 x) → to_bits binary64 x ≡ b
    → of_bits binary64 b ≡ sqrt_of (of_bits binary64 b) → x ≡ sqrt_of x
at_pattern x b h e s =
    let is : of_bits binary64 b ≡ x = ap (of_bits binary64) (sym e) ∙ of_bits-to_bits binary64 x h in
    subst (λ (y : Float). y ≡ sqrt_of y) is s

zero : of_bits binary64 0 ≡ sqrt_of (of_bits binary64 0)
unfolding sqrt_of of_bits
zero = refl

minus_zero : of_bits binary64 0x8000_0000_0000_0000 ≡ sqrt_of (of_bits binary64 0x8000_0000_0000_0000)
unfolding sqrt_of of_bits
minus_zero = refl

infinity : of_bits binary64 0x7ff0_0000_0000_0000 ≡ sqrt_of (of_bits binary64 0x7ff0_0000_0000_0000)
unfolding sqrt_of of_bits
infinity = refl

minus_infinity : sqrt_of (of_bits binary64 (2 ^ 63 + 0x7ff0_0000_0000_0000)) ≡ nan
unfolding sqrt_of of_bits
minus_infinity = refl

negative : (x : Float) → T (fits binary64 x) → T (not (is_nan x)) → 0x7ff0_0000_0000_0000 ≤ to_bits binary64 x
    → (to_bits binary64 x ≡ 0x7ff0_0000_0000_0000 → ⊥) → (to_bits binary64 x ≡ 2 ^ 63 → ⊥) → sqrt_of x ≡ nan
negative x h n a i z =
    go (to_bits binary64 x - 2 ^ 63)
    (split (to_bits binary64 x) (lib.Ieee.Bits.to_bits-lt binary64 x h) (pattern_most x h n) a i z)
  where
    split : (b : ℕ) → b < 2 ^ 64 → b % 2 ^ 63 ≤ 0x7ff0_0000_0000_0000 → 0x7ff0_0000_0000_0000 ≤ b
        → (b ≡ 0x7ff0_0000_0000_0000 → ⊥) → (b ≡ 2 ^ 63 → ⊥)
        → (b ≡ 2 ^ 63 + (b - 2 ^ 63)) × (0 < b - 2 ^ 63) × (b - 2 ^ 63 ≤ 0x7ff0_0000_0000_0000)
    split b l m a i z = omega arith

    go : (r : ℕ) → (to_bits binary64 x ≡ 2 ^ 63 + r) × (0 < r) × (r ≤ 0x7ff0_0000_0000_0000) → sqrt_of x ≡ nan
    go r (e, p, l) =
        let is : of_bits binary64 (2 ^ 63 + r) ≡ x = ap (of_bits binary64) (sym e) ∙ of_bits-to_bits binary64 x h in
        subst (λ (y : Float). sqrt_of y ≡ nan) is
        (elim (eq-or-lt_of_le l) [
          | inl q ↦ ap (λ (y : ℕ). sqrt_of (of_bits binary64 (2 ^ 63 + y))) q ∙ minus_infinity
          | inr q ↦ sqrt_of_negative (of_bits binary64 (2 ^ 63 + r)) (pattern_units r) (2 ^ 1074)
              (pattern_value true r (2 ^ 63 + r) q refl) (pattern_units_pos r p)
        ])

none : of_bits binary64 0x7ff8_0000_0000_0000 ≡ nan
unfolding of_bits
none = refl

pub returns-then-is_nan : goal.returns-then-is_nan
returns-then-is_nan c = at_nan c.args.x (sym c.if-is_nan.ensures.value)

pub returns-then-b-eq0 : goal.returns-then-b-eq0
returns-then-b-eq0 c =
    at_pattern c.args.x 0 (subst T (sym c.well_formed.0.1) tt) c.if-b-eq0.true zero

pub returns-then-b-lt9218868437227405312 : goal.returns-then-b-lt9218868437227405312
returns-then-b-lt9218868437227405312 c =
    c.root_pattern.ensures.1 ∙ ap sqrt_of (of_bits-to_bits binary64 c.args.x (subst T (sym c.well_formed.0.1) tt))

pub returns-then-b-eq9218868437227405312 : goal.returns-then-b-eq9218868437227405312
returns-then-b-eq9218868437227405312 c =
    at_pattern c.args.x 0x7ff0_0000_0000_0000 (subst T (sym c.well_formed.0.1) tt) c.if-b-eq9218868437227405312.true infinity

pub returns-then-b : goal.returns-then-b
returns-then-b c =
    at_pattern c.args.x 0x8000_0000_0000_0000 (subst T (sym c.well_formed.0.1) tt) c.if-b.true minus_zero

pub returns : goal.returns
returns c =
    none ∙ sym (negative c.args.x (subst T (sym c.well_formed.0.1) tt) c.if-is_nan.ensures.not_nan
    c.if-b-lt9218868437227405312.false c.if-b-eq9218868437227405312.false c.if-b.false)
