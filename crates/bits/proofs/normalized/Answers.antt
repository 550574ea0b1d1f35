-- `bits::normalized` meets its contract. Assumes nothing.
use Rattle.std.proofs.Common.{◌≡◌, ℕ, ◌-◌, ◌*◌, ◌/◌, ◌%◌, ◌^◌, suc, sym, ◌∙◌, subst, arith, bit_and}
use native.Mathlib.Nat.{mod-eq_of_lt}
use lib.Bits.{and_mask}
use lib.Count.{count_leading_zeros}
use Rattle.bits.proofs.Normalize.{Shifted, shifted, subnormal, normal}
use Rattle.bits.proofs.normalized.Goals as goal

-- a pattern whose exponent's field is 0 is its digits' field
low_is : (b : ℕ) → b / 2 ^ 52 ≡ 0 → bit_and b 0xf_ffff_ffff_ffff ≡ b
low_is b e = and_mask b 52 ∙ (let z : b % 2 ^ 52 ≡ b = omega arith in z)

module _ (c : goal.Then-biased-eq0) where
  is : bit_and c.args.b 0xf_ffff_ffff_ffff ≡ c.args.b
  is = low_is c.args.b c.if-biased-eq0.true

  amount : Shifted (bit_and c.args.b 0xf_ffff_ffff_ffff)
  amount = subst Shifted (sym is) (shifted c.args.b c.requires.0 (omega arith))

pub overflow_sub-shift : goal.overflow_sub-shift
overflow_sub-shift c = omega (arith, (amount c).least)

pub returns-then-biased-eq0 : goal.returns-then-biased-eq0
returns-then-biased-eq0 c =
    rw (
      c.from.ensures,
      mod-eq_of_lt
          {n = bit_and c.args.b 0xf_ffff_ffff_ffff * 2 ^ (count_leading_zeros 64 (bit_and c.args.b 0xf_ffff_ffff_ffff) - 11)} {m = 2 ^ 64} (omega (arith, (amount c.before).fits)),
      is c.before,
    )
    (subnormal c.args.b c.requires.0 (omega arith))

pub returns-else-biased-eq0 : goal.returns-else-biased-eq0
returns-else-biased-eq0 c =
    rw (and_mask c.args.b 52)
    (normal c.args.b (c.args.b / 2 ^ 52 - 1) (some (c.args.b / 2 ^ 52) c.if-biased-eq0.false) c.requires.1)
  where
    some : (n : ℕ) → (n ≡ 0 → ⊥) → n ≡ suc (n - 1)
    some n h = omega arith
