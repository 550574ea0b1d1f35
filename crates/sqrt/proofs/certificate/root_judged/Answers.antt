-- `sqrt::certificate::root_judged` meets its contract. Assumes nothing.
use Rattle.std.proofs.Common.{◌≡◌, ℕ, suc, ◌+◌, ◌-◌, ◌*◌, ◌/◌, ◌%◌, ◌^◌, ◌<◌, ◌≤◌, sym, ap, ◌∙◌, subst, ap₂, arith}
use lib.Bits.{bit_and, and_mask}
use lib.Ieee.{binary64, of_bits}
use Rattle.bits.specs.Fields.{Normalized}
use Rattle.bits.proofs.Normalize.{normal}
use Rattle.sqrt.specs.Roots.{NearestRoot}
use Rattle.sqrt.specs.Verdicts.{IsRoot, IsPattern, radicand_of, verdict_of, Says, Certified}
use Rattle.sqrt.specs.declared.certificate.Verdict.{Verdict}
use Rattle.sqrt.specs.declared.certificate.Verdict.TheVariants.{Nearest, TooLow, TooHigh, Unknown}
use Rattle.sqrt.proofs.RootPattern.{with_parity, root_most, root_is}
use Rattle.sqrt.proofs.Verdicts.{verdict_says}
use Rattle.sqrt.proofs.certificate.root_judged.Goals as goal

-- the digits below 2 ^ 53 of b with the bias of the exponent added: the fraction, and the
-- parity of the normalized exponent
fraction_is : (b : ℕ) → (b + 0x3ff0_0000_0000_0000) % 2 ^ 53 % 2 ^ 52 ≡ b % 2 ^ 52
fraction_is b = omega arith

parity_is : (b : ℕ) → (b + 0x3ff0_0000_0000_0000) % 2 ^ 53 / 2 ^ 52 ≡ (b / 2 ^ 52 + 1021) % 2
parity_is b = omega arith

radicand_is : (b : ℕ)
    → ((b + 0x3ff0_0000_0000_0000) % 2 ^ 53 % 2 ^ 52 + 2 ^ 52) * 2 ^ ((b + 0x3ff0_0000_0000_0000) % 2 ^ 53 / 2 ^ 52)
    ≡ (b % 2 ^ 52 + 2 ^ 52) * 2 ^ ((b / 2 ^ 52 + 1021) % 2)
radicand_is b = ap₂ (λ (x y : ℕ). (x + 2 ^ 52) * 2 ^ y) (fraction_is b) (parity_is b)

-- what is left of c without half the exponent of b
abbrev rest : ℕ → ℕ → ℕ
rest b c = (c + (2 ^ 64 - ((b + 0x3ff0_0000_0000_0000) / 2 ^ 53 - 1) * 2 ^ 52 % 2 ^ 64)) % 2 ^ 64

pattern_is : (b c : ℕ) → 2 ^ 52 ≤ b → b < 0x7ff0_0000_0000_0000 → c < 2 ^ 64 → rest b c < 2 ^ 53
    → IsPattern b (rest b c) c
pattern_is b c h g f l = omega arith

masked : (b d : ℕ)
    → d ≡ (bit_and (b + 0x3ff0_0000_0000_0000) 0x1f_ffff_ffff_ffff % 2 ^ 52 + 2 ^ 52)
    * 2 ^ (bit_and (b + 0x3ff0_0000_0000_0000) 0x1f_ffff_ffff_ffff / 2 ^ 52)
    → d ≡ (b % 2 ^ 52 + 2 ^ 52) * 2 ^ ((b / 2 ^ 52 + 1021) % 2)
masked b d e =
    e ∙ ap (λ (x : ℕ). (x % 2 ^ 52 + 2 ^ 52) * 2 ^ (x / 2 ^ 52)) (and_mask (b + 0x3ff0_0000_0000_0000) 53)
    ∙ radicand_is b

pub judged-requires : goal.judged-requires
judged-requires c = (
  rw (masked c.args.b c.radicand.result c.radicand.ensures)
      (with_parity (c.args.b % 2 ^ 52 + 2 ^ 52) ((c.args.b / 2 ^ 52 + 1021) % 2) (omega arith)
      (omega arith) (omega arith)).1,
  c.if-r-ge9007199254740992.false,
)

-- what the verdict says of whole numbers, said of the patterns
certified : (b c r : ℕ) → 2 ^ 52 ≤ b → b < 0x7ff0_0000_0000_0000 → IsPattern b r c → (v : Verdict)
    → v ≡ verdict_of (radicand_of b * 2 ^ 52) r → Certified b c v
certified b c r h g e v i =
    go v (subst (Says (radicand_of b * 2 ^ 52) r) (sym i) (verdict_says (radicand_of b * 2 ^ 52) r)) i
  where
    parts : Normalized b (b % 2 ^ 52 + 2 ^ 52) (b / 2 ^ 52 + 1021)
    parts = normal b (b / 2 ^ 52 - 1) (let z : b / 2 ^ 52 ≡ suc (b / 2 ^ 52 - 1) = omega arith in z) g

    at : (n p : ℕ) → IsPattern b n p → NearestRoot (radicand_of b * 2 ^ 52) n → IsRoot b p
    at n p q k =
        let most : n ≤ 2 ^ 53 = root_most b (b % 2 ^ 52 + 2 ^ 52) (b / 2 ^ 52 + 1021) parts g n k in (
          (let z : p < 0x7ff0_0000_0000_0000 = omega arith in z),
          ap (of_bits binary64) (sym q) ∙ root_is b (b % 2 ^ 52 + 2 ^ 52) (b / 2 ^ 52 + 1021) parts g n k,
        )

    go : (v : Verdict) → Says (radicand_of b * 2 ^ 52) r v → v ≡ verdict_of (radicand_of b * 2 ^ 52) r → Certified b c v
    go Nearest k i = at r c e k
    go TooLow k i = at (r + 1) (c + 1) (omega arith) k
    go TooHigh k i = let p = k.0 in (omega arith, at (r - 1) (c - 1) (omega arith) k.1)
    go Unknown k i =
        λ s l q. subst (λ (n : ℕ). verdict_of (radicand_of b * 2 ^ 52) n ≡ Unknown) (let z : r ≡ s = omega arith in z)
        (sym i)

pub returns : goal.returns
returns c =
    let b = c.args.b in
    certified b c.args.c (rest b c.args.c) c.requires.0 c.requires.1
    (pattern_is b c.args.c c.requires.0 c.requires.1 c.ranges.c.fits c.if-r-ge9007199254740992.false) c.judged.result
    (c.judged.ensures
    ∙ ap (λ (x : ℕ). verdict_of (x * 2 ^ 52) (rest b c.args.c)) (masked b c.radicand.result c.radicand.ensures))
