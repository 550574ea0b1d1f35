-- `sqrt::sqrt` meets its contract. Assumes nothing.
use Rattle.std.proofs.Common.{◌≡◌, ℕ, ◌^◌, ◌<◌, ◌≤◌, true, not, ◌&&◌, T, ltb, leb, sym, ap, ◌∙◌, subst}
use Rattle.std.proofs.Common.{lt_of_lt_of_le, arith, lit≤, ltb→lt, leb→le}
use lib.Ieee.{Float, binary64, fits, nan_bits, of_bits, to_bits}
use lib.Ieee.Bits.{of_bits-to_bits}
use lib.Ieee.Fits.{add-fits, and_l, and_r}
use Rattle.bits.proofs.Patterns.{not_nan_bits}
use Rattle.elementary.specs.Functions.{sqrt_of}
use Rattle.sqrt.specs.Candidate.{candidate_of}
use Rattle.sqrt.specs.Verdicts.{Certified}
use Rattle.sqrt.specs.declared.certificate.Verdict.{Verdict}
use Rattle.sqrt.specs.declared.certificate.Verdict.TheVariants.{Nearest, TooLow, TooHigh}
use Rattle.sqrt.proofs.Specials.{at_nan}
use Rattle.sqrt.proofs.sqrt.Goals as goal

-- a normal pattern, by the two tests
normal : (b : ℕ) → leb (2 ^ 52) b && ltb b 0x7ff0_0000_0000_0000 ≡ true → (2 ^ 52 ≤ b) × (b < 0x7ff0_0000_0000_0000)
normal b e =
    let t : T (leb (2 ^ 52) b && ltb b 0x7ff0_0000_0000_0000) = subst T (sym e) tt in (
      leb→le (2 ^ 52) b (and_l (leb (2 ^ 52) b) (ltb b 0x7ff0_0000_0000_0000) t),
      ltb→lt b 0x7ff0_0000_0000_0000 (and_r (leb (2 ^ 52) b) (ltb b 0x7ff0_0000_0000_0000) t),
    )

candidate_fits : (x : Float) (b : ℕ) → T (fits binary64 (candidate_of x b))
unfolding candidate_of
candidate_fits x b = add-fits binary64 _ _

pub returns-then-is_nan : goal.returns-then-is_nan
returns-then-is_nan c = at_nan c.args.x (sym c.if-is_nan.ensures.value)

pub candidate-s-requires : goal.candidate-s-requires
candidate-s-requires c = lt_of_lt_of_le (normal _ c.if-b.true).1 (lit≤ tt)

pub root_judged-requires : goal.root_judged-requires
root_judged-requires c = normal _ c.if-b.true

-- what the verdict says, once it is known
told : (b p : ℕ) (v w : Verdict) → Certified b p v → v ≡ w → Certified b p w
told b p v w h e = subst (λ (w : Verdict). Certified b p w) e h

-- the root of the argument's pattern is the argument's
own_pattern : (x : Float) → T (fits binary64 x) → sqrt_of (of_bits binary64 (to_bits binary64 x)) ≡ sqrt_of x
own_pattern x h = ap sqrt_of (of_bits-to_bits binary64 x h)

own_candidate : (s x : Float) (b : ℕ) → s ≡ candidate_of x b → s ≡ of_bits binary64 (to_bits binary64 s)
own_candidate s x b e =
    sym (of_bits-to_bits binary64 s (subst (λ (y : Float). T (fits binary64 y)) (sym e) (candidate_fits x b)))

finite_bits : (b : ℕ) → b < 0x7ff0_0000_0000_0000 → T (not (nan_bits binary64 b))
finite_bits b h = not_nan_bits b (omega arith)

pub returns-in-Nearest : goal.returns-in-Nearest
returns-in-Nearest c =
    own_candidate c.candidate-s.result _ _ c.candidate-s.ensures ∙ (told _ _ _ Nearest c.root_judged.ensures c.in-Nearest.is).1
    ∙ own_pattern c.args.x (subst T (sym c.well_formed.0.1) tt)

pub overflow_add-result : goal.overflow_add-result
overflow_add-result c = let h = (told _ _ _ TooLow c.root_judged.ensures c.in-TooLow.is).0 in omega arith

pub float_from_bits-result : goal.float_from_bits-result
float_from_bits-result c = finite_bits _ (told _ _ _ TooLow c.root_judged.ensures c.in-TooLow.is).0

pub returns-in-TooLow : goal.returns-in-TooLow
returns-in-TooLow c =
    (told _ _ _ TooLow c.root_judged.ensures c.in-TooLow.is).1 ∙ own_pattern c.args.x (subst T (sym c.well_formed.0.1) tt)

pub overflow_sub-result : goal.overflow_sub-result
overflow_sub-result c = (told _ _ _ TooHigh c.root_judged.ensures c.in-TooHigh.is).0

pub float_from_bits-result-in-TooHigh : goal.float_from_bits-result-in-TooHigh
float_from_bits-result-in-TooHigh c = finite_bits _ (told _ _ _ TooHigh c.root_judged.ensures c.in-TooHigh.is).1.0

pub returns-in-TooHigh : goal.returns-in-TooHigh
returns-in-TooHigh c =
    (told _ _ _ TooHigh c.root_judged.ensures c.in-TooHigh.is).1.1 ∙ own_pattern c.args.x (subst T (sym c.well_formed.0.1) tt)
