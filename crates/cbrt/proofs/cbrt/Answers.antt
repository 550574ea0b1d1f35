-- `cbrt::cbrt` meets its contract. Assumes nothing.
use mathlib.Core.Path.{◌≡◌, sym, ap, ◌∙◌, subst}
use Prim.Native.Nat.{ℕ, ◌%◌, ◌^◌, ◌≤◌, ◌<◌}
use native.Mathlib.Omega.{arith}
use mathlib.Core.Bool.{true, ◌&&◌}
use lib.Dec.{T, leb, ltb, leb→le, ltb→lt}
use lib.Bits.{bit_and, and_mask}
use lib.Ieee.{Float, binary64, of_bits, to_bits, fits}
use lib.Ieee.Bits.{of_bits-to_bits}
use lib.Ieee.Fits.{and_l, and_r, add-fits}
use Rattle.bits.proofs.Patterns.{not_nan_bits}
use Rattle.elementary.specs.Functions.{cbrt_of}
use Rattle.cbrt.specs.Candidate.{candidate_of, refined_root}
use Rattle.cbrt.proofs.Signs.{nan_root, root_positive, root_negative}
use Rattle.cbrt.proofs.cbrt.Goals as goal

-- the magnitude's pattern is a normal double's
normal : (m : ℕ) → (leb (2 ^ 52) m && ltb m 0x7ff0_0000_0000_0000) ≡ true → (2 ^ 52 ≤ m) × (m < 0x7ff0_0000_0000_0000)
normal m e =
    let t = subst T (sym e) tt in (
      leb→le (2 ^ 52) m (and_l (leb (2 ^ 52) m) (ltb m 0x7ff0_0000_0000_0000) t),
      ltb→lt m 0x7ff0_0000_0000_0000 (and_r (leb (2 ^ 52) m) (ltb m 0x7ff0_0000_0000_0000) t),
    )

-- the candidate is a double, and the double of its pattern
candidate_fits : (x : Float) (b : ℕ) → T (fits binary64 (candidate_of x b))
unfolding candidate_of refined_root
candidate_fits x b = add-fits binary64 _ _

own_pattern : (r x : Float) (b : ℕ) → r ≡ candidate_of x b → r ≡ of_bits binary64 (to_bits binary64 r)
own_pattern r x b e =
    sym (of_bits-to_bits binary64 r (subst (λ (y : Float). T (fits binary64 y)) (sym e) (candidate_fits x b)))

magnitude : (b : ℕ) (r : Float) → r ≡ cbrt_of (of_bits binary64 (bit_and b 0x7fff_ffff_ffff_ffff))
    → r ≡ cbrt_of (of_bits binary64 (b % 2 ^ 63))
magnitude b r h = h ∙ ap (λ (m : ℕ). cbrt_of (of_bits binary64 m)) (and_mask b 63)

pub returns-then-is_nan : goal.returns-then-is_nan
returns-then-is_nan c = nan_root c.args.x (sym c.if-is_nan.ensures.value)

pub float_from_bits-m : goal.float_from_bits-m
float_from_bits-m c =
    not_nan_bits _
    (omega (
      arith,
      (normal (bit_and (to_bits binary64 c.args.x) 0x7fff_ffff_ffff_ffff) c.if-m.true).1,
    ))

pub candidate-root-requires : goal.candidate-root-requires
candidate-root-requires c =
    omega (
      arith,
      (normal (bit_and (to_bits binary64 c.args.x) 0x7fff_ffff_ffff_ffff) c.if-m.true).1,
    )

pub is_root-requires : goal.is_root-requires
is_root-requires c =
    normal (bit_and (to_bits binary64 c.args.x) 0x7fff_ffff_ffff_ffff)
    c.if-m.true

pub returns-then-b-m : goal.returns-then-b-m
returns-then-b-m c =
    let x = c.args.x in
    root_positive x (subst T (sym c.well_formed.0.1) tt) _
    (magnitude (to_bits binary64 x) _
    (own_pattern c.candidate-root.result _ _ c.candidate-root.ensures
    ∙ c.is_root.ensures.yes c.if-is_root.true))
    (rw (and_mask (to_bits binary64 x) 63) at c.if-b-m.true)

pub returns-then-is_root : goal.returns-then-is_root
returns-then-is_root c =
    let x = c.args.x in
    root_negative x (subst T (sym c.well_formed.0.1) tt) _
    (magnitude (to_bits binary64 x) _
    (own_pattern c.candidate-root.result _ _ c.candidate-root.ensures
    ∙ c.is_root.ensures.yes c.if-is_root.true))
    (rw (and_mask (to_bits binary64 x) 63) at c.if-b-m.false)
