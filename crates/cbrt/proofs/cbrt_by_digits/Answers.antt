-- `cbrt::cbrt_by_digits` meets its contract. Assumes nothing.
use mathlib.Core.Path.{sym, ◌∙◌, subst}
use lib.Dec.{T}
use lib.Bits.{and_mask}
use lib.Ieee.{binary64, to_bits}
use Rattle.cbrt.proofs.Signs.{nan_root, zero_root, infinite_root, root_positive, root_negative}
use Rattle.cbrt.proofs.cbrt_by_digits.Goals as goal

pub returns-then-is_nan : goal.returns-then-is_nan
returns-then-is_nan c = nan_root c.args.x (sym c.if-is_nan.ensures.value)

pub returns-then-m-eq0 : goal.returns-then-m-eq0
returns-then-m-eq0 c =
    zero_root c.args.x (subst T (sym c.well_formed.0.1) tt)
    (sym (and_mask (to_bits binary64 c.args.x) 63) ∙ c.if-m-eq0.true)

pub returns-then-m-ge9218868437227405312 : goal.returns-then-m-ge9218868437227405312
returns-then-m-ge9218868437227405312 c =
    let x = c.args.x in
    infinite_root x (subst T (sym c.well_formed.0.1) tt) c.if-is_nan.ensures.not_nan
    (rw (and_mask (to_bits binary64 x) 63) at c.if-m-ge9218868437227405312.true)

pub returns-then-b-m : goal.returns-then-b-m
returns-then-b-m c =
    let x = c.args.x in
    root_positive x (subst T (sym c.well_formed.0.1) tt) _
    (rw (and_mask (to_bits binary64 x) 63) at c.root_pattern-root.ensures.1)
    (rw (and_mask (to_bits binary64 x) 63) at c.if-b-m.true)

pub returns-else-b-m : goal.returns-else-b-m
returns-else-b-m c =
    let x = c.args.x in
    root_negative x (subst T (sym c.well_formed.0.1) tt) _
    (rw (and_mask (to_bits binary64 x) 63) at c.root_pattern-root.ensures.1)
    (rw (and_mask (to_bits binary64 x) 63) at c.if-b-m.false)
