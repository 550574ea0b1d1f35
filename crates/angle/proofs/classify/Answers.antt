-- `angle::classify` meets its contract. Assumes nothing.
use mathlib.Core.Path.{sym, ◌∙◌}
use denote.Floats.{passes}
use lib.Arith.{lt_of_le-ne}
use lib.Bits.{and_mask}
use lib.Ieee.{binary64, of_bits, to_bits}
use Rattle.angle.proofs.Cases.{not_a_number, outside, near, one, minus_one, sign_lt, by_sign}
use Rattle.angle.proofs.classify.Goals as goal

pub returns-then-is_nan : goal.returns-then-is_nan
returns-then-is_nan c = rw c.known.ensures (not_a_number c.args.t (sym c.if-is_nan.ensures.value))

pub returns-then-m-gt4607182418800017408 : goal.returns-then-m-gt4607182418800017408
unfolding of_bits
returns-then-m-gt4607182418800017408 c =
    let t = c.args.t in
    rw c.known-then-m-gt4607182418800017408.ensures (outside t (passes _ c.well_formed.0.1) c.if-is_nan.ensures.not_nan
    (rw (and_mask (to_bits binary64 t) 63) at c.if-m-gt4607182418800017408.true))

pub returns-then-b-m : goal.returns-then-b-m
returns-then-b-m c =
    rw c.known-then-b-m.ensures
    (one c.args.t (passes _ c.well_formed.0.1) (c.if-b-m.true ∙ c.if-m-eq4607182418800017408.true))

pub returns-then-m-eq4607182418800017408 : goal.returns-then-m-eq4607182418800017408
returns-then-m-eq4607182418800017408 c =
    let t = c.args.t in
    rw c.known-then-m-eq4607182418800017408.ensures
    (minus_one t (passes _ c.well_formed.0.1) (sym (and_mask (to_bits binary64 t) 63) ∙ c.if-m-eq4607182418800017408.true)
    (rw (and_mask (to_bits binary64 t) 63) at c.if-b-m.false))

pub returns-then-m-lt4359484439294640128 : goal.returns-then-m-lt4359484439294640128
returns-then-m-lt4359484439294640128 c =
    rw c.known-then-m-lt4359484439294640128.ensures
    (near c.args.t (passes _ c.well_formed.0.1)
    (rw (and_mask (to_bits binary64 c.args.t) 63) at c.if-m-lt4359484439294640128.true))

pub invariant_of-sign : goal.invariant_of-sign
invariant_of-sign c = record { is_bit = sign_lt c.args.t (passes _ c.well_formed.0.1) }

pub invariant_of-result : goal.invariant_of-result
invariant_of-result c = record {
  least = c.if-m-lt4359484439294640128.false;
  below = lt_of_le-ne c.if-m-gt4607182418800017408.false c.if-m-eq4607182418800017408.false;
}

pub returns : goal.returns
returns c = rw (and_mask (to_bits binary64 c.args.t) 63) (by_sign c.args.t (passes _ c.well_formed.0.1))
