-- `sqrt::certificate::judged` meets its contract. Assumes nothing.
use Rattle.std.proofs.Common.{◌≡◌, ℕ, ◌+◌, ◌-◌, ◌%◌, ◌^◌, ◌<◌, refl, arith}
use lib.Bits.{and_mask}
use Rattle.sqrt.proofs.Excess.{zero_high, zero_none, small, larger, negative_high, none, residue_lt}
use Rattle.sqrt.proofs.Excess.{excess_of, far_is, excess_is}
use Rattle.sqrt.proofs.certificate.judged.Goals as goal

pub returns-then-rest-ge16 : goal.returns-then-rest-ge16
returns-then-rest-ge16 c =
    far_is c.args.m c.args.r c.requires.0 c.requires.1 (rw (and_mask c.args.r 26) at c.if-rest-ge16.true)

positive : (n : ℕ) → (n ≡ 0 → ⊥) → 0 < n
positive n h = omega arith

pub returns-then-r-gt1 : goal.returns-then-r-gt1
returns-then-r-gt1 c =
    zero_high _ _ _ c.requires.1
    (excess_is c.args.m c.args.r c.requires.0 c.requires.1 (rw (and_mask c.args.r 26) at c.if-rest-ge16.false))
    (rw (and_mask c.args.r 26) at c.if-excess-eq0.true) c.if-r-gt1.true

pub returns-then-excess-eq0 : goal.returns-then-excess-eq0
returns-then-excess-eq0 c =
    zero_none _ _ _ c.requires.1
    (excess_is c.args.m c.args.r c.requires.0 c.requires.1 (rw (and_mask c.args.r 26) at c.if-rest-ge16.false))
    (rw (and_mask c.args.r 26) at c.if-excess-eq0.true) c.if-r-gt1.false

pub returns-then-excess-r : goal.returns-then-excess-r
returns-then-excess-r c =
    small _ _ _ c.requires.1
    (excess_is c.args.m c.args.r c.requires.0 c.requires.1 (rw (and_mask c.args.r 26) at c.if-rest-ge16.false))
    (positive _ (rw (and_mask c.args.r 26) at c.if-excess-eq0.false))
    (rw (and_mask c.args.r 26) at c.if-excess-r.true)

pub returns-then-excess-r-2 : goal.returns-then-excess-r-2
returns-then-excess-r-2 c =
    larger _ _ _ c.requires.1
    (excess_is c.args.m c.args.r c.requires.0 c.requires.1 (rw (and_mask c.args.r 26) at c.if-rest-ge16.false))
    (rw (and_mask c.args.r 26) at c.if-excess-r.false)
    (rw (and_mask c.args.r 26) at c.if-excess-r-2.true)

-- the excess taken from 0
opposite : (z : ℕ) → z < 2 ^ 64 → ((0 + (2 ^ 64 - z)) % 2 ^ 64 + z) % 2 ^ 64 ≡ 0
opposite z h = omega arith

pub returns-then-excess-r-3 : goal.returns-then-excess-r-3
returns-then-excess-r-3 c =
    negative_high _ _ _ c.requires.1
    (excess_is c.args.m c.args.r c.requires.0 c.requires.1 (rw (and_mask c.args.r 26) at c.if-rest-ge16.false))
    ((0 + (2 ^ 64 - excess_of c.args.m c.args.r)) % 2 ^ 64) (residue_lt _ _ refl)
    (rw (and_mask c.args.r 26) at c.if-excess-r-2.false) (opposite _ (residue_lt _ _ refl)) (residue_lt _ _ refl)
    (rw (and_mask c.args.r 26) at c.if-excess-r-3.true)

pub returns : goal.returns
returns c =
    none _ _ _ c.requires.1
    (excess_is c.args.m c.args.r c.requires.0 c.requires.1 (rw (and_mask c.args.r 26) at c.if-rest-ge16.false))
    ((0 + (2 ^ 64 - excess_of c.args.m c.args.r)) % 2 ^ 64) (residue_lt _ _ refl)
    (rw (and_mask c.args.r 26) at c.if-excess-r-2.false) (opposite _ (residue_lt _ _ refl)) (residue_lt _ _ refl)
    (rw (and_mask c.args.r 26) at c.if-excess-r-3.false)
