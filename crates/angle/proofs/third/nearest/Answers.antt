-- `angle::nearest` meets its contract. Assumes nothing.
use mathlib.Core.Path.{sym, ◌∙◌}
use denote.Floats.{passes}
use lib.Ieee.{binary64}
use lib.Ieee.Bits.{of_bits-to_bits}
use Rattle.angle.proofs.third.nearest.Goals as goal

pub returns-then-certified : goal.returns-then-certified
returns-then-certified g c =
    sym (of_bits-to_bits binary64 c.args.candidate (passes _ c.well_formed.1.0.1)) ∙ c.certified.ensures c.if-certified.true
