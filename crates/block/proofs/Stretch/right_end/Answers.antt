-- `block::Stretch::right_end` meets its contract. Assumes nothing.
use lib.Ieee.{of_bits}
use Rattle.block.proofs.Stretch.right_end.Goals as goal

pub returns-in-From : goal.returns-in-From
unfolding of_bits
returns-in-From c = rw c.in-From.is
