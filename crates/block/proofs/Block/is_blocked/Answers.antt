-- `block::Block::is_blocked` meets its contract. Assumes nothing.
use Rattle.block.specs.Blocks.{is_blocked, blocking_of}
use Rattle.block.proofs.BlockingLaws.{says}
use Rattle.block.proofs.Block.is_blocked.Goals as goal

pub returns-then-not-is_finite : goal.returns-then-not-is_finite
unfolding blocking_of is_blocked
returns-then-not-is_finite c = says _ _ _ (rw (← c.is_finite.ensures, c.if-not-is_finite.true))

pub returns : goal.returns
unfolding blocking_of is_blocked
returns c =
    says _ _ _
    (rw (← c.is_finite.ensures, c.if-not-is_finite.false, ← c.contains.ensures, ← c.contains-2.ensures))
