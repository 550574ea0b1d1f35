-- `block::select::of_five` meets its contract. Assumes nothing.
use Rattle.block.proofs.ArrayLaws.{size_of_law, five_made}
use Rattle.block.proofs.select.of_five.Goals as goal

pub returns : goal.returns
returns c =
    five_made c.args.profiles _ (size_of_law 5 c.args.profiles _ c.well_formed.0)
    c.fastest-i.ensures.index c.fastest-i.ensures.below c.with_two.ensures
