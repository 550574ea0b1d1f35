-- `block::select::of_three` meets its contract. Assumes nothing.
use Rattle.block.proofs.ArrayLaws.{size_of_law, three_made}
use Rattle.block.proofs.select.of_three.Goals as goal

pub returns : goal.returns
returns c =
    three_made c.args.profiles _ (size_of_law 3 c.args.profiles _ c.well_formed.0)
    c.fastest-i.ensures.index c.fastest-i.ensures.below c.from_profiles-a.ensures c.none.ensures c.new.ensures
