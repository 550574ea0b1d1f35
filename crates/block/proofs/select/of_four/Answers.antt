-- `block::select::of_four` meets its contract. Assumes nothing.
use Rattle.block.proofs.ArrayLaws.{four_made, four_stay}
use Rattle.block.proofs.select.of_four.Goals as goal

pub returns-in-Some : goal.returns-in-Some
returns-in-Some c = four_made _ c.removal.ensures c.in-Some.is c.remove_profile.ensures c.of_three.ensures

pub returns-in-None : goal.returns-in-None
returns-in-None c = four_stay _ c.removal.ensures c.in-None.is
