-- `block::Block::calculate_block` meets its contract. Assumes nothing.
use Rattle.block.specs.Selection.{selected}
use Rattle.block.proofs.ArrayLaws.{size_of_law, selected_one, selected_two, selected_three, selected_four}
use Rattle.block.proofs.ArrayLaws.{selected_five}
use borrow.Author.Rules.{rules}
use Rattle.block.proofs.Block.calculate_block.Goals as goal

pub returns-in-0 : goal.returns-in-0
unfolding selected
returns-in-0 c = rw c.in-0.is

pub returns-in-1 : goal.returns-in-1
returns-in-1 c =
    rw c.in-1.is (selected_one c.args.valid_profiles _ (size_of_law 6 c.args.valid_profiles _ c.well_formed.0)
    c.none.ensures c.none-in-1.ensures c.new.ensures)

pub returns-in-2 : goal.returns-in-2
returns-in-2 c = rw c.in-2.is (selected_two c.args.valid_profiles _ (size_of_law 6 c.args.valid_profiles _ c.well_formed.0) c.of_two.ensures)

pub returns-in-3 : goal.returns-in-3
returns-in-3 c =
    rw c.in-3.is (selected_three c.args.valid_profiles _ (size_of_law 6 c.args.valid_profiles _ c.well_formed.0) c.of_three.ensures)

pub returns-in-4 : goal.returns-in-4
returns-in-4 c = rw c.in-4.is (selected_four c.args.valid_profiles _ (size_of_law 6 c.args.valid_profiles _ c.well_formed.0) c.of_four.ensures)

pub returns-in-5 : goal.returns-in-5
returns-in-5 c = rw c.in-5.is (selected_five c.args.valid_profiles _ (size_of_law 6 c.args.valid_profiles _ c.well_formed.0) c.of_five.ensures)

pub returns-in_default : goal.returns-in_default
unfolding selected
returns-in_default c = search rules
