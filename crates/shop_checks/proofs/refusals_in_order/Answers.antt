-- `shop_checks::refusals_in_order` meets its contract. Assumes nothing.
use Rattle.shop_checks.proofs.WorkedMoves.{refusals_in_order}
use Rattle.shop_checks.proofs.refusals_in_order.Goals as goal

pub returns : goal.returns
returns c = refusals_in_order
