-- `shop_checks::promise_applies` meets its contract. Assumes nothing.
use Rattle.shop_checks.proofs.WorkedMoves.{promise_applies}
use Rattle.shop_checks.proofs.promise_applies.Goals as goal

pub returns : goal.returns
returns c = promise_applies
