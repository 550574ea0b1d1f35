-- `shop_checks::shop_checks` meets its contract. Assumes nothing.
use Rattle.shop_checks.proofs.ShopChecks.{shop_checks}
use Rattle.shop_checks.proofs.shop_checks.Goals as goal

pub returns : goal.returns
returns c = shop_checks
