-- `shop_checks::refused_records` meets its contract. Assumes nothing.
use Rattle.shop_checks.proofs.RefusedRecords.{refused_records}
use Rattle.shop_checks.proofs.refused_records.Goals as goal

pub returns : goal.returns
returns c = refused_records
