-- `plan_buffer::write::put` meets its contract. Assumes nothing.
use Rattle.plan_buffer.proofs.StoreLaws.{store_part}
use Rattle.plan_buffer.proofs.write.put.Goals as goal

pub returns : goal.returns
returns c = rw c.copy_from_slice.ensures.after (store_part _ _ _ c.requires)
