-- `plan_buffer::write::write_plan` meets its contract. Assumes nothing.
use Rattle.plan_buffer.proofs.LayoutLaws.{plan_stored}
use borrow.Author.Rules.{rules}
use Rattle.plan_buffer.proofs.write.write_plan.Goals as goal

pub returns : goal.returns
returns c =
    plan_stored _ _ _ _ _ _ (search rules)
    c.put.ensures
    c.put_profile.ensures
    c.put_interval.ensures
    c.put_interval-2.ensures
