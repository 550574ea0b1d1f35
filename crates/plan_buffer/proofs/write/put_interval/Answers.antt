-- `plan_buffer::write::put_interval` meets its contract. Assumes nothing.
use mathlib.Core.Path.{ap, ◌∙◌}
use Rattle.plan_buffer.specs.Layout.{numeral}
use Rattle.plan_buffer.proofs.LayoutLaws.{interval_stored}
use Rattle.plan_buffer.proofs.write.put_interval.Goals as goal

pub returns : goal.returns
returns c =
    interval_stored _ _ _ _ _ _ _ _
    (c.from.ensures ∙ ap numeral c.kind_number.ensures)
    c.left_end.ensures
    c.right_end.ensures
    c.put.ensures
    c.put_profile.ensures
