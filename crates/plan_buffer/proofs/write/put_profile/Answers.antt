-- `plan_buffer::write::put_profile` meets its contract. Assumes nothing.
use mathlib.Core.Path.{ap, ◌∙◌}
use Rattle.plan_buffer.specs.Layout.{numeral}
use Rattle.plan_buffer.proofs.LayoutLaws.{profile_stored}
use Rattle.plan_buffer.proofs.write.put_profile.Goals as goal

pub returns : goal.returns
returns c =
    profile_stored _ _ _ _ _ _ _ _ _
    (c.from-2.ensures ∙ ap numeral c.from.ensures)
    (c.from-4.ensures ∙ ap numeral c.from-3.ensures)
    (c.from-6.ensures ∙ ap numeral c.from-5.ensures)
    c.doubles-doubles.ensures
    c.put.ensures
    c.put-2.ensures
