-- `families_test::records::after_family` meets its contract. Assumes nothing.
use Rattle.families_test.proofs.StageLaws.{family_law}
use Rattle.families_test.proofs.records.after_family.Goals as goal

pub returns : goal.returns
returns c =
    family_law _ _ _
    (rw (c.start_of-start.ensures, c.target_of-target.ensures, c.limits_of.ensures) at c.new-k.ensures)
    c.stages_of-kind.ensures
    (rw c.directed.ensures at c.before_turning-m.ensures)
    (rw (c.start_of-start.ensures, c.target_of-target.ensures) at c.search.ensures)
