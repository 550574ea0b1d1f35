-- `profile_test::records::profile_of` meets its contract. Assumes nothing.
use Rattle.profile.specs.Boundary.{with_boundary}
use Rattle.profile.specs.With.{with_phases}
use Rattle.encoding.specs.Encoding.{doubles_at}
use Rattle.profile_test.specs.Records.{start_of, target_of, profile_of}
use Rattle.profile_test.proofs.records.profile_of.Goals as goal

pub returns : goal.returns
unfolding profile_of start_of target_of doubles_at with_boundary with_phases
returns c =
    rw (
      c.with_boundary-q.ensures,
      c.empty.ensures,
      c.doubles_at.ensures,
      c.doubles_at-q.ensures,
    )
