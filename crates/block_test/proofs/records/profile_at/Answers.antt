-- `block_test::records::profile_at` meets its contract. Assumes nothing.
use Rattle.std.proofs.Common.{◌≡◌, ◌+◌, arith}
use Rattle.encoding.specs.Encoding.{doubles_at}
use Rattle.profile.specs.Boundary.{empty_profile, with_boundary}
use Rattle.profile.specs.With.{with_phases, with_names}
use Rattle.block_test.specs.Records.{profile_at}
use Rattle.block_test.proofs.records.profile_at.Goals as goal

pub returns : goal.returns
unfolding profile_at empty_profile with_phases with_names with_boundary doubles_at
returns c =
    let from : c.args.at + 0 ≡ c.args.at = omega arith in
    rw (
      c.direction_of.ensures,
      c.doubles_at.ensures,
      c.empty.ensures,
      from,
    )
