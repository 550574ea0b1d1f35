-- `families_test::lines::put_profiles` meets its contract: the first of the profiles are appended. Assumes nothing.
use Rattle.std.proofs.Common.{◌*◌, take}
use Rattle.std.specs.List.{flat_map}
use Rattle.profile_lines.specs.Text.{Appends}
use Rattle.profile_lines.specs.Fields.{profile_fields, profile_width}
use Rattle.families_test.proofs.lines.put_profiles.Given as goal

abbrev pub invariant-loop-q : goal.invariant-loop-q
invariant-loop-q l =
    Appends l.initial.line l.line (flat_map profile_fields (take l.q-index l.profiles)) (profile_width * l.q-index)
