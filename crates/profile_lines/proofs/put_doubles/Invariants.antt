-- `profile_lines::put_doubles` meets its contract: the first of the doubles are appended. Assumes nothing.
use Rattle.std.proofs.Common.{◌*◌, take}
use Rattle.profile_lines.specs.Text.{Appends}
use Rattle.profile_lines.specs.Fields.{double_fields, double_width}
use Rattle.profile_lines.proofs.put_doubles.Given as goal

abbrev pub invariant-loop-x : goal.invariant-loop-x
invariant-loop-x g l =
    Appends l.initial.line l.line (double_fields (take l.x-index l.doubles)) (double_width * l.x-index)
