-- `block_test::lines::put_blockings` meets its contract: the first of the answers are appended. Assumes nothing.
use Rattle.std.proofs.Common.{◌*◌, take}
use Rattle.profile_lines.specs.Text.{Appends}
use Rattle.block_test.specs.Lines.{blocking_fields}
use Rattle.block_test.proofs.lines.put_blockings.Given as goal

abbrev pub invariant-loop-t : goal.invariant-loop-t
invariant-loop-t l = Appends l.initial.line l.line (blocking_fields l.x (take l.t-index l.times)) (10 * l.t-index)
