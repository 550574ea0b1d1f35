-- `arrival_test::doubles_of`: the doubles so far. Assumes nothing.
use Rattle.std.proofs.Common.{◌≡◌, ◌≤◌, ◌/◌, length}
use Rattle.encoding.specs.Encoding.{doubles_at}
use Rattle.arrival_test.proofs.doubles_of.Given as goal

abbrev pub invariant-loop-i : goal.invariant-loop-i
invariant-loop-i g l =
    (l.doubles.items ≡ doubles_at l.fn.bytes 0 l.i) × (length l.doubles.items ≡ l.i) × (l.i ≤ length l.fn.bytes / 8)
