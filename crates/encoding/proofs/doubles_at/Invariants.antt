-- `encoding::doubles_at` meets its contract: the first i doubles are read. Assumes nothing.
use Rattle.std.proofs.Common.{◌≡◌, length, take}
use Rattle.encoding.specs.Encoding.{doubles_at}
use Rattle.encoding.proofs.doubles_at.Given as goal

abbrev pub invariant-loop-i : goal.invariant-loop-i
invariant-loop-i g l = record {
  whole : length l.doubles ≡ g.row.N;
  first : take l.i l.doubles ≡ doubles_at l.b l.at l.i;
}
