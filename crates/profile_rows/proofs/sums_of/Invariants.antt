-- `profile_rows::sums_of` meets its contract: the first i sums are found. Assumes nothing.
use Rattle.std.proofs.Common.{◌≡◌, length, take}
use Rattle.profile_rows.specs.Rows.{sums}
use Rattle.profile_rows.proofs.sums_of.Given as goal

abbrev pub invariant-loop-i : goal.invariant-loop-i
invariant-loop-i l = record {
  whole : length l.t_sum ≡ 7;
  first : take l.i l.t_sum ≡ take l.i (sums l.t);
}
