-- `sqrt::digits::whole_root` meets its contract. Assumes nothing.
use Rattle.std.proofs.Common.{◌-◌}
use Rattle.sqrt.proofs.DigitRecurrence.{Partial}
use Rattle.sqrt.proofs.digits.whole_root.Given as goal

abbrev pub invariant-loop : goal.invariant-loop
invariant-loop l = Partial l.m l.left l.root l.rest l.counter

abbrev pub decreases-loop : goal.decreases-loop
decreases-loop l = 53 - l.counter
