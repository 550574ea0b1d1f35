-- `arrival::scan::Axes::latest` meets its contract. The invariant: the time is the largest of the durations passed.
-- Assumes nothing.
use Rattle.arrival.specs.Steps.{Latest}
use Rattle.arrival.proofs.scan.Axes.latest.Given as goal

abbrev pub invariant-loop-duration : goal.invariant-loop-duration
invariant-loop-duration l = Latest l.self.durations.now l.duration-index l.time
