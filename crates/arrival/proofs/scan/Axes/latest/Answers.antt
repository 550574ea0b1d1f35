-- `arrival::scan::Axes::latest` meets its contract. The invariant: the time is the largest of the durations passed.
-- Assumes nothing.
use Rattle.arrival.proofs.ScanLaws.{latest_of_none, latest_kept, latest_taken}
use Rattle.arrival.proofs.scan.Axes.latest.Goals.{then-time-duration, else-time-duration}
use Rattle.arrival.proofs.scan.Axes.latest.Goals as goal

pub loop-duration-init : goal.loop-duration-init
loop-duration-init c = latest_of_none _

pub loop-duration-preserved : goal.loop-duration-preserved
loop-duration-preserved c =
    let passed = c.loop-duration.invariant in
    elim c.if-time-duration.branch [
      | then-time-duration w ↦ rw w.time-is (latest_taken _ _ _ passed w.if-time-duration.true)
      | else-time-duration w ↦ rw w.time-is (latest_kept _ _ _ passed w.if-time-duration.false)
    ]
