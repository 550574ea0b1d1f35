-- `arrival::scan::Axes::earliest` meets its contract. The invariant: the time is one that the scan has come to, and
-- none of the axes passed has it inside a stretch. The measure: right ends above the time, and axes to come. Assumes
-- nothing.
use Prim.Native.Nat.{suc, ◌+◌, ◌-◌, ◌*◌, ◌≤◌}
use mathlib.Core.Path.{◌≡◌}
use lib.ListN.{length}
use Rattle.arrival.specs.Axes.{axis_of}
use Rattle.arrival.specs.Steps.{above, Passed}
use Rattle.arrival.proofs.scan.Axes.earliest.Given as goal

abbrev pub invariant-loop-i : goal.invariant-loop-i
invariant-loop-i l =
    (l.axes.start ≤ l.axes.end)
    × (l.axes.end ≡ length l.self.durations.now)
    × Passed l.self.durations.now l.self.ends.now l.axes.start l.time

abbrev pub decreases-loop-i : goal.decreases-loop-i
decreases-loop-i l =
    above (axis_of l.self.durations.now l.self.ends.now) (length l.self.durations.now) l.time
    * suc (length l.self.durations.now)
    + (length l.self.durations.now - l.axes.start)
