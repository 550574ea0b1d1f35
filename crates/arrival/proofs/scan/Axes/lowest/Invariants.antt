-- `arrival::scan::Axes::lowest` meets its contract. The invariant: none of the axes passed has the time. Assumes
-- nothing.
use Prim.Native.Nat.{ℕ, ◌<◌}
use mathlib.Core.Path.{◌≡◌}
use mathlib.Core.Bool.{false}
use Rattle.arrival.specs.Axes.{axis_of, has}
use Rattle.arrival.proofs.scan.Axes.lowest.Given as goal

abbrev pub invariant-loop-i : goal.invariant-loop-i
invariant-loop-i l =
    (k : ℕ) → k < l.i → has (axis_of l.self.durations.now l.self.ends.now k) l.time ≡ false
