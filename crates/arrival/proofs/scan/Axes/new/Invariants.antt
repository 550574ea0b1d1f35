-- `arrival::scan::Axes::new` meets its contract. The invariant: none of the axes passed is wrong. Assumes nothing.
use Prim.Native.Nat.{ℕ, ◌<◌}
use mathlib.Core.Path.{◌≡◌}
use mathlib.Core.Bool.{false}
use Rattle.arrival.specs.Axes.{axis_of, wrong_axis}
use Rattle.arrival.proofs.scan.Axes.new.Given as goal

abbrev pub invariant-loop-i : goal.invariant-loop-i
invariant-loop-i l = (k : ℕ) → k < l.i → wrong_axis (axis_of l.durations l.ends k) ≡ false
