-- `roots::list::Roots::ascending` meets its contract. The invariant: the first i values are in order. Assumes nothing.
use mathlib.Core.Path.{◌≡◌}
use Rattle.roots.proofs.Placing.{so_far}
use Rattle.roots.proofs.list.Roots.ascending.Given as goal

abbrev pub invariant-loop-i : goal.invariant-loop-i
invariant-loop-i l = l.values ≡ so_far l.i l.self.values
