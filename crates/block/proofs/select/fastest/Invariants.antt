-- `block::select::fastest` meets its contract. The invariant: the index is that of the least total of the profiles
-- passed. Assumes nothing.
use Prim.Native.Nat.{◌-◌, ◌<◌}
use mathlib.Core.Path.{◌≡◌}
use Rattle.block.specs.Selection.{slot, fastest}
use Rattle.block.proofs.select.fastest.Given as goal

abbrev pub invariant-loop-j : goal.invariant-loop-j
invariant-loop-j g l = (l.index ≡ fastest (slot l.profiles) (l.j - 1)) × (l.index < l.j)
