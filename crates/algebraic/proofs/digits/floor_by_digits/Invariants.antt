-- `algebraic::digits::floor_by_digits` meets its contract. Assumes nothing.
use mathlib.Core.Path.{◌≡◌}
use Prim.Native.Nat.{◌+◌, ◌^◌, ◌≤◌}
use Rattle.elementary.specs.Nearest.{floor_from}
use Rattle.algebraic.proofs.digits.floor_by_digits.Given as goal

abbrev pub invariant-loop-d : goal.invariant-loop-d
invariant-loop-d g l =
    (l.n + 2 ^ l.d ≤ 2 ^ 54) × (floor_from (g.R.Algebraic.real l.c) l.d l.n ≡ floor_from (g.R.Algebraic.real l.c) 53 (2 ^ 53))
