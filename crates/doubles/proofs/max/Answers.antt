-- `doubles::max` meets its contract. Assumes nothing. (A hint `unfolding` takes no name with ᶠ.)
use mathlib.Core.Path.{sym, ap}
use mathlib.Core.Bool.{Bool, cond}
use Rattle.doubles.specs.Functions.{maxᶠ}
use Rattle.doubles.proofs.max.Goals as goal

pub returns-then-is_nan : goal.returns-then-is_nan
unfolding maxᶠ
returns-then-is_nan c = rw (← c.is_nan.ensures.value, c.if-is_nan.true)

pub returns-then-x-y : goal.returns-then-x-y
unfolding maxᶠ
returns-then-x-y c =
    rw (← c.is_nan.ensures.value, c.if-is_nan.false)
    (ap (λ (b : Bool). cond b c.args.y c.args.x) (sym c.if-x-y.true))

pub returns-else-x-y : goal.returns-else-x-y
unfolding maxᶠ
returns-else-x-y c =
    rw (← c.is_nan.ensures.value, c.if-is_nan.false)
    (ap (λ (b : Bool). cond b c.args.y c.args.x) (sym c.if-x-y.false))
