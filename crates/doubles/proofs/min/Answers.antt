-- `doubles::min` meets its contract. Assumes nothing. (A hint `unfolding` takes no name with ᶠ.)
use mathlib.Core.Path.{sym, ap}
use mathlib.Core.Bool.{Bool, cond}
use Rattle.doubles.specs.Functions.{minᶠ}
use Rattle.doubles.proofs.min.Goals as goal

pub returns-then-is_nan : goal.returns-then-is_nan
unfolding minᶠ
returns-then-is_nan c = rw (← c.is_nan.ensures.value, c.if-is_nan.true)

pub returns-then-y-x : goal.returns-then-y-x
unfolding minᶠ
returns-then-y-x c =
    rw (← c.is_nan.ensures.value, c.if-is_nan.false)
    (ap (λ (b : Bool). cond b c.args.y c.args.x) (sym c.if-y-x.true))

pub returns-else-y-x : goal.returns-else-y-x
unfolding minᶠ
returns-else-y-x c =
    rw (← c.is_nan.ensures.value, c.if-is_nan.false)
    (ap (λ (b : Bool). cond b c.args.y c.args.x) (sym c.if-y-x.false))
