-- `algebraic::digits::rounded_by_digits` meets its contract. Assumes nothing.
use mathlib.Core.Path.{sym, ap, ◌∙◌}
use Prim.Native.Nat.{◌+◌, ◌*◌, ◌/◌}
use native.Mathlib.Numerals.{add-one}
use lib.Ieee.{nearest}
use Rattle.elementary.proofs.Binade.{rounds_by_floor}
use Rattle.algebraic.proofs.Orderings.{is_less, is_equal, is_greater}
use Rattle.algebraic.proofs.digits.rounded_by_digits.Goals as goal

pub returns-in-Less : goal.returns-in-Less
returns-in-Less g c =
    rounds_by_floor (g.R.Algebraic.real c.args.c) c.requires c.floor_by_digits-q.result
    c.floor_by_digits-q.ensures.1 _
    (sym (ap (nearest (c.floor_by_digits-q.result / 2))
    (is_less (g.R.Algebraic.real c.args.c (2 * (c.floor_by_digits-q.result / 2) + 1)) (sym c.in-Less.is ∙ c.compared.ensures))))

pub returns-in-Equal : goal.returns-in-Equal
returns-in-Equal g c =
    rounds_by_floor (g.R.Algebraic.real c.args.c) c.requires c.floor_by_digits-q.result
    c.floor_by_digits-q.ensures.1 _
    (sym (ap (nearest (c.floor_by_digits-q.result / 2))
    (is_equal (g.R.Algebraic.real c.args.c (2 * (c.floor_by_digits-q.result / 2) + 1)) (sym c.in-Equal.is ∙ c.compared.ensures))))

pub returns-in-Greater : goal.returns-in-Greater
returns-in-Greater g c =
    rounds_by_floor (g.R.Algebraic.real c.args.c) c.requires c.floor_by_digits-q.result
    c.floor_by_digits-q.ensures.1 _
    (add-one (c.floor_by_digits-q.result / 2)
    ∙ sym (ap (nearest (c.floor_by_digits-q.result / 2))
    (is_greater (g.R.Algebraic.real c.args.c (2 * (c.floor_by_digits-q.result / 2) + 1)) (sym c.in-Greater.is ∙ c.compared.ensures))))
