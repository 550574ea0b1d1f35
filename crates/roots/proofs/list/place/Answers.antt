-- `roots::list::place` meets its contract. Assumes nothing.
use borrow.Author.Rules.{rules}
use mathlib.Core.Path.{sym, ◌∙◌}
use Rattle.roots.specs.List.{placed_at}
use Rattle.roots.proofs.Placing.{placed_before, moved_is}
use Rattle.roots.proofs.list.place.Goals as goal

pub returns-in-Some : goal.returns-in-Some
unfolding placed_at
returns-in-Some c =
    rw (placed_before _ _ _ (sym c.place_of.ensures ∙ c.in-Some.is), c.moved.ensures)
    (moved_is c.args.values.now (search rules) c.args.i c.in-Some.to c.requires (search rules))
