-- `block::removal::removal` meets its contract. Assumes nothing.
use mathlib.Core.Path.{◌∙◌}
use Rattle.block.proofs.ArrayLaws.{size_of_law, by_first, by_second, by_third, by_fourth}
use Rattle.block.proofs.DirectionLaws.{other_is}
use Rattle.block.proofs.removal.removal.Goals as goal

pub returns-then-near-ne : goal.returns-then-near-ne
returns-then-near-ne c =
    by_first c.args.profiles _ (size_of_law 4 c.args.profiles _ c.well_formed.0)
    c.total-t0.ensures c.total-t1.ensures
    c.total-t2.ensures c.total-t3.ensures
    c.near.ensures (c.ne.ensures ∙ other_is _ _) c.if-near-ne.true

pub returns-then-near-ne-2 : goal.returns-then-near-ne-2
returns-then-near-ne-2 c =
    by_second c.args.profiles _ (size_of_law 4 c.args.profiles _ c.well_formed.0)
    c.total-t0.ensures c.total-t1.ensures
    c.total-t2.ensures c.total-t3.ensures
    c.near.ensures (c.ne.ensures ∙ other_is _ _) c.if-near-ne.false
    c.near-2.ensures (c.ne-2.ensures ∙ other_is _ _) c.if-near-ne-2.true

pub returns-then-near : goal.returns-then-near
returns-then-near c =
    by_third c.args.profiles _ (size_of_law 4 c.args.profiles _ c.well_formed.0)
    c.total-t0.ensures c.total-t1.ensures
    c.total-t2.ensures c.total-t3.ensures
    c.near.ensures (c.ne.ensures ∙ other_is _ _) c.if-near-ne.false
    c.near-2.ensures (c.ne-2.ensures ∙ other_is _ _) c.if-near-ne-2.false
    c.near-3.ensures c.if-near.true

pub returns : goal.returns
returns c =
    by_fourth c.args.profiles _ (size_of_law 4 c.args.profiles _ c.well_formed.0)
    c.total-t0.ensures c.total-t1.ensures
    c.total-t2.ensures c.total-t3.ensures
    c.near.ensures (c.ne.ensures ∙ other_is _ _) c.if-near-ne.false
    c.near-2.ensures (c.ne-2.ensures ∙ other_is _ _) c.if-near-ne-2.false
    c.near-3.ensures c.if-near.false c.alike_removal.ensures
