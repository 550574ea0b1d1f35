-- `block::removal::alike_removal` meets its contract. Assumes nothing.
use borrow.Author.Rules.{rules}
use borrow.Author.Tests.{tests}
use Rattle.block.specs.Selection.{alike}
use Rattle.std.proofs.lemmas.Iterator.{YieldsList-from_slice}
use Rattle.std.proofs.lemmas.Iterator.Search.{find_from_yields_List}
use Rattle.block.proofs.AlikeLaws.{first_alike}
use Rattle.block.proofs.removal.alike_removal.Goals as goal

pub returns : goal.returns
returns c =
    first_alike _ _ _ _ (λ x. x.now) _ _ (λ x y e. search rules) c.map.ensures.cases
    (find_from_yields_List (λ q. alike q.0 q.1) _ _ c.find-first.result c.find-first.ensures.ran
    (YieldsList-from_slice _ c.iter.ensures.rest) (λ x b q k. search (rules, tests)))
