-- `buffer_test::lines::is_unchanged` meets its contract. Assumes nothing.
use Rattle.std.proofs.Common.{rules, tests, ◌∙◌}
use Rattle.std.proofs.lemmas.Iterator.{YieldsList-from_slice}
use Rattle.std.proofs.lemmas.Iterator.Search.{all_from_yields_List}
use Rattle.doubles.specs.Operators.{◌==ᶠ◌}
use Rattle.buffer_test.specs.Records.{minus1ᶠ}
use Rattle.buffer_test.proofs.BufferLaws.{all_unchanged}
use Rattle.buffer_test.proofs.lines.is_unchanged.Goals as goal

pub returns : goal.returns
returns c =
    all_from_yields_List (λ x. x ==ᶠ minus1ᶠ) _ _ c.all.result c.all.ensures.ran
    (YieldsList-from_slice _ c.iter.ensures.rest) (λ x b q k. search (rules, tests))
    ∙ all_unchanged _
