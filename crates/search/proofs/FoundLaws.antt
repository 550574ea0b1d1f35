-- Whether anything was found. Assumes nothing.
use mathlib.Core.Path.{◌≡◌}
use mathlib.Core.Bool.{true}
use borrow.Author.Tests.{lt-ltb}
use Rattle.candidates.specs.declared.Try.{Try}
use Rattle.candidates.specs.List.{added}
use Rattle.candidates.specs.declared.Candidates.{Candidates}
use Rattle.candidates.proofs.CountLaws.{added_counts}
use Rattle.search.specs.Stages.{is_found}

-- with an accepted try something is
pub added_found : (c : Candidates) (x : Try) → is_found (added c x) ≡ true
added_found c x = lt-ltb 0 (added c x).current_index (added_counts c x)
