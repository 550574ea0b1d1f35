-- `get_profile::get_profile` meets its contract. Assumes nothing.
use mathlib.Core.Path.{◌≡◌}
use Rattle.get_profile.proofs.SearchLaws.{searched_all, over_all, single_step_answers, selection_answers}
use Rattle.get_profile.proofs.get_profile.Goals.{After-search-c}
use Rattle.get_profile.proofs.get_profile.Goals as goal

-- all stages of the move are searched
over : (c : After-search-c) → c.search-c.result ≡ searched_all c.args.input c.args.m
over c =
    over_all c.args.input c.args.m {kind = c.kind_of-kind.result}
    (rw (← c.start-start.ensures, ← c.target-target.ensures, ← c.new-k.ensures) c.kind_of-kind.ensures)
    c.stage_count.ensures
    (rw (
      ← c.start-start.ensures,
      ← c.target-target.ensures,
      ← c.new-k.ensures,
      ← c.new.ensures,
    ) c.search-c.ensures)

pub returns-then-has_zero_limit : goal.returns-then-has_zero_limit
returns-then-has_zero_limit c =
    single_step_answers _ _ c.has_zero_limit.ensures (over c.before.before.before) c.if-has_zero_limit.true
    (rw (← c.start-start.ensures) c.single_step_answer.ensures)

pub returns : goal.returns
returns c =
    selection_answers _ _ c.has_zero_limit.ensures (over c.before.before.before.before) c.if-has_zero_limit.false
    c.calculate_block.ensures
