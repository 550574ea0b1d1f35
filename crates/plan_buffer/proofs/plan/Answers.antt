-- `plan_buffer::plan` meets its contract. Assumes nothing.
use mathlib.Core.Path.{ap, ◌∙◌}
use Rattle.planner.specs.Layout.{move_of}
use Rattle.plan_buffer.proofs.AnswerLaws.{wrong_move, short_buffer, refused_move, planned_move, holds_joinable}
use Rattle.plan_buffer.proofs.plan.Goals as goal

pub returns-in_default-clause-planned : goal.returns-in_default-clause-planned
returns-in_default-clause-planned c = wrong_move _ _ c.in_default.ensures.1

pub returns-then-buffer-lt-PLAN_LENGTH-clause-planned : goal.returns-then-buffer-lt-PLAN_LENGTH-clause-planned
returns-then-buffer-lt-PLAN_LENGTH-clause-planned c =
    short_buffer _ _ c.in-Ok.ensures.1.long c.if-buffer-lt-PLAN_LENGTH.true

pub returns-in-Err-clause-planned : goal.returns-in-Err-clause-planned
returns-in-Err-clause-planned c =
    refused_move _ _ c.in-Ok.ensures.1.long c.if-buffer-lt-PLAN_LENGTH.false _
    (c.from.ensures ∙ ap move_of c.in-Ok.ensures.1.same) _ _ c.from-in-Err.ensures c.in-Err.ensures.promised.0

pub returns-clause-planned : goal.returns-clause-planned
returns-clause-planned c =
    let promised = c.in-Ok-plan.ensures.promised in
    planned_move _ _ c.in-Ok.ensures.1.long c.if-buffer-lt-PLAN_LENGTH.false _
    (c.from.ensures ∙ ap move_of c.in-Ok.ensures.1.same) _ _ promised.0 promised.1 promised.2 c.write_plan.ensures

pub returns-clause-joinable : goal.returns-clause-joinable
returns-clause-joinable c =
    holds_joinable c.args.buffer.now _ _ c.in-Ok-plan.ensures.joinable c.write_plan.ensures
