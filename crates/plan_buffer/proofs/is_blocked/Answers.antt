-- `plan_buffer::is_blocked` meets its contract. Assumes nothing.
use Rattle.plan_buffer.proofs.AnswerLaws.{is_refused, asked_short, asked_answered, asked_refused}
use Rattle.plan_buffer.proofs.is_blocked.Goals as goal

pub returns-then-buffer-lt-PLAN_LENGTH-clause-number : goal.returns-then-buffer-lt-PLAN_LENGTH-clause-number
returns-then-buffer-lt-PLAN_LENGTH-clause-number c = asked_short _ _ c.if-buffer-lt-PLAN_LENGTH.true

pub returns-in_err-blocking-clause-number : goal.returns-in_err-blocking-clause-number
returns-in_err-blocking-clause-number c =
    rw (is_refused _ _ c.from_residual.ensures.1)
    (asked_refused _ _ _ c.if-buffer-lt-PLAN_LENGTH.false c.in_err-blocking.ensures)

pub returns-clause-number : goal.returns-clause-number
returns-clause-number c = asked_answered _ _ _ c.if-buffer-lt-PLAN_LENGTH.false c.in_ok-blocking.ensures
