-- The line of a record is the definition's. Assumes nothing.
use Rattle.profile_lines.proofs.PutLaws.{then}
use Rattle.block_test.specs.Lines.{line_of}
use Rattle.block_test.proofs.BlocksAnswersLINE_LENGTH.line.Goals as goal

pub returns : goal.returns
unfolding line_of
returns c =
    let text = then (then (then
    c.put_answer.ensures
    c.put_blockings.ensures)
    c.put_blockings-2.ensures)
    c.put.ensures in
    rw (
      c.of-block.ensures,
      c.selected_of-answer.ensures,
      c.given_of.ensures,
      c.times_of-times.ensures,
      c.new-line.ensures,
    ) at
    text.items
