-- `block_test::lines::put_blockings` meets its contract: the first of the answers are appended. Assumes nothing.
use Rattle.std.proofs.Common.{ℕ, List, arith, Float}
use Rattle.profile_lines.specs.Fields.{field}
use Rattle.profile_lines.proofs.PutLaws.{nothing, then, within, one_more_text}
use Rattle.block.specs.Blocks.{blocking_of}
use Rattle.block_test.specs.Lines.{blocking_name}
use Rattle.block_test.proofs.lines.put_blockings.Goals as goal

pub loop-t-init : goal.loop-t-init
loop-t-init c = nothing

pub loop-t-preserved : goal.loop-t-preserved
loop-t-preserved c =
    let l = c.loop-t in
    let text : Float → List ℕ = λ (t : Float). field (blocking_name (blocking_of c.args.x t)) in
    within (omega arith)
    (rw (one_more_text text c.args.times.now l.t-index _ (omega arith)) at
    (then l.invariant (rw c.is_blocked.ensures.answer at c.put_blocking.ensures)))
