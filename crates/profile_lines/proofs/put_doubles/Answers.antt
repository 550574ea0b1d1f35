-- `profile_lines::put_doubles` meets its contract: the first of the doubles are appended. Assumes nothing.
use Rattle.std.proofs.Common.{arith}
use Rattle.profile_lines.proofs.PutLaws.{then, within, one_more_double}
use Rattle.profile_lines.proofs.put_doubles.Goals as goal

pub loop-x-preserved : goal.loop-x-preserved
loop-x-preserved g c =
    let l = c.loop-x in
    within (omega arith)
    (rw (one_more_double c.args.doubles.now l.x-index _ (omega arith)) at (then l.invariant c.put_double.ensures))
