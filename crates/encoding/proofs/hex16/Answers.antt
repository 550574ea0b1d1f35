-- `encoding::hex16` meets its contract: the last i digits are found. Assumes nothing.
use Rattle.std.proofs.Common.{arith}
use Rattle.std.proofs.Math.ListN.{length-set}
use Rattle.encoding.proofs.Laws.{digit_before, digit_less}
use Rattle.encoding.proofs.hex16.Goals as goal

pub loop-i-preserved : goal.loop-i-preserved
loop-i-preserved c =
    let l = c.loop-i in
    record {
      whole = simp length-set l.invariant.whole;
      left = rw l.invariant.left (digit_less c.args.w l.i);
      last = rw (c.hex_digit.ensures, l.invariant.left) (digit_before c.args.w l.i l.digits (omega arith) l.invariant.whole l.invariant.last);
    }
