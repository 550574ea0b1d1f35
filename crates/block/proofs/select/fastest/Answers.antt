-- `block::select::fastest` meets its contract. Assumes nothing.
use native.Mathlib.Omega.{arith}
use Rattle.block.proofs.ArrayLaws.{next_found, found_stays}
use Rattle.block.proofs.select.fastest.Goals.{then-total, else-total}
use Rattle.block.proofs.select.fastest.Goals as goal

pub loop-j-preserved : goal.loop-j-preserved
loop-j-preserved g c =
    let before = c.loop-j.invariant in
    elim c.if-total.branch [
      | then-total w ↦
          rw w.index-is (
            next_found c.args.profiles.now _ c.told-profiles c.loop-j.auto.j c.loop-j-test.true before.0 before.1
                c.total.ensures c.total-in-loop-j.ensures w.if-total.true,
            omega arith,
          )
      | else-total w ↦
          rw w.index-is (
            found_stays c.args.profiles.now _ c.told-profiles c.loop-j.auto.j c.loop-j-test.true before.0 before.1
                c.total.ensures c.total-in-loop-j.ensures w.if-total.false,
            omega arith,
          )
    ]
