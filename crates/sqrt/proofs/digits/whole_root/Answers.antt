-- `sqrt::digits::whole_root` meets its contract. Assumes nothing.
use Rattle.std.proofs.Common.{◌*◌, ◌%◌, ◌^◌, refl, arith}
use Rattle.sqrt.proofs.DigitRecurrence.{begins, root_lt, one, none, ends}
use Rattle.sqrt.proofs.digits.whole_root.Goals.{then-trial-next, else-trial-next}
use Rattle.sqrt.proofs.digits.whole_root.Goals as goal

pub loop-init : goal.loop-init
loop-init c = begins c.args.m (c.args.m * 2 ^ 10 % 2 ^ 64) c.requires refl

pub overflow_mul-next : goal.overflow_mul-next
overflow_mul-next c =
    omega (
      arith,
      root_lt c.loop.root c.loop.counter c.loop.invariant.digits
          c.loop.invariant.most,
    )

pub overflow_add-next : goal.overflow_add-next
overflow_add-next c =
    omega (
      arith,
      root_lt c.loop.root c.loop.counter c.loop.invariant.digits
          c.loop.invariant.most,
    )

pub overflow_mul-trial : goal.overflow_mul-trial
overflow_mul-trial c =
    omega (
      arith,
      root_lt c.loop.root c.loop.counter c.loop.invariant.digits
          c.loop.invariant.most,
    )

pub overflow_add-trial : goal.overflow_add-trial
overflow_add-trial c =
    omega (
      arith,
      root_lt c.loop.root c.loop.counter c.loop.invariant.digits
          c.loop.invariant.most,
    )

pub overflow_mul-root : goal.overflow_mul-root
overflow_mul-root c =
    omega (
      arith,
      root_lt c.loop.root c.loop.counter c.loop.invariant.digits c.loop.invariant.most,
    )

pub overflow_add-root : goal.overflow_add-root
overflow_add-root c =
    omega (
      arith,
      root_lt c.loop.root c.loop.counter c.loop.invariant.digits c.loop.invariant.most,
    )

pub overflow_mul-root-else-trial-next : goal.overflow_mul-root-else-trial-next
overflow_mul-root-else-trial-next c =
    omega (
      arith,
      root_lt c.loop.root c.loop.counter c.loop.invariant.digits c.loop.invariant.most,
    )

pub loop-preserved : goal.loop-preserved
loop-preserved c = elim c.if-trial-next.branch [
  | then-trial-next w ↦ rw (w.root-is, w.rest-is)
      (one _ _ _ _ _ c.loop.invariant c.loop-test.true w.if-trial-next.true)
  | else-trial-next w ↦ rw (w.root-is, w.rest-is)
      (none _ _ _ _ _ c.loop.invariant c.loop-test.true w.if-trial-next.false)
]

pub returns : goal.returns
returns c = record {
  sum = ends _ _ _ _ _ c.loop.invariant c.loop-test.false;
  least = c.loop.invariant.least;
}
