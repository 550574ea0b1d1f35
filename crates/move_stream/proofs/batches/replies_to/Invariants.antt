-- `move_stream::batches::replies_to` meets its contract: the first `count` records are answered. Assumes nothing.
use Rattle.std.proofs.Common.{◌≡◌, ℕ, ◌+◌, ◌-◌, ◌<◌, ◌≤◌, ◌++◌}
use Rattle.arrayvec.specs.ArrayVec.{array_vec_len}
use Rattle.moves.specs.Lines.{line_with}
use Rattle.move_stream.specs.Batches.{lines_of, go_on, Ready}
use Rattle.move_stream.proofs.batches.replies_to.Given as goal

abbrev pub invariant-loop-record : goal.invariant-loop-record
invariant-loop-record g l =
    let line = line_with g.F.Form.plan in
    record {
      count : l.batch.count ≡ l.record-index;
      next : l.n + l.batch.count ≤ 0xffff_ffff_ffff_ffff;
      appends : l.lines.items ≡ l.initial.lines.items ++ lines_of line l.n l.bytes l.batch.count;
      follows : l.batch.goes_on ≡ go_on l.bytes l.batch.count;
      ready : (k : ℕ) → k < l.batch.count
          → Ready line g.F.Form.LENGTH l.n l.bytes (g.row.N - array_vec_len l.initial.lines) k;
    }
