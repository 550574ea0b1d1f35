-- `move_stream::batches::replies_to` meets its contract: the first `count` records are answered. Assumes nothing.
use Rattle.std.proofs.Common.{◌≡◌, ◌<◌, ◌-◌, ◌/◌, refl, sym, ap, ◌∙◌, arith, append-nil, length, length-append}
use borrow.Author.Count.{below_more}
use Rattle.arrayvec.specs.ArrayVec.{array_vec_len}
use Rattle.moves.specs.Lines.{line_with}
use Rattle.moves.specs.Records.{record_length}
use Rattle.move_stream.specs.Batches.{lines_of, go_on, Ready}
use Rattle.move_stream.proofs.BatchLaws.{not_false, chunk_is, goes_on_more, one_line_more}
use Rattle.move_stream.proofs.batches.replies_to.Goals as goal

pub loop-record-init : goal.loop-record-init
unfolding lines_of go_on
loop-record-init g c =
    record {
      count = refl;
      next = omega arith;
      appends = sym (append-nil c.args.lines.now.items);
      follows = refl;
      ready = λ k below. absurd (omega arith);
    }

pub loop-record-preserved : goal.loop-record-preserved
loop-record-preserved g c =
    let l = c.loop-record in
    let v = l.invariant in
    let k = l.batch.count in
    let b = c.args.bytes.now in
    let line = line_with g.F.Form.plan in
    let within : k < length b / record_length = omega (arith, c.as_chunks.ensures.front_len) in
    let lines = simp length-append at (ap length v.appends) in
    let room = g.row.N - array_vec_len c.args.lines.now in
    let ready : Ready line g.F.Form.LENGTH c.args.n b room k = record {
      follows = sym v.follows ∙ not_false _ c.if-not-batch.false;
      whole = omega arith;
      fits = omega (arith, lines, c.LENGTH.ensures, c.remaining_capacity.ensures);
      numbered = omega arith;
    } in
    let chunk = chunk_is b (length b / record_length) k within in
    let place : l.record-index ≡ k = sym v.count in
    let reply = c.put_reply.ensures in
    record {
      count = omega arith;
      next = omega arith;
      appends = one_line_more b k line c.args.n c.args.lines.now.items v.appends (rw (c.as_chunks.ensures.front, place, chunk) at reply.appends.items);
      follows = (rw (c.as_chunks.ensures.front, place, chunk) at reply.goes_on_value) ∙ goes_on_more b k ready.follows;
      ready = below_more (Ready line g.F.Form.LENGTH c.args.n b room) k v.ready ready;
    }
