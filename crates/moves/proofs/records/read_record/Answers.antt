-- `moves::records::read_record` meets its contract. Assumes nothing.
use Rattle.std.proofs.Common.{sym, ◌∙◌}
use Rattle.moves.specs.Records.{record_of, record_move}
use Rattle.moves.proofs.RecordLaws.{reads}
use Rattle.moves.proofs.records.read_record.Goals as goal

pub returns : goal.returns
unfolding record_of record_move
returns c =
    reads _ _ (rw (
      sym c.is_empty.ensures ∙ c.if-is_empty.false,
      sym c.is_malformed.ensures ∙ c.if-is_malformed.false,
      c.from.ensures,
      c.doubles_at.ensures,
    ))
