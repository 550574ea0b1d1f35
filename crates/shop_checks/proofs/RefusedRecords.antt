-- Refusal 8, by computation. Assumes nothing.
use mathlib.Core.Path.{refl}
use lib.Ieee.{of_bits, to_bits, neg}
use Rattle.encoding.specs.Encoding.{doubles_at}
use Rattle.planner.specs.Answers.{finite_start, finite_move, answer_of}
use Rattle.decimals.specs.Decimal.{decimal}
use Rattle.planner.specs.Layout.{move_of}
use Rattle.moves.specs.Records.{record_move, is_malformed, record_of}
use Rattle.moves.specs.Lines.{refusal_fields, answer_with, line_with}
use Rattle.shop_checks.specs.Records.{record_bytes}
use Rattle.shop_checks.specs.WorkedMoves.{RefusedRecords}

pub refused_records : RefusedRecords
unfolding record_bytes record_of is_malformed record_move move_of doubles_at line_with answer_with refusal_fields decimal answer_of
    finite_move finite_start to_bits of_bits neg
refused_records =
    record {
      cut = refl;
      cut_at_once = refl;
      wrong_length_law = refl;
      wrong_version = refl;
      before_1 = refl;
      nothing = refl;
      behind = refl;
    }
