-- What the proofs of the fields and of the lines rest on: text appended piece by piece is appended whole.
use Rattle.profile_lines.proofs.PutLaws.{nothing, then, within}
use Rattle.moves.proofs.CountLaws.{count_field}

pub ruleset putting = (nothing, then, within, count_field)
