-- `doubles::inverse_root_guess` meets its contract. Assumes nothing.
use Rattle.doubles.specs.Guess.{inverse_root_guess}
use Rattle.std.proofs.Common.{refl, arith}
use Rattle.bits.proofs.Patterns.{not_nan_bits}
use Rattle.doubles.proofs.guess.inverse_root_guess.Goals as goal

pub float_from_bits-result : goal.float_from_bits-result
float_from_bits-result c = not_nan_bits _ (omega arith)

pub returns : goal.returns
unfolding inverse_root_guess
returns c = refl
