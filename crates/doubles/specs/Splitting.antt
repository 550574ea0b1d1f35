-- A double's leading digits, by Veltkamp's splitting. Definitions only.
use Rattle.std.specs.Prelude.{Float}
use Rattle.doubles.specs.Operators.{◌-ᶠ◌, ◌*ᶠ◌}

abbrev pub leading_digits : Float → Float → Float
leading_digits x splitter = x *ᶠ splitter -ᶠ (x *ᶠ splitter -ᶠ x)
