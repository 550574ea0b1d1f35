-- What the bytes of a record mean, and the line that answers it. Definitions only.
use Rattle.std.specs.Prelude.{ℕ, List, [], ◌∷◌, ◌++◌, Float}
use Rattle.elementary.specs.Functions.{sqrt_of, cbrt_of, third_angle_cosine_of, third_angle_sine_of}
use Rattle.encoding.specs.Encoding.{double_at}
use Rattle.profile_lines.specs.Text.{ascii}
use Rattle.profile_lines.specs.Fields.{hex, double_fields}

-- its square root, its cube root, and the cosine and the sine of a third of the angle whose cosine it is
unfoldable pub answer_of : Float → List ℕ
answer_of x = hex (sqrt_of x) ++ double_fields (cbrt_of x ∷ third_angle_cosine_of x ∷ third_angle_sine_of x ∷ []) ++ ascii "\n"

-- a record is a double
abbrev pub line_of : List ℕ → List ℕ
line_of b = answer_of (double_at b 0)
