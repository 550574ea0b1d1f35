-- What the bytes of a record mean, and the line that answers it. Definitions only.
use Rattle.std.specs.Prelude.{ℕ, List, ◌++◌, take}
use Rattle.encoding.specs.Encoding.{double_at}
use Rattle.profile_lines.specs.Text.{ascii}
use Rattle.profile_lines.specs.Fields.{double_fields}
use Rattle.decimals.specs.Decimal.{decimal}
use Rattle.roots.specs.List.{ascending_of}
use Rattle.roots.specs.Quartic.{quartic_of}
use Rattle.roots.specs.declared.list.Roots.{Roots}

-- a record is the four coefficients of a quartic: its roots that are at least 0, as the families read them
unfoldable pub roots_of : List ℕ → Roots
roots_of b = ascending_of (quartic_of (double_at b 0) (double_at b 8) (double_at b 16) (double_at b 24))

-- how many there are, and each
unfoldable pub answer_of : Roots → List ℕ
answer_of l = decimal l.count ++ double_fields (take l.count l.values) ++ ascii "\n"

abbrev pub line_of : List ℕ → List ℕ
line_of b = answer_of (roots_of b)
