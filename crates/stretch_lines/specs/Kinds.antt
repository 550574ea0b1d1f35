-- The name of a stretch's kind, and how many bytes it and both ends may take. Definitions only.
use Rattle.std.specs.Prelude.{ℕ, ◌*◌, List}
use Rattle.profile_lines.specs.Text.{ascii}
use Rattle.profile_lines.specs.Fields.{double_width}
use Rattle.block.specs.declared.Stretch.{Stretch}
use Rattle.block.specs.declared.Stretch.TheVariants.{Nothing, Between, From}

abbrev pub kind_of : Stretch → List ℕ
kind_of Nothing = ascii "nothing"
kind_of (Between left right) = ascii "between"
kind_of (From left) = ascii "from"

abbrev pub kind_width : ℕ
kind_width = 8

abbrev pub both_ends_width : ℕ
both_ends_width = double_width * 2
