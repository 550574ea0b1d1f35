-- What the bytes of a record mean: how many doubles of the move are handed over and how many the plan's buffer has, a
-- byte each, then as many doubles as can be handed over, the move's first, and a time. Definitions only.
use Rattle.std.specs.Prelude.{ℕ, ◌+◌, ◌*◌, min, List, get_or, take, replicate, Float}
use Rattle.std.specs.Float.Ieee.{neg}
use Rattle.doubles.specs.Constants.{1ᶠ}
use Rattle.encoding.specs.Encoding.{double_at, doubles_at}

-- the most doubles of a move that are handed over, and the most that a buffer has
abbrev pub move_most : ℕ
move_most = 16

abbrev pub buffer_most : ℕ
buffer_most = 200

-- where the time stands, and how long a record is
abbrev pub time_at : ℕ
time_at = 2 + 8 * move_most

abbrev pub record_length : ℕ
record_length = time_at + 8

abbrev pub minus1ᶠ : Float
minus1ᶠ = neg 1ᶠ

abbrev pub doubles_of : List ℕ → List Float
doubles_of b = doubles_at b 2 move_most

-- what is handed over of the move
unfoldable pub move_of : List ℕ → List Float
move_of b = take (min (get_or b 0 0) move_most) (doubles_of b)

-- the buffer before planning: every double is -1
unfoldable pub buffer_of : List ℕ → List Float
buffer_of b = take (min (get_or b 1 0) buffer_most) (replicate buffer_most minus1ᶠ)

abbrev pub time_of : List ℕ → Float
time_of b = double_at b time_at
