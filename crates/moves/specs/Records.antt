-- What the bytes of a record mean: a two-byte length, a version, then the move's doubles in the order of its layout,
-- the highest byte of each number first. Definitions only.
use Rattle.std.specs.Prelude.{ℕ, ◌+◌, ◌*◌, ◌≡◌, Bool, true, false, not, cond, ◌||◌, List, ◌↔◌, eqb, ltb, length}
use Rattle.std.specs.Prelude.{get_or, Option, None, Some, Result, Ok, Err}
use Rattle.encoding.specs.Encoding.{doubles_at}
use Rattle.refusals.specs.Numbers.{number_of as answer_number}
use Rattle.refusals.specs.declared.Refusal.{Refusal}
use Rattle.refusals.specs.declared.Refusal.TheVariants.{WrongRecord}
use Rattle.block.specs.Blocks.{Answer}
use Rattle.planner.specs.Layout.{move_length, move_of}
use Rattle.planner.specs.Answers.{answer_of}
use Rattle.planner.specs.declared.Move.{Move}

-- what the length says, 105: the version and the doubles; and a whole record, 107
abbrev pub record_body : ℕ
record_body = 1 + 8 * move_length

abbrev pub record_length : ℕ
record_length = 2 + record_body

abbrev pub record_version : ℕ
record_version = 1

-- the move of its doubles; every NaN's pattern is the one NaN
unfoldable pub record_move : List ℕ → Move
record_move b = move_of (doubles_at b 3 move_length)

-- the input ends inside the record, or its length or version is wrong
unfoldable pub is_malformed : List ℕ → Bool
is_malformed b =
    ltb (length b) record_length
    || not (eqb (get_or b 0 0 * 256 + get_or b 1 0) record_body)
    || not (eqb (get_or b 2 0) record_version)

-- the move of the record that these bytes, the input's next, begin with; none at the end of the input
unfoldable pub record_of : List ℕ → Option (Result Move Refusal)
record_of b = cond (eqb (length b) 0) None (Some (cond (is_malformed b) (Err WrongRecord) (Ok (record_move b))))

-- ---- document 01's answer and number for each case of a record

-- none at the end of the input, refusal 8, or the answer to the move
abbrev pub answer_to : Option (Result Move Refusal) → Option Answer
answer_to None = None
answer_to (Some (Err refusal)) = Some (Err refusal)
answer_to (Some (Ok x)) = Some (answer_of x)

-- the number of that answer: 0 for a plan
abbrev pub number_of : Option Answer → Option ℕ
number_of None = None
number_of (Some r) = Some (answer_number r)

-- what is read of the bytes b: the definition's record, whose number is 8 if and only if there are bytes and they begin
-- with no record
pub record Reads (b : List ℕ) (r : Option (Result Move Refusal)) : Type 0 where
  pub record_is : r ≡ record_of b
  pub eight : (number_of (answer_to r) ≡ Some 8) ↔ ((eqb (length b) 0 ≡ false) × (is_malformed b ≡ true))
