-- The line for what is left of an input: whether `plan_moves` goes on, and its own line. Definitions only.
use Rattle.std.specs.Prelude.{ℕ, ◌+◌, Bool, cond, List, ◌++◌, eqb, length}
use Rattle.profile_lines.specs.Text.{ascii}
use Rattle.profile_lines.specs.Fields.{field}
use Rattle.moves.specs.Records.{record_of}
use Rattle.moves.specs.Lines.{line_of, line_length}
use Rattle.moves.specs.Replies.{reply_of, goes_on_after}

unfoldable pub word_of : Bool → List ℕ
word_of goes_on = cond goes_on (ascii "goes on") (ascii "ends")

-- the reply, which ends with its line feed; where it has no bytes, a line feed
unfoldable pub rest_of : List ℕ → List ℕ
rest_of reply = cond (eqb (length reply) 0) (ascii "\n") (field reply)

-- for the first record of these bytes
unfoldable pub answer_of : List ℕ → List ℕ
answer_of b = word_of (goes_on_after (record_of b)) ++ rest_of (reply_of line_of 1 (record_of b))

-- how many bytes the word and the whole line may take
abbrev pub word_width : ℕ
word_width = 7

abbrev pub answer_width : ℕ
answer_width = word_width + (line_length + 1)
