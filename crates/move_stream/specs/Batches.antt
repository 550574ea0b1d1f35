-- Many records at once: their lines one behind the other, and how many of them are answered. Definitions only.
use Rattle.std.specs.Prelude.{ℕ, zero, suc, ◌+◌, ◌-◌, ◌*◌, ◌≤◌, ◌<◌, ◌≡◌, Bool, true, ◌&&◌, List, [], ◌++◌, length}
use Rattle.std.specs.Prelude.{take, drop, Option, Result}
use Rattle.refusals.specs.declared.Refusal.{Refusal}
use Rattle.planner.specs.declared.Move.{Move}
use Rattle.arrayvec.specs.ArrayVec.{ArrayVec, array_vec_len}
use Rattle.block.specs.Blocks.{Answer}
use Rattle.moves.specs.Records.{record_length, record_of}
use Rattle.moves.specs.Replies.{reply_of, goes_on_after}
use Rattle.move_stream.specs.declared.batches.Batch.{Batch}

-- record number k of an input, counted from 0: as many bytes as a record has, or all that are left
unfoldable pub record_at : List ℕ → ℕ → Option (Result Move Refusal)
record_at b k = record_of (take record_length (drop (k * record_length) b))

-- the lines of the first k records, which are numbered from n
unfoldable pub lines_of : (ℕ → Answer → List ℕ) → ℕ → List ℕ → ℕ → List ℕ
lines_of line n b zero = []
lines_of line n b (suc k) = lines_of line n b k ++ reply_of line (n + k) (record_at b k)

-- whether behind each of the first k records another may follow
unfoldable pub go_on : List ℕ → ℕ → Bool
go_on b zero = true
go_on b (suc k) = go_on b k && goes_on_after (record_at b k)

-- record number k is answered, by a line of at most `width` bytes: it may follow those before it, it is whole, the
-- longest line has room behind theirs, and its own number is no u64's last
pub record Ready (line : ℕ → Answer → List ℕ) (width n : ℕ) (b : List ℕ) (room k : ℕ) : Type 0 where
  pub follows : go_on b k ≡ true
  pub whole : k * record_length + record_length ≤ length b
  pub fits : length (lines_of line n b k) + width ≤ room
  pub numbered : n + k < 0xffff_ffff_ffff_ffff

-- old becomes new, of a vector of this capacity: the lines of as many records as can be answered, up to the first that
-- can't, and whether another may follow these
pub record Answered (line : ℕ → Answer → List ℕ) (width capacity n : ℕ) (b : List ℕ) (old new : ArrayVec ℕ) (r : Batch)
    : Type 0 where
  pub ready : (k : ℕ) → k < r.count → Ready line width n b (capacity - array_vec_len old) k
  pub ends : Ready line width n b (capacity - array_vec_len old) r.count → ⊥
  pub used : r.count * record_length ≤ length b
  pub next : n + r.count ≤ 0xffff_ffff_ffff_ffff
  pub appends : new.items ≡ old.items ++ lines_of line n b r.count
  pub follows : r.goes_on ≡ go_on b r.count

-- an input that comes in two pieces, b and then more: the lines of k records of b, and then of m records of what is
-- left of b with more behind it, are those of the whole, and so is whether another may follow
pub record InPieces (line : ℕ → Answer → List ℕ) (n : ℕ) (b more : List ℕ) (k m : ℕ) : Type 0 where
  pub lines : lines_of line n (b ++ more) (k + m)
      ≡ lines_of line n b k ++ lines_of line (n + k) (drop (k * record_length) b ++ more) m
  pub follows : go_on (b ++ more) (k + m) ≡ (go_on b k && go_on (drop (k * record_length) b ++ more) m)
