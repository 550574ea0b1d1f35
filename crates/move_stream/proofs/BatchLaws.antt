-- A turn of the loop that answers records. Assumes nothing.
use Rattle.std.proofs.Common.{◌≡◌, ℕ, zero, suc, ◌+◌, ◌*◌, ◌<◌, Bool, true, false, not, refl, sym, ap, ◌∙◌, arith, add-one}
use Rattle.std.proofs.Common.{List, [], ◌++◌, append_assoc, take, drop, get_or}
use Rattle.std.proofs.Math.Seq.{drop-drop}
use Rattle.std.specs.Simd.{first_chunks}
use Rattle.block.specs.Blocks.{Answer}
use Rattle.moves.specs.Records.{record_length, record_of}
use Rattle.moves.specs.Replies.{reply_of, goes_on_after}
use Rattle.move_stream.specs.Batches.{record_at, lines_of, go_on}

pub not_false : (x : Bool) → not x ≡ false → x ≡ true
not_false true e = refl
not_false false e = sym e

-- chunk number i of a list
chunk_at : (m i : ℕ) (xs : List ℕ) → i < m
    → get_or (first_chunks record_length m xs) i [] ≡ take record_length (drop (i * record_length) xs)
chunk_at zero i xs h = absurd (omega arith)
chunk_at (suc m) zero xs h = refl
chunk_at (suc m) (suc i) xs h =
    let next : record_length + i * record_length ≡ suc i * record_length = omega arith in
    chunk_at m i (drop record_length xs) (omega arith)
    ∙ ap (take record_length) (drop-drop (i * record_length) record_length xs ∙ ap (λ (j : ℕ). drop j xs) next)

module _ (b : List ℕ) (m k : ℕ) (within : k < m) where
  pub chunk_is : record_of (get_or (first_chunks record_length m b) k []) ≡ record_at b k
  unfolding record_at
  chunk_is = ap record_of (chunk_at m k b within)

module _ (b : List ℕ) (k : ℕ) where
  pub goes_on_more : go_on b k ≡ true → goes_on_after (record_at b k) ≡ go_on b (k + 1)
  unfolding go_on
  goes_on_more e = rw (add-one, e)

  module _ (line : ℕ → Answer → List ℕ) (n : ℕ) where
    -- one line more behind the lines of k records
    pub one_line_more : (old : List ℕ) {mid new : List ℕ} → mid ≡ old ++ lines_of line n b k
        → new ≡ mid ++ reply_of line (n + k) (record_at b k) → new ≡ old ++ lines_of line n b (k + 1)
    unfolding lines_of
    one_line_more old p q = rw (q, p, add-one) (append_assoc old (lines_of line n b k) (reply_of line (n + k) (record_at b k)))
