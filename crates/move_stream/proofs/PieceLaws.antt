-- Records are answered as if the input had come in one piece. Assumes nothing.
use Prim.Native.Nat.{ℕ, zero, suc, ◌+◌, ◌*◌, ◌≤◌}
use mathlib.Core.Path.{◌≡◌, refl, sym, ap, ◌∙◌}
use mathlib.Core.Bool.{Bool, true, false, ◌&&◌}
use mathlib.Core.List.{List, ◌++◌, append_assoc, append-nil}
use native.Mathlib.Omega.{arith}
use native.Mathlib.Numerals.{unary_clauses}
use lib.ListN.{length, take, drop, length-drop}
use lib.Seq.{drop-append-le, take-append-le, drop-drop}
use Rattle.block.specs.Blocks.{Answer}
use Rattle.moves.specs.Records.{record_length, record_of}
use Rattle.moves.specs.Replies.{reply_of, goes_on_after}
use Rattle.move_stream.specs.Batches.{record_at, lines_of, go_on, InPieces}

and_assoc : (a b c : Bool) → ((a && b) && c) ≡ (a && (b && c))
and_assoc true b c = refl
and_assoc false b c = refl

and_true : (a : Bool) → (a && true) ≡ a
and_true true = refl
and_true false = refl

module _ (b more : List ℕ) where
  -- what follows a whole record doesn't change it
  same_record : (k : ℕ) → k * record_length + record_length ≤ length b → record_at (b ++ more) k ≡ record_at b k
  unfolding record_at
  same_record k h =
      let from : k * record_length ≤ length b = omega arith in
      let rest : record_length ≤ length (drop (k * record_length) b) = simp length-drop (omega arith) in
      ap record_of
      (ap (take record_length) (drop-append-le (k * record_length) b more from)
      ∙ take-append-le record_length (drop (k * record_length) b) more rest)

  -- and those before it don't count
  later_record : (k j : ℕ) → k * record_length ≤ length b
      → record_at (b ++ more) (k + j) ≡ record_at (drop (k * record_length) b ++ more) j
  unfolding record_at
  later_record k j h =
      let sum : (k + j) * record_length ≡ k * record_length + j * record_length = omega arith in
      ap (λ (l : List ℕ). record_of (take record_length l))
      (ap (λ (i : ℕ). drop i (b ++ more)) sum
      ∙ sym (drop-drop (j * record_length) (k * record_length) (b ++ more))
      ∙ ap (drop (j * record_length)) (drop-append-le (k * record_length) b more h))

  first_follow : (k : ℕ) → k * record_length ≤ length b → go_on (b ++ more) k ≡ go_on b k
  unfolding go_on
  first_follow zero h = refl
  first_follow (suc k) h =
      rw (first_follow k (omega arith), same_record k (omega arith))

  all_follow : (k m : ℕ) → k * record_length ≤ length b
      → go_on (b ++ more) (k + m) ≡ (go_on b k && go_on (drop (k * record_length) b ++ more) m)
  unfolding go_on
  all_follow k zero h = simp unary_clauses (first_follow k h ∙ sym (and_true (go_on b k)))
  all_follow k (suc m) h =
      let rest = drop (k * record_length) b ++ more in
      let next : k + suc m ≡ suc (k + m) = omega arith in
      rw (next, all_follow k m h, later_record k m h) (and_assoc (go_on b k) (go_on rest m) (goes_on_after (record_at rest m)))

  module _ (line : ℕ → Answer → List ℕ) (n : ℕ) where
    first_lines : (k : ℕ) → k * record_length ≤ length b → lines_of line n (b ++ more) k ≡ lines_of line n b k
    unfolding lines_of
    first_lines zero h = refl
    first_lines (suc k) h =
        rw (first_lines k (omega arith), same_record k (omega arith))

    all_lines : (k m : ℕ) → k * record_length ≤ length b
        → lines_of line n (b ++ more) (k + m)
        ≡ lines_of line n b k ++ lines_of line (n + k) (drop (k * record_length) b ++ more) m
    unfolding lines_of
    all_lines k zero h = simp unary_clauses (first_lines k h ∙ sym (append-nil (lines_of line n b k)))
    all_lines k (suc m) h =
        let rest = drop (k * record_length) b ++ more in
        let next : k + suc m ≡ suc (k + m) = omega arith in
        let number : n + (k + m) ≡ n + k + m = omega arith in
        rw (next, all_lines k m h, later_record k m h, number)
        (append_assoc (lines_of line n b k) (lines_of line (n + k) rest m) (reply_of line (n + k + m) (record_at rest m)))

    pub in_pieces : (k m : ℕ) → k * record_length ≤ length b → InPieces line n b more k m
    in_pieces k m h = record { lines = all_lines k m h; follows = all_follow k m h }
