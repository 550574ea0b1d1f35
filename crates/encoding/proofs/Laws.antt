-- What the functions of `encoding` rest on. Assumes nothing.
use Rattle.std.proofs.Common.{◌≡◌, ℕ, zero, suc, ◌+◌, ◌-◌, ◌*◌, ◌/◌, ◌%◌, ◌^◌, ◌<◌, arith}
use Rattle.std.proofs.Common.{List, [], length, take, drop, get_or, add-one}
use Rattle.std.proofs.Common.{take-suc-set}
use Rattle.std.proofs.lemmas.List.{drop-set, get_or-take}
use Rattle.std.proofs.Math.Nat.{div-div-eq-div-mul, pow-suc}
use Rattle.std.proofs.Math.ListN.{set}
use Rattle.std.specs.Int.{from_be_bytes, w64}
use Rattle.std.specs.Simd.{first_chunks}
use Rattle.std.specs.Float.Ieee.{Float}
use Rattle.encoding.specs.Encoding.{big_endian, double_at, doubles_at, hex_digit, hex_digits}

-- std's number of eight bytes is the definition's
pub big_endian_is : (b : List ℕ) → from_be_bytes w64 b ≡ big_endian b
big_endian_is b = omega arith

-- the first of a list's chunks of eight bytes has the list's number
pub first_word : (l : List ℕ) (k : ℕ) → 0 < k → from_be_bytes w64 (get_or (first_chunks 8 k l) 0 []) ≡ big_endian l
first_word l zero h = absurd (omega arith)
first_word l (suc k) h =
    let byte : (i : ℕ) → i < 8 → get_or (take 8 l) i 0 ≡ get_or l i 0 = λ i below. get_or-take 8 l i 0 below in
    rw (
      big_endian_is (take 8 l),
      byte 0 (omega arith),
      byte 1 (omega arith),
      byte 2 (omega arith),
      byte 3 (omega arith),
      byte 4 (omega arith),
      byte 5 (omega arith),
      byte 6 (omega arith),
      byte 7 (omega arith),
    )

-- one more double behind the first i
pub one_more : (b : List ℕ) (at i : ℕ) (l : List Float) → i < length l → take i l ≡ doubles_at b at i
    → take (i + 1) (set l i (double_at b (at + 8 * i))) ≡ doubles_at b at (i + 1)
unfolding doubles_at
one_more b at i l h p = rw (add-one, take-suc-set l i (double_at b (at + 8 * i)) h, p)

-- one more digit before the last i
pub digit_before : (w i : ℕ) (d : List ℕ) → i < 16 → length d ≡ 16 → drop (16 - i) d ≡ hex_digits i w
    → drop (16 - (i + 1)) (set d (15 - i) (hex_digit (w / 16 ^ i % 16))) ≡ hex_digits (i + 1) w
digit_before w i d h n p =
    let place : 16 - (i + 1) ≡ 15 - i = omega arith in
    let next : 15 - i + 1 ≡ 16 - i = omega arith in
    rw (place, drop-set d (15 - i) (hex_digit (w / 16 ^ i % 16)) (omega arith), next, p, add-one)

pub digit_less : (w i : ℕ) → w / 16 ^ i / 16 ≡ w / 16 ^ (i + 1)
digit_less w i = rw (div-div-eq-div-mul w (16 ^ i) 16, add-one, pow-suc 16 i)
