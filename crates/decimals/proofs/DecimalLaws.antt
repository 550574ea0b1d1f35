-- The decimal digits that `io::decimal` gives are those of the definition. Assumes nothing.
use Prim.Native.Nat.{ℕ, zero, suc, ◌+◌, ◌-◌, ◌^◌, ◌≤◌, ◌<◌}
use mathlib.Core.Path.{◌≡◌, refl, sym, ap}
use mathlib.Core.Bool.{Bool, true, false}
use native.Mathlib.Omega.{arith}
use native.Mathlib.Nat.{pow-le-pow_right, le_trans, eq-or-lt_of_le}
use mathlib.Core.Logic.{⊎_elim}
use borrow.Author.Tests.{lt-ltb, le-ltb, leb-true, leb-false}
use lib.Dec.{leb}
use Rattle.io.specs.Digits.{last_digits, IsDigitCount}
use Rattle.profile_lines.specs.Text.{ascii}
use Rattle.decimals.specs.Decimal.{least_from, decimal}

module _ (n r : ℕ) (fits : n < 10 ^ r) where
  least_is : (more k : ℕ) → k ≤ r → r ≤ k + more → (k < r → 10 ^ (r - 1) ≤ n) → least_from k more n ≡ r
  least_is zero k low high needed = omega arith
  least_is (suc more) k low high needed =
      ⊎_elim
      (λ (e : k ≡ r). rw (e, lt-ltb n (10 ^ r) fits))
      (λ (h : k < r).
      let large : 10 ^ k ≤ n = le_trans (pow-le-pow_right (omega arith) (omega arith)) (needed h) in
      rw (le-ltb n (10 ^ k) large) (least_is more (suc k) (omega arith) (omega arith) (λ z. needed h)))
      (eq-or-lt_of_le low)

-- twenty digits hold every word
pub at_most_twenty : (n r : ℕ) → n < 2 ^ 64 → IsDigitCount 10 1 n r → r ≤ 20
at_most_twenty n r h f = by_test (leb r 20) refl
  where
    by_test : (t : Bool) → leb r 20 ≡ t → r ≤ 20
    by_test true e = leb-true r 20 e
    by_test false e =
        let more : 20 < r = leb-false r 20 e in
        let large : 10 ^ 20 ≤ n = le_trans (pow-le-pow_right {n = 10} (omega arith) {i = 20} {j = r - 1} (omega arith))
        (f.2 (omega arith)) in
        absurd (let none : ⊥ = omega arith in none)

-- the fewest digits are those of the definition
pub decimal_is : (n r : ℕ) → n < 2 ^ 64 → IsDigitCount 10 1 n r → last_digits 10 r n ≡ decimal n
unfolding decimal
decimal_is n r w f =
    let h : r ≤ 20 = at_most_twenty n r w f in
    ap (λ (k : ℕ). last_digits 10 k n) (sym (least_is n r f.1 19 1 f.0 (omega arith) f.2))

pub largest_number : decimal 0xffff_ffff_ffff_ffff ≡ ascii "18446744073709551615"
unfolding decimal
largest_number = refl
