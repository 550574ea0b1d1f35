-- One digit of a square root: with v = (q² + r) * 2 ^ 64 + l and r at most 2q, the root of 4v
-- has the digits of q and one more. Assumes nothing.
use Rattle.std.proofs.Common.{◌≡◌, ℕ, ◌+◌, ◌-◌, ◌*◌, ◌/◌, ◌%◌, ◌^◌, ◌<◌, ◌≤◌, ap, ◌∙◌, subst, lt_of_lt_of_le}
use Rattle.std.proofs.Common.{mul_left_comm, add-one, arith, pow_mono}
use native.Mathlib.Nat.{pow-succ'}

-- the state after i digits of the root of m / 2 ^ 54
pub record Partial (m left root rest i : ℕ) : Type 0 where
  pub sum : m * 2 ^ 10 * 4 ^ i ≡ (root * root + rest) * 2 ^ 64 + left
  pub least : rest ≤ 2 * root
  pub fits : left < 2 ^ 64
  pub digits : root < 2 ^ i
  pub most : i ≤ 53

pub begins : (m left : ℕ) → m < 2 ^ 54 → left ≡ (m * 2 ^ 10) % 2 ^ 64 → Partial m left 0 0 0
begins m left h e =
    record { sum = omega arith; least = omega arith; fits = omega arith; digits = omega arith; most = omega arith }

pub root_lt : (root i : ℕ) → root < 2 ^ i → i ≤ 53 → root < 2 ^ 53
root_lt root i h l = lt_of_lt_of_le h (pow_mono l)

next_power : (n i : ℕ) → n * 4 ^ (i + 1) ≡ 4 * (n * 4 ^ i)
next_power n i = ap (λ (x : ℕ). n * x) (ap (λ (x : ℕ). 4 ^ x) (add-one i) ∙ pow-succ' 4 i) ∙ mul_left_comm n 4 (4 ^ i)

next_two : (i : ℕ) → 2 ^ (i + 1) ≡ 2 * 2 ^ i
next_two i = ap (λ (x : ℕ). 2 ^ x) (add-one i) ∙ pow-succ' 2 i

shifted : (l : ℕ) → l < 2 ^ 64 → l * 4 ≡ l / 2 ^ 62 * 2 ^ 64 + l * 4 % 2 ^ 64
shifted l h = omega arith

pub one : (m l q r i : ℕ) → Partial m l q r i → i < 53 → q * 4 + 1 ≤ r * 4 + l / 2 ^ 62
    → Partial m (l * 2 ^ 2 % 2 ^ 64) (q * 2 + 1) (r * 4 + l / 2 ^ 62 - (q * 4 + 1)) (i + 1)
one m l q r i p h g = record {
  sum = next_power (m * 2 ^ 10) i
      ∙ split (m * 2 ^ 10 * 4 ^ i) (l / 2 ^ 62) (l * 4 % 2 ^ 64) p.sum (shifted l p.fits) g;
  least = bound (l / 2 ^ 62) (let z : l / 2 ^ 62 < 4 = let f = p.fits in omega arith in z) p.least g;
  fits = omega arith;
  digits = let e = next_two i in let d = p.digits in omega arith;
  most = omega arith;
}
  where
    split : (v t l' : ℕ) → v ≡ (q * q + r) * 2 ^ 64 + l → l * 4 ≡ t * 2 ^ 64 + l' → q * 4 + 1 ≤ r * 4 + t
        → 4 * v ≡ ((q * 2 + 1) * (q * 2 + 1) + (r * 4 + t - (q * 4 + 1))) * 2 ^ 64 + l'
    split v t l' a b c = omega arith

    bound : (t : ℕ) → t < 4 → r ≤ 2 * q → q * 4 + 1 ≤ r * 4 + t → r * 4 + t - (q * 4 + 1) ≤ 2 * (q * 2 + 1)
    bound t a b c = omega arith

pub none : (m l q r i : ℕ) → Partial m l q r i → i < 53 → r * 4 + l / 2 ^ 62 < q * 4 + 1
    → Partial m (l * 2 ^ 2 % 2 ^ 64) (q * 2) (r * 4 + l / 2 ^ 62) (i + 1)
none m l q r i p h g = record {
  sum = next_power (m * 2 ^ 10) i
      ∙ split (m * 2 ^ 10 * 4 ^ i) (l / 2 ^ 62) (l * 4 % 2 ^ 64) p.sum (shifted l p.fits);
  least = omega arith;
  fits = omega arith;
  digits = let e = next_two i in let d = p.digits in omega arith;
  most = omega arith;
}
  where
    split : (v t l' : ℕ) → v ≡ (q * q + r) * 2 ^ 64 + l → l * 4 ≡ t * 2 ^ 64 + l'
        → 4 * v ≡ ((q * 2) * (q * 2) + (r * 4 + t)) * 2 ^ 64 + l'
    split v t l' a b = omega arith

pub ends : (m l q r i : ℕ) → Partial m l q r i → 53 ≤ i → q * q + r ≡ m * 2 ^ 52
ends m l q r i p h =
    let e : i ≡ 53 =
    let g = p.most in omega arith in
    go (subst (λ (x : ℕ). m * 2 ^ 10 * 4 ^ x ≡ (q * q + r) * 2 ^ 64 + l) e p.sum) p.fits
  where
    go : m * 2 ^ 10 * 4 ^ 53 ≡ (q * q + r) * 2 ^ 64 + l → l < 2 ^ 64 → q * q + r ≡ m * 2 ^ 52
    go e f = omega arith
