-- The rounding of a real in one binade: by the digits of its floor, by the two midpoints
-- beside a candidate, and from there to the double's bit pattern. Assumes nothing.
use mathlib.Core.Path.{◌≡◌, sym, ap, ◌∙◌, subst}
use mathlib.Core.Logic.{inl, inr}
use Prim.Native.Nat.{ℕ, suc, ◌+◌, ◌-◌, ◌*◌, ◌/◌, ◌^◌, ◌≤◌, ◌<◌, Ordering}
use native.Mathlib.Nat.{pow-succ', add-zero, lt_of_le_of_lt, mul-le-mul_right, le_of_eq}
use native.Mathlib.Omega.{arith}
use mathlib.Core.Bool.{Bool, true, false, cond}
use lib.Dec.{T}
use lib.Pow.{pow-add, pow-lt}
use lib.Ieee.{binary64, nearest, units, of_bits}
use lib.Ieee.Bits.{is_true}
use lib.Ieee.Fits.{nearest-le}
use lib.Ieee.Nearest.{nearest-ge}
use Rattle.bits.proofs.Patterns.{pattern_of_units}
use Rattle.elementary.specs.Nearest.{Real, is_ge, AtMost, Above, Monotone, Bounded, floor_from, nearest_to}
use Rattle.elementary.specs.Binade.{InBinade, RoundsTo}
use Rattle.elementary.proofs.Order.{gt→ge, ge_or_lt, at_most_lt_above, at_most_le, above_le}
use Rattle.elementary.proofs.Bracket.{floor_from_law, nearest_of_bracket}

-- ---- one digit of the floor

digit : (real : Real) (d n : ℕ) (b : Bool) → is_ge (real (n + 2 ^ d)) ≡ b
    → floor_from real (suc d) n ≡ floor_from real d (n + cond b (2 ^ d) 0)
unfolding floor_from
digit real d n b e = ap (λ (x : Bool). floor_from real d (n + cond x (2 ^ d) 0)) e

pub digit_one : (real : Real) (d n : ℕ) → AtMost (n + 2 ^ d) real
    → floor_from real (suc d) n ≡ floor_from real d (n + 2 ^ d)
digit_one real d n h = digit real d n true (is_true (is_ge (real (n + 2 ^ d))) h)

pub digit_zero : (real : Real) (d n : ℕ) → Above (n + 2 ^ d) real → floor_from real (suc d) n ≡ floor_from real d n
digit_zero real d n h = digit real d n false (ap is_ge h) ∙ ap (floor_from real d) (add-zero n)

-- ---- the nearest, by the floor n in half units

pub rounds_by_floor : (real : Real) → InBinade real → (n : ℕ) → n ≡ floor_from real 53 (2 ^ 53) → (r : ℕ)
    → r ≡ nearest (n / 2) (real (2 * (n / 2) + 1)) → RoundsTo real r
rounds_by_floor real f n e r is =
    let mono = f.monotone in
    let floor = floor_from_law real 53 (2 ^ 53) f.start f.end in
    let low : AtMost n real = subst (λ (x : ℕ). AtMost x real) (sym e) floor.0 in
    let high : Above (suc n) real = subst (λ (x : ℕ). Above (suc x) real) (sym e) floor.1 in
    let a : 2 ^ 53 < suc n = at_most_lt_above real mono (2 ^ 53) (suc n) f.start high in
    let b : n < 2 ^ 54 = at_most_lt_above real mono n (2 ^ 54) low f.end in
    record {
      q = n / 2;
      normal = omega arith;
      fits = omega arith;
      lower = at_most_le real mono (2 * (n / 2)) n (omega arith) low;
      upper = above_le real mono (suc n) (2 * (n / 2) + 2) (omega arith) high;
      is = is;
    }

-- ---- the nearest, by the midpoints of a candidate and its neighbours

by_midpoints : (real : Real) → Monotone real → (j : ℕ) → 2 ^ 52 ≤ j → suc j < 2 ^ 53 → real (2 * j + 1) ≡ Ordering.gt
    → real (2 * j + 3) ≡ Ordering.lt → RoundsTo real (suc j)
by_midpoints real mono j normal fits under over = elim (ge_or_lt (real (2 * suc j))) [
  | inl l ↦
      record {
        q = suc j;
        normal = omega arith;
        fits = fits;
        lower = l;
        upper = above_le real mono (2 * j + 3) (2 * suc j + 2) (omega arith) over;
        is = sym (ap (nearest (suc j)) (ap real (let z : 2 * suc j + 1 ≡ 2 * j + 3 = omega arith in z) ∙ over));
      }
  | inr h ↦
      record {
        q = j;
        normal = normal;
        fits = omega arith;
        lower = at_most_le real mono (2 * j) (2 * j + 1) (omega arith) (gt→ge (real (2 * j + 1)) under);
        upper = ap real (let z : 2 * j + 2 ≡ 2 * suc j = omega arith in z) ∙ h;
        is = sym (ap (nearest j) under);
      }
]

pub rounds_to_candidate : (real : Real) → Monotone real → (c : ℕ) → 2 ^ 52 < c → c < 2 ^ 53
    → real (2 * c - 1) ≡ Ordering.gt → real (2 * c + 1) ≡ Ordering.lt → RoundsTo real c
rounds_to_candidate real mono c normal fits under over =
    subst (λ (x : ℕ). RoundsTo real x) (let z : suc (c - 1) ≡ c = omega arith in z)
    (by_midpoints real mono (c - 1) (omega arith) (omega arith)
    (ap real (let z : 2 * (c - 1) + 1 ≡ 2 * c - 1 = omega arith in z) ∙ under)
    (ap real (let z : 2 * (c - 1) + 3 ≡ 2 * c + 1 = omega arith in z) ∙ over))

-- ---- the significand's bounds

pub rounds_normal : (real : Real) (r : ℕ) → RoundsTo real r → 2 ^ 52 ≤ r
rounds_normal real r h =
    let g = nearest-ge h.q (real (2 * h.q + 1)) in let e = h.is in let f = h.normal in omega arith

pub rounds_fits : (real : Real) (r : ℕ) → RoundsTo real r → r ≤ 2 ^ 53
rounds_fits real r h =
    let g = nearest-le h.q (real (2 * h.q + 1)) in let e = h.is in let f = h.fits in omega arith

-- ---- to the double: `real` is the definition's, and `scaled` the same in units of 2 ^ k units

module _ (real scaled : Real) (d : ℕ) (b : Bounded real d) (k : ℕ) (k-most : k < 2044)
    (same : (n : ℕ) → real (n * 2 ^ k) ≡ scaled n) where
  halves : (q : ℕ) → q * 2 ^ suc k ≡ 2 * q * 2 ^ k
  halves q = ap (λ (x : ℕ). q * x) (pow-succ' 2 k) ∙ (let z : q * (2 * 2 ^ k) ≡ 2 * q * 2 ^ k = omega arith in z)

  binade_units : (s : Bool) (r : ℕ) → RoundsTo scaled r → nearest_to binary64 s real d ≡ units binary64 s r k
  binade_units s r h =
      nearest_of_bracket binary64 s real d b h.q k
      (record {
        fits = h.fits;
        normal = inr h.normal;
        lower = subst (λ (o : Ordering). T (is_ge o)) (sym (ap real (halves h.q) ∙ same (2 * h.q))) h.lower;
        upper = ap real
            (halves (suc h.q)
            ∙ ap (λ (x : ℕ). x * 2 ^ k) (let z : 2 * suc h.q ≡ 2 * h.q + 2 = omega arith in z))
            ∙ same (2 * h.q + 2) ∙ h.upper;
      })
      ∙ ap (λ (o : Ordering). units binary64 s (nearest h.q o) k) (same (2 * h.q + 1))
      ∙ ap (λ (x : ℕ). units binary64 s x k) (sym h.is)

  pub binade_pattern : (s : Bool) (r : ℕ) → RoundsTo scaled r
      → of_bits binary64 (cond s (2 ^ 63) 0 + (k * 2 ^ 52 + r)) ≡ nearest_to binary64 s real d
  binade_pattern s r h =
      let most = rounds_fits scaled r h in
      pattern_of_units binary64 r k (rounds_normal scaled r h) most s (small most)
      ∙ sym (binade_units s r h)
    where
      small : r ≤ 2 ^ 53 → r * 2 ^ k < 2 ^ (1074 + 1024)
      small m = lt_of_le_of_lt (mul-le-mul_right (2 ^ k) m)
          (lt_of_le_of_lt (le_of_eq (sym (pow-add 2 53 k))) (pow-lt (let z : 53 + k < 1074 + 1024 = omega arith in z)))
