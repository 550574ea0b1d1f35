-- What a routine shows of the nearest number: two neighbours of p digits, q * 2 ^ k and
-- (q + 1) * 2 ^ k units, bracket the real, and how the real compares with their midpoint. Assumes nothing.
use mathlib.Core.Path.{◌≡◌, sym, ap, ◌∙◌, subst}
use mathlib.Core.Logic.{◌⊎◌, inl, inr}
use Prim.Native.Nat.{ℕ, zero, suc, ◌+◌, ◌-◌, ◌*◌, ◌/◌, ◌^◌, ◌≤◌, ◌<◌, Ordering}
use native.Mathlib.Nat.{lt_of_not-le, lt_of_lt_of_le, le_trans, le_of_eq, le_of_suc-le-suc, add-zero, mul_comm}
use native.Mathlib.Nat.{pow-succ', eq-zero-or-pos, lt_of_mul-lt-mul_right, div-mul-le_self, lt-mul-div-succ}
use native.Mathlib.Nat.{div-eq_of_lt-le, div-div-eq-div-mul, div-lt_iff_lt-mul, le-div_iff_mul-le}
use native.Mathlib.Numerals.{add-one}
use native.Mathlib.Omega.{arith}
use mathlib.Core.Bool.{Bool, true, false, not, cond}
use lib.Dec.{T}
use lib.Pow.{pow_pos, pow-add, pow_mono}
use lib.Ieee.{Format, prec, size, nearest, units}
use lib.Ieee.Digits.{size-lt, size-le, size_reaches}
use lib.Ieee.Fits.{kept-lt, two, two-le_pos}
use Rattle.elementary.specs.Nearest.{Real, is_ge, AtMost, Above, Bounded, floor_from, floor_of, exponent_of}
use Rattle.elementary.specs.Nearest.{significand_of, nearest_to}
use Rattle.elementary.proofs.Order.{not_ge, gt→ge, ge_or_lt, at_most_lt_above, at_most_le, above_le}

-- ---- the floor, digit by digit

pub floor_from_law : (real : Real) → (d n : ℕ) → AtMost n real → Above (n + 2 ^ d) real
    → AtMost (floor_from real d n) real × Above (suc (floor_from real d n)) real
unfolding floor_from
floor_from_law real zero n l h = (l, subst (λ (x : ℕ). Above x real) (add-one n) h)
floor_from_law real (suc d) n l h = go (is_ge (real (n + 2 ^ d))) (λ t. t) (not_ge (real (n + 2 ^ d))) (floor_from_law real d)
  where
    twice : n + 2 ^ suc d ≡ n + 2 ^ d + 2 ^ d
    twice = let e : 2 ^ suc d ≡ 2 * 2 ^ d = pow-succ' 2 d in omega arith

    go : (b : Bool) → (T b → AtMost (n + 2 ^ d) real) → (T (not b) → Above (n + 2 ^ d) real)
        → ((m : ℕ) → AtMost m real → Above (m + 2 ^ d) real
        → AtMost (floor_from real d m) real × Above (suc (floor_from real d m)) real)
        → AtMost (floor_from real d (n + cond b (2 ^ d) 0)) real
        × Above (suc (floor_from real d (n + cond b (2 ^ d) 0))) real
    go true y z ih = ih (n + 2 ^ d) (y tt) (subst (λ (x : ℕ). Above x real) twice h)
    go false y z ih =
        ih (n + 0) (subst (λ (x : ℕ). AtMost x real) (sym (add-zero n)) l)
        (subst (λ (x : ℕ). Above (x + 2 ^ d) real) (sym (add-zero n)) (z tt))

-- ---- between two neighbours of p digits

pub record Bracket (p : ℕ) (real : Real) (q k : ℕ) : Type 0 where
  pub fits : q < 2 ^ p
  pub normal : (k ≡ 0) ⊎ (2 ^ (p - 1) ≤ q)
  pub lower : AtMost (q * 2 ^ suc k) real
  pub upper : Above (suc q * 2 ^ suc k) real

half_parts : (n k : ℕ) → n / 2 / 2 ^ k ≡ n / 2 ^ suc k
half_parts n k = div-div-eq-div-mul n 2 (2 ^ k) ∙ ap (λ (x : ℕ). n / x) (sym (pow-succ' 2 k))

suc_part : (q p : ℕ) → (q + 1) * p ≡ suc q * p
suc_part q p = ap (λ (x : ℕ). x * p) (add-one q)

module _ (real : Real) (d : ℕ) (b : Bounded real d) where
  floor_at_most : AtMost (floor_of real d) real
  unfolding floor_of
  floor_at_most =
      (floor_from_law real d 0 b.nonneg
      (subst (λ (x : ℕ). Above x real) (let e : 2 ^ d ≡ 0 + 2 ^ d = omega arith in e) b.bound)).0

  floor_above : Above (suc (floor_of real d)) real
  unfolding floor_of
  floor_above =
      (floor_from_law real d 0 b.nonneg
      (subst (λ (x : ℕ). Above x real) (let e : 2 ^ d ≡ 0 + 2 ^ d = omega arith in e) b.bound)).1

  module _ (p : ℕ) (some : 0 < p) where
    -- the bracket that the definition makes
    pub own_bracket : Bracket p real (floor_of real d / 2 ^ suc (exponent_of p real d)) (exponent_of p real d)
    unfolding exponent_of
    own_bracket =
        let n = floor_of real d in
        let k = size (n / 2) - p in
        let q = n / 2 ^ suc k in
        let below : q * 2 ^ suc k ≤ n = div-mul-le_self n (2 ^ suc k) in
        let over : n < suc q * 2 ^ suc k =
        lt_of_lt_of_le (lt-mul-div-succ n (pow_pos (suc k)))
        (le_of_eq (mul_comm (2 ^ suc k) (q + 1) ∙ suc_part q (2 ^ suc k))) in
        record {
          fits = subst (λ (x : ℕ). x < 2 ^ p) (half_parts n k) (kept-lt p (n / 2));
          normal = leading n k (λ h. size_reaches (n / 2) (p - 1 + k) (reach (size (n / 2)) h));
          lower = at_most_le real b.monotone (q * 2 ^ suc k) n below floor_at_most;
          upper = above_le real b.monotone (suc n) (suc q * 2 ^ suc k) over floor_above;
        }
      where
        reach : (z : ℕ) → 0 < z - p → p - 1 + (z - p) < z
        reach z h = omega arith

        leading : (n k : ℕ) → (0 < k → 2 ^ (p - 1 + k) ≤ n / 2) → (k ≡ 0) ⊎ (2 ^ (p - 1) ≤ n / 2 ^ suc k)
        leading n k h = elim (eq-zero-or-pos k) [
          | inl z ↦ inl z
          | inr g ↦ inr
              (subst (λ (x : ℕ). 2 ^ (p - 1) ≤ x) (half_parts n k)
              ((le-div_iff_mul-le (pow_pos k)).1 (le_trans (le_of_eq (sym (pow-add 2 (p - 1) k))) (h g))))
        ]

    -- any bracket is that one
    module _ (q k : ℕ) (bracket : Bracket p real q k) where
      pub floor_part : floor_of real d / 2 ^ suc k ≡ q
      floor_part =
          let n = floor_of real d in
          let a : q * 2 ^ suc k < suc n =
          at_most_lt_above real b.monotone (q * 2 ^ suc k) (suc n) bracket.lower floor_above in
          let c : n < suc q * 2 ^ suc k =
          at_most_lt_above real b.monotone n (suc q * 2 ^ suc k) floor_at_most bracket.upper in
          div-eq_of_lt-le (2 ^ suc k) (le_of_suc-le-suc a) (subst (λ (x : ℕ). n < x) (sym (suc_part q (2 ^ suc k))) c)

      pub exponent_is : exponent_of p real d ≡ k
      unfolding exponent_of
      exponent_is =
          let n = floor_of real d in
          let e : n / 2 / 2 ^ k ≡ q = half_parts n k ∙ floor_part in
          let top : n / 2 < 2 ^ (p + k) =
          subst (λ (x : ℕ). n / 2 < x) (sym (pow-add 2 p k))
          ((div-lt_iff_lt-mul (pow_pos k)).0 (subst (λ (x : ℕ). x < 2 ^ p) (sym e) bracket.fits)) in
          let most : size (n / 2) ≤ p + k = size-le (n / 2) (p + k) top in
          elim bracket.normal [
            | inl z ↦ none (size (n / 2)) most z
            | inr g ↦
                let bottom : 2 ^ (p - 1 + k) ≤ n / 2 =
                le_trans (le_of_eq (pow-add 2 (p - 1) k))
                ((le-div_iff_mul-le (pow_pos k)).0 (subst (λ (x : ℕ). 2 ^ (p - 1) ≤ x) (sym e) g)) in
                let least : p - 1 + k < size (n / 2) =
                lt_of_not-le
                (λ (s : size (n / 2) ≤ p - 1 + k). refute (2 ^ size (n / 2)) (2 ^ (p - 1 + k)) (n / 2)
                (pow_mono s) bottom (size-lt (n / 2))) in
                exact (size (n / 2)) most least
          ]
        where
          none : (z : ℕ) → z ≤ p + k → k ≡ 0 → z - p ≡ k
          none z h e = omega arith

          exact : (z : ℕ) → z ≤ p + k → p - 1 + k < z → z - p ≡ k
          exact z h g = omega arith

          refute : (a b c : ℕ) → a ≤ b → b ≤ c → c < a → ⊥
          refute a b c h g l = omega arith

      pub significand_is : significand_of p real d ≡ nearest q (real ((2 * q + 1) * 2 ^ k))
      unfolding significand_of
      significand_is =
          ap (λ (x : ℕ). nearest (floor_of real d / 2 ^ suc x) (real ((2 * (floor_of real d / 2 ^ suc x) + 1) * 2 ^ x)))
          exponent_is
          ∙ ap (λ (x : ℕ). nearest x (real ((2 * x + 1) * 2 ^ k))) floor_part

-- ---- the value of a format
pub nearest_of_bracket : (f : Format) (s : Bool) (real : Real) (d : ℕ) → Bounded real d → (q k : ℕ)
    → Bracket (prec f) real q k
    → nearest_to f s real d ≡ units f s (nearest q (real ((2 * q + 1) * 2 ^ k))) k
unfolding nearest_to
nearest_of_bracket f s real d b q k bracket =
    ap (λ (x : ℕ). units f s x (exponent_of (prec f) real d))
    (significand_is real d b (prec f) (two-le_pos (prec f) (two f)) q k bracket)
    ∙ ap (λ (x : ℕ). units f s (nearest q (real ((2 * q + 1) * 2 ^ k))) x)
    (exponent_is real d b (prec f) (two-le_pos (prec f) (two f)) q k bracket)

-- The same from two tests of midpoints: with the real in the binade from 2 ^ (prec - 1) to
-- 2 ^ prec times 2 ^ k units, and between the midpoints below and above suc j, the significand is suc j.
pub nearest_of_midpoints : (f : Format) (s : Bool) (real : Real) (d : ℕ) → Bounded real d → (j k : ℕ)
    → AtMost (2 ^ (prec f - 1) * 2 ^ suc k) real → Above (2 ^ prec f * 2 ^ suc k) real
    → real ((2 * j + 1) * 2 ^ k) ≡ Ordering.gt → real ((2 * suc j + 1) * 2 ^ k) ≡ Ordering.lt
    → nearest_to f s real d ≡ units f s (suc j) k
nearest_of_midpoints f s real d b j k start end under over = elim (ge_or_lt (real (suc j * 2 ^ suc k))) [
  | inl l ↦
      nearest_of_bracket f s real d b (suc j) k
      (record {
        fits = lt_of_mul-lt-mul_right (2 ^ suc k)
            (at_most_lt_above real b.monotone (suc j * 2 ^ suc k) (2 ^ prec f * 2 ^ suc k) l end);
        normal = inr
            (le_of_suc-le-suc
            (lt_of_mul-lt-mul_right (2 ^ suc k)
            (at_most_lt_above real b.monotone (2 ^ (prec f - 1) * 2 ^ suc k) (suc (suc j) * 2 ^ suc k) start top)));
        lower = l;
        upper = top;
      })
      ∙ ap (λ (o : Ordering). units f s (nearest (suc j) o) k) over
  | inr g ↦
      nearest_of_bracket f s real d b j k
      (record {
        fits = lt_of_mul-lt-mul_right (2 ^ suc k)
            (at_most_lt_above real b.monotone (j * 2 ^ suc k) (2 ^ prec f * 2 ^ suc k) bottom end);
        normal = inr
            (le_of_suc-le-suc
            (lt_of_mul-lt-mul_right (2 ^ suc k)
            (at_most_lt_above real b.monotone (2 ^ (prec f - 1) * 2 ^ suc k) (suc j * 2 ^ suc k) start g)));
        lower = bottom;
        upper = g;
      })
      ∙ ap (λ (o : Ordering). units f s (nearest j o) k) under
]
  where
    unit : 2 ^ suc k ≡ 2 * 2 ^ k
    unit = pow-succ' 2 k

    top : Above (suc (suc j) * 2 ^ suc k) real
    top = above_le real b.monotone ((2 * suc j + 1) * 2 ^ k) (suc (suc j) * 2 ^ suc k) (rw unit (omega arith)) over

    bottom : AtMost (j * 2 ^ suc k) real
    bottom = at_most_le real b.monotone (j * 2 ^ suc k) ((2 * j + 1) * 2 ^ k) (rw unit (omega arith))
        (gt→ge (real ((2 * j + 1) * 2 ^ k)) under)
