-- The bit pattern of a double's square root, from the whole number nearest to the root of its
-- significand. Assumes nothing.
use Rattle.std.proofs.Common.{◌≡◌, ℕ, zero, suc, ◌+◌, ◌*◌, ◌/◌, ◌%◌, ◌^◌, ◌<◌, ◌≤◌, false, T, sym, ap, ◌∙◌, subst}
use Rattle.std.proofs.Common.{zero-le, le_trans, le_of_eq, lt_of_lt_of_le, le_of_suc-le-suc, lt_of_le_of_lt}
use Rattle.std.proofs.Common.{mul-le-mul_right, mul_assoc, lt_of_mul-lt-mul_right, mul-lt-mul_of_pos_right, mul-pos}
use Rattle.std.proofs.Common.{zero-add, arith, pow_pos, pow_mono, pow-add}
use Prim.Native.Nat.{compare, Ordering}
use native.Mathlib.Nat.{pow-succ'}
use lib.Pow.{pow-lt}
use lib.Ieee.{binary64, units, of_bits}
use lib.Ieee.Positive.{first_pos}
use Rattle.bits.specs.Fields.{pattern_units, Normalized}
use Rattle.bits.proofs.Patterns.{pattern_of_units, pattern_value}
use Rattle.elementary.specs.Nearest.{Real, is_ge, AtMost, Above, Bounded, nearest_to}
use Rattle.elementary.specs.Reals.{sqrt_real}
use Rattle.elementary.specs.Functions.{sqrt_of}
use Rattle.elementary.proofs.Order.{said, compare_scaled, le→ge, root_lt}
use Rattle.elementary.proofs.Bracket.{nearest_of_midpoints}
use Rattle.elementary.proofs.Roots.{sqrt_double_bounded, sqrt_of_value}
use Rattle.sqrt.specs.Roots.{NearestRoot}

-- the square root of n units, a unit being 2 ^ -1074
abbrev root_of : ℕ → Real
root_of n = sqrt_real (2 ^ 1075) n (2 ^ 1074)

in_units : (n j : ℕ) → root_of n j ≡ compare (n * 2 ^ 1076) (j * j)
in_units n j =
    ap (λ (x : ℕ). compare x (j * j * 2 ^ 1074)) (sym (mul_assoc n (2 ^ 1076) (2 ^ 1074)))
    ∙ compare_scaled (2 ^ 1074) (n * 2 ^ 1076) (j * j) (pow_pos 1074)

-- ---- the root of n units is √a in the last place 2 ^ k, where √a has 53 digits

module _ (n a k : ℕ) (same : n * 2 ^ 1076 ≡ a * (2 ^ suc k * 2 ^ suc k)) (least : 2 ^ 104 ≤ a) (most : a < 2 ^ 106)
    (k-most : k ≤ 1533) where
  out : (j u : ℕ) → j * u * (j * u) ≡ j * j * (u * u)
  out j u = omega arith

  at_place : (j : ℕ) → root_of n (j * 2 ^ suc k) ≡ compare a (j * j)
  at_place j =
      in_units n (j * 2 ^ suc k)
      ∙ ap (λ (x : ℕ). compare x (j * 2 ^ suc k * (j * 2 ^ suc k))) same
      ∙ ap (λ (x : ℕ). compare (a * (2 ^ suc k * 2 ^ suc k)) x) (out j (2 ^ suc k))
      ∙ compare_scaled (2 ^ suc k * 2 ^ suc k) a (j * j) (mul-pos (pow_pos (suc k)) (pow_pos (suc k)))

  at_half : (j : ℕ) → root_of n (j * 2 ^ k) ≡ compare (4 * a) (j * j)
  at_half j =
      in_units n (j * 2 ^ k)
      ∙ ap (λ (x : ℕ). compare x (j * 2 ^ k * (j * 2 ^ k)))
      (same ∙ ap (λ (x : ℕ). a * (x * x)) (pow-succ' 2 k) ∙ quadruple a (2 ^ k))
      ∙ ap (λ (x : ℕ). compare (4 * a * (2 ^ k * 2 ^ k)) x) (out j (2 ^ k))
      ∙ compare_scaled (2 ^ k * 2 ^ k) (4 * a) (j * j) (mul-pos (pow_pos k) (pow_pos k))
    where
      quadruple : (a u : ℕ) → a * (2 * u * (2 * u)) ≡ 4 * a * (u * u)
      quadruple a u = omega arith

  bounded : Bounded (root_of n) 1600
  bounded = sqrt_double_bounded n (2 ^ 1074) (pow_pos 1074)
      (lt_of_mul-lt-mul_right (2 ^ 1076)
      (lt_of_le_of_lt (le_of_eq same)
      (lt_of_lt_of_le (mul-lt-mul_of_pos_right most (mul-pos (pow_pos (suc k)) (pow_pos (suc k))))
      (le_trans (le_of_eq powers) (pow_mono (let z : 106 + (suc k + suc k) ≤ 3174 = omega arith in z))))))
    where
      powers : 2 ^ 106 * (2 ^ suc k * 2 ^ suc k) ≡ 2 ^ (106 + (suc k + suc k))
      powers = ap (λ (x : ℕ). 2 ^ 106 * x) (sym (pow-add 2 (suc k) (suc k))) ∙ sym (pow-add 2 106 (suc k + suc k))

  start : AtMost (2 ^ 52 * 2 ^ suc k) (root_of n)
  start = subst (λ (o : Ordering). T (is_ge o)) (sym (at_place (2 ^ 52))) (le→ge a (2 ^ 52 * 2 ^ 52) least)

  end : Above (2 ^ 53 * 2 ^ suc k) (root_of n)
  end = at_place (2 ^ 53) ∙ said Ordering.lt a (2 ^ 53 * 2 ^ 53) most

  nearest_normal : (r : ℕ) → NearestRoot a r → 2 ^ 52 ≤ r
  nearest_normal r h = le_of_suc-le-suc (root_lt (2 ^ 52) (suc r) (let g = h.above in omega arith))

  nearest_fits : (r : ℕ) → NearestRoot a r → r ≤ 2 ^ 53
  nearest_fits zero h = zero-le
  nearest_fits (suc j) h = root_lt j (2 ^ 53) (let g = h.below in omega arith)

  -- r is nearest to √a: √a lies between the midpoints r - 1/2 and r + 1/2
  nearest_units_law : (r : ℕ) → NearestRoot a r → nearest_to binary64 false (root_of n) 1600 ≡ units binary64 false r k
  nearest_units_law zero h = absurd (let g = nearest_normal zero h in let z : ⊥ = omega arith in z)
  nearest_units_law (suc j) h =
      nearest_of_midpoints binary64 false (root_of n) 1600 bounded j k start end
      (at_half (2 * j + 1) ∙ said Ordering.gt (4 * a) ((2 * j + 1) * (2 * j + 1)) (let g = h.below in omega arith))
      (at_half (2 * suc j + 1)
      ∙ said Ordering.lt (4 * a) ((2 * suc j + 1) * (2 * suc j + 1)) (let g = h.above in omega arith))

  small : (r : ℕ) → r ≤ 2 ^ 53 → r * 2 ^ k < 2 ^ (1074 + 1024)
  small r h = lt_of_le_of_lt (mul-le-mul_right (2 ^ k) h)
      (lt_of_le_of_lt (le_of_eq (sym (pow-add 2 53 k))) (pow-lt (let z : 53 + k < 1074 + 1024 = omega arith in z)))

  nearest_pattern : (r : ℕ) → NearestRoot a r
      → of_bits binary64 (k * 2 ^ 52 + r) ≡ nearest_to binary64 false (root_of n) 1600
  nearest_pattern r h =
      ap (of_bits binary64) (sym (zero-add (k * 2 ^ 52 + r)))
      ∙ pattern_of_units binary64 r k (nearest_normal r h) (nearest_fits r h) false (small r (nearest_fits r h))
      ∙ sym (nearest_units_law r h)

-- ---- for the pattern b: an odd exponent leaves a factor 2 with the significand

pub with_parity : (significand odd : ℕ) → 2 ^ 52 ≤ significand → significand < 2 ^ 53 → odd < 2
    → (2 ^ 52 ≤ significand * 2 ^ odd) × (significand * 2 ^ odd < 2 ^ 54)
with_parity significand zero f g h = omega arith
with_parity significand (suc zero) f g h = omega arith
with_parity significand (suc (suc r)) f g h = absurd (let z : ⊥ = omega arith in z)

module _ (b significand exponent : ℕ) (n : Normalized b significand exponent) where
  pub radicand_bounds : (2 ^ 52 ≤ significand * 2 ^ (exponent % 2)) × (significand * 2 ^ (exponent % 2) < 2 ^ 54)
  radicand_bounds =
      with_parity significand (exponent % 2) n.normal n.fits (let z : exponent % 2 < 2 = omega arith in z)

  same_value : pattern_units b * 2 ^ 1076
      ≡ significand * 2 ^ (exponent % 2) * 2 ^ 52 * (2 ^ suc (exponent / 2) * 2 ^ suc (exponent / 2))
  same_value =
      let h = exponent / 2 in
      ap (λ (x : ℕ). pattern_units b * x) (pow-add 2 1022 54)
      ∙ sym (mul_assoc (pattern_units b) (2 ^ 1022) (2 ^ 54))
      ∙ ap (λ (x : ℕ). x * 2 ^ 54)
      (sym n.value
      ∙ ap (λ (x : ℕ). significand * x)
      (ap (λ (x : ℕ). 2 ^ x) (let z : exponent ≡ exponent % 2 + (h + h) = omega arith in z)
      ∙ pow-add 2 (exponent % 2) (h + h) ∙ ap (λ (x : ℕ). 2 ^ (exponent % 2) * x) (pow-add 2 h h)))
      ∙ regroup significand (2 ^ (exponent % 2)) (2 ^ h)
      ∙ ap (λ (x : ℕ). significand * 2 ^ (exponent % 2) * 2 ^ 52 * (x * x)) (sym (pow-succ' 2 h))
    where
      regroup : (d o u : ℕ) → d * (o * (u * u)) * 2 ^ 54 ≡ d * o * 2 ^ 52 * (2 * u * (2 * u))
      regroup d o u = omega arith

  units_pos : 0 < pattern_units b
  units_pos = first_pos (pattern_units b) (2 ^ 1022)
      (lt_of_lt_of_le (mul-pos (let f = n.normal in let z : 0 < significand = omega arith in z) (pow_pos exponent))
      (le_of_eq n.value))

  module _ (finite : b < 0x7ff0_0000_0000_0000) (r : ℕ)
      (h : NearestRoot (significand * 2 ^ (exponent % 2) * 2 ^ 52) r) where
    a_least : 2 ^ 104 ≤ significand * 2 ^ (exponent % 2) * 2 ^ 52
    a_least = let z = radicand_bounds.0 in omega arith

    a_most : significand * 2 ^ (exponent % 2) * 2 ^ 52 < 2 ^ 106
    a_most = let z = radicand_bounds.1 in omega arith

    half_most : exponent / 2 ≤ 1533
    half_most = let z = n.most in omega arith

    pub root_most : r ≤ 2 ^ 53
    root_most = nearest_fits (pattern_units b) (significand * 2 ^ (exponent % 2) * 2 ^ 52)
        (exponent / 2) same_value a_least a_most half_most r h

    pub root_is : of_bits binary64 (exponent / 2 * 2 ^ 52 + r) ≡ sqrt_of (of_bits binary64 b)
    root_is =
        nearest_pattern (pattern_units b) (significand * 2 ^ (exponent % 2) * 2 ^ 52)
        (exponent / 2) same_value a_least a_most half_most r h
        ∙ sym (sqrt_of_value (of_bits binary64 b) (pattern_units b) (2 ^ 1074)
        (pattern_value false b b finite (sym (zero-add b))) units_pos (pow_pos 1074))
