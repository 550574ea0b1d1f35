-- Between a bit pattern and its value: the pattern of q * 2 ^ k units, for a significand q of
-- any format, and the value of a double's pattern. Assumes nothing.
use mathlib.Core.Path.{◌≡◌, refl, sym, ap, ◌∙◌, subst}
use mathlib.Core.Logic.{◌⊎◌, inl, inr}
use Prim.Native.Nat.{ℕ, zero, suc, ◌+◌, ◌-◌, ◌*◌, ◌/◌, ◌%◌, ◌^◌, ◌≤◌, ◌<◌}
use native.Mathlib.Nat.{add_comm, mul-pos, mul-le-mul_left, eq-or-lt_of_le, le_antisymm, lt_of_lt_of_le, lt_of_le_of_lt}
use native.Mathlib.Nat.{lt_of_not-le, le_trans, le_of_eq, mul-div_cancel, mul-one, mul-le-mul_right}
use native.Mathlib.Nat.{mul-lt-mul_of_pos_right, pow-succ', add_assoc, le_refl}
use native.Mathlib.Decide.{dec_le}
use native.Mathlib.Omega.{arith}
use mathlib.Core.Bool.{Bool, true, false, not, cond}
use lib.Dec.{T, nltb→le}
use lib.Pow.{pow_pos, pow-add, pow_mono, pow-lt}
use borrow.Author.Tests.{lt-ltb, le-ltb, le-leb, lt-leb, ne_eqb}
use lib.Ieee.{Float, nan, inf, fin, Format, binary64, prec, emax, low, up, down, size, odd, units, fits, hid, top}
use lib.Ieee.{of_fields, of_bits, to_bits, ne, eq, is_nan, nan_bits}
use lib.Ieee.Digits.{size-lt, size-le}
use lib.Ieee.Fits.{odd-fits, down_pos, two}
use lib.Ieee.Exact.{HasValue, odd_sign, units_val}
use lib.Ieee.Bits.{of_bits-to_bits, nan_bits_is, nan_bits_above}
use Rattle.bits.specs.Fields.{field_units, pattern_units}

-- ---- the pattern of a value

bits_of_value : (f : Format) (v : Float) (s : Bool) (n : ℕ) → HasValue v s n (2 ^ low f)
    → to_bits f v ≡ cond s (top f) 0 + (size n - prec f) * hid f + n / 2 ^ (size n - prec f)
unfolding to_bits
bits_of_value f nan s n h = absurd h
bits_of_value f (inf t) s n h = absurd h
bits_of_value f (fin t m e) s n h =
    ap (λ (x : Bool). cond x
    (top f) 0 + (size (m * up e * 2 ^ low f / down e) - prec f) * hid f
    + m * up e * 2 ^ low f / down e / 2 ^ (size (m * up e * 2 ^ low f / down e) - prec f)) h.0
    ∙ ap (λ (x : ℕ). cond s (top f) 0 + (size x - prec f) * hid f + x / 2 ^ (size x - prec f))
    (ap (λ (x : ℕ). x / down e) h.1 ∙ mul-div_cancel n (down_pos e))

-- a value of the format has one form
pub value_unique : (f : Format) (x y : Float) (s : Bool) (n : ℕ) → T (fits f x) → T (fits f y)
    → HasValue x s n (2 ^ low f) → HasValue y s n (2 ^ low f) → x ≡ y
value_unique f x y s n fx fy hx hy =
    sym (of_bits-to_bits f x fx) ∙ ap (of_bits f) (bits_of_value f x s n hx ∙ sym (bits_of_value f y s n hy))
    ∙ of_bits-to_bits f y fy

size_of_law : (a n : ℕ) → 2 ^ a ≤ n → n < 2 ^ suc a → size n ≡ suc a
size_of_law a n lo hi =
    le_antisymm (size-le n (suc a) hi)
    (lt_of_not-le
    (λ (g : size n ≤ a). let x : 2 ^ size n ≤ 2 ^ a = pow_mono g in let y = size-lt n in let z : ⊥ = omega arith in z))

module _ (f : Format) (q k : ℕ) (normal : hid f ≤ q) (fits_width : q ≤ 2 ^ prec f) where
  twice : 2 ^ prec f ≡ 2 * hid f
  twice = ap (λ (x : ℕ). 2 ^ x) (let p = two f in let z : prec f ≡ suc (prec f - 1) = omega arith in z)
      ∙ pow-succ' 2 (prec f - 1)

  dropped_bits : (size (q * 2 ^ k) - prec f) * hid f + q * 2 ^ k / 2 ^ (size (q * 2 ^ k) - prec f) ≡ k * hid f + q
  dropped_bits = elim (eq-or-lt_of_le fits_width) [
    | inl e ↦
        let n : q * 2 ^ k ≡ 2 ^ (prec f + k) = ap (λ (x : ℕ). x * 2 ^ k) e ∙ sym (pow-add 2 (prec f) k) in
        let z : size (q * 2 ^ k) ≡ suc (prec f + k) =
        size_of_law (prec f + k) (q * 2 ^ k) (le_of_eq (sym n))
        (lt_of_le_of_lt (le_of_eq n) (pow-lt (le_refl (suc (prec f + k))))) in
        let d : size (q * 2 ^ k) - prec f ≡ suc k = let y = z in omega arith in
        let v : q * 2 ^ k ≡ hid f * 2 ^ suc k =
        ap (λ (x : ℕ). x * 2 ^ k) (e ∙ twice)
        ∙ (let y = pow-succ' 2 k in rw y (let w : 2 * hid f * 2 ^ k ≡ hid f * (2 * 2 ^ k) = omega arith in w)) in
        ap (λ (x : ℕ). x * hid f + q * 2 ^ k / 2 ^ x) d
        ∙ ap (λ (x : ℕ). suc k * hid f + x / 2 ^ suc k) v
        ∙ ap (λ (x : ℕ). suc k * hid f + x) (mul-div_cancel (hid f) (pow_pos (suc k)))
        ∙ (let t = twice in let w : suc k * hid f + hid f ≡ k * hid f + q = omega arith in w)
    | inr h ↦
        let lo : 2 ^ (prec f - 1 + k) ≤ q * 2 ^ k =
        le_trans (le_of_eq (pow-add 2 (prec f - 1) k)) (mul-le-mul_right (2 ^ k) normal) in
        let hi : q * 2 ^ k < 2 ^ suc (prec f - 1 + k) =
        lt_of_lt_of_le (mul-lt-mul_of_pos_right h (pow_pos k))
        (le_of_eq (sym (pow-add 2 (prec f) k)
        ∙ ap (λ (x : ℕ). 2 ^ x) (let p = two f in let z : prec f + k ≡ suc (prec f - 1 + k) = omega arith in z))) in
        let z : size (q * 2 ^ k) ≡ suc (prec f - 1 + k) = size_of_law (prec f - 1 + k) (q * 2 ^ k) lo hi in
        let d : size (q * 2 ^ k) - prec f ≡ k = let y = z in let p = two f in omega arith in
        ap (λ (x : ℕ). x * hid f + q * 2 ^ k / 2 ^ x) d ∙ ap (λ (x : ℕ). k * hid f + x) (mul-div_cancel q (pow_pos k))
  ]

  module _ (s : Bool) (small : q * 2 ^ k < 2 ^ (low f + suc (emax f))) where
    units_fits : T (fits f (units f s q k))
    unfolding units
    units_fits =
        rw (lt-ltb (q * 2 ^ k) (2 ^ (low f + suc (emax f))) small)
        (odd-fits f (suc (prec f)) s q k (lt_of_le_of_lt fits_width (pow-lt (le_refl (suc (prec f))))) fits_width small)

    -- the pattern of q * 2 ^ k units, where q has all its digits, is the fields k and q added:
    -- q's leading digit adds 1 to the exponent's field
    pub pattern_of_units : of_bits f (cond s (top f) 0 + (k * hid f + q)) ≡ units f s q k
    pattern_of_units =
        ap (of_bits f)
        (sym (bits_of_value f (units f s q k) s (q * 2 ^ k) (units_val f s q k small)
        ∙ add_assoc (cond s (top f) 0) ((size (q * 2 ^ k) - prec f) * hid f)
        (q * 2 ^ k / 2 ^ (size (q * 2 ^ k) - prec f)) ∙ ap (λ (x : ℕ). cond s (top f) 0 + x) dropped_bits))
        ∙ of_bits-to_bits f (units f s q k) units_fits

-- ---- the value of a pattern

field_value : (s : Bool) (x t : ℕ) → x < 2047 → HasValue (of_fields binary64 s x t) s (field_units x t) (2 ^ 1074)
unfolding of_fields field_units
field_value s zero t h =
    subst (λ (n : ℕ). HasValue (odd 53 s t 0 1074) s n (2 ^ 1074)) (mul-one t) (odd_sign 53 s t 0 1074)
field_value s (suc x) t h =
    rw (ne_eqb (suc x) 2047 (λ (e : suc x ≡ 2047). let z : ⊥ = omega arith in z)) (odd_sign 53 s (2 ^ 52 + t) x 1074)

-- the finite pattern p with the sign s and the magnitude of b
pub pattern_value : (s : Bool) (b p : ℕ) → b < 0x7ff0_0000_0000_0000 → p ≡ cond s (2 ^ 63) 0 + b
    → HasValue (of_bits binary64 p) s (pattern_units b) (2 ^ 1074)
unfolding of_bits pattern_units
pattern_value false b p h e =
    rw (
      lt-leb (2 ^ 63) p (omega arith),
      let z : p % 2 ^ 63 ≡ b = omega arith in
          z,
      let z : p % 2 ^ 52 ≡ b % 2 ^ 52 = omega arith in z,
    )
    (field_value false (b / 2 ^ 52) (b % 2 ^ 52) (omega arith))
pattern_value true b p h e =
    rw (
      le-leb (2 ^ 63) p (omega arith),
      let z : p % 2 ^ 63 ≡ b = omega arith in
          z,
      let z : p % 2 ^ 52 ≡ b % 2 ^ 52 = omega arith in z,
    )
    (field_value true (b / 2 ^ 52) (b % 2 ^ 52) (omega arith))

-- ---- a double and its own pattern

-- the tests x != x and x == x
pub not_nan : (x : Float) → ne x x ≡ false → T (not (is_nan x))
unfolding ne eq is_nan
not_nan nan h = absurd (subst T h tt)
not_nan (inf s) h = tt
not_nan (fin s m e) h = tt

-- with its sign taken off, the pattern of a double that is no NaN is at most the infinity's
pub pattern_most : (x : Float) → T (fits binary64 x) → T (not (is_nan x))
    → to_bits binary64 x % 2 ^ 63 ≤ 0x7ff0_0000_0000_0000
pattern_most x h n =
    nltb→le (0x7ff0_0000_0000_0000) (to_bits binary64 x % 2 ^ 63)
    (subst (λ (b : Bool). T (not b)) (nan_bits_above binary64 (to_bits binary64 x))
    (subst (λ (b : Bool). T (not b)) (sym (nan_bits_is binary64 (to_bits binary64 x)))
    (subst (λ (y : Float). T (not (is_nan y))) (sym (of_bits-to_bits binary64 x h)) n)))

-- a pattern up to an infinity's is no NaN's
pub not_nan_bits : (b : ℕ) → b % 2 ^ 63 ≤ 0x7ff0_0000_0000_0000 → T (not (nan_bits binary64 b))
not_nan_bits b h =
    subst (λ (t : Bool). T (not t)) (sym (nan_bits_above binary64 b ∙ le-ltb 0x7ff0_0000_0000_0000 (b % 2 ^ 63) h)) tt

-- a pattern other than 0 stands for a magnitude above 0
pub pattern_units_pos : (b : ℕ) → 0 < b → 0 < pattern_units b
unfolding pattern_units field_units
pattern_units_pos b h = go (b / 2 ^ 52) refl
  where
    go : (x : ℕ) → b / 2 ^ 52 ≡ x → 0 < field_units x (b % 2 ^ 52)
    go zero e = omega arith
    go (suc x) e = mul-pos (let z : 0 < 2 ^ 52 + b % 2 ^ 52 = omega arith in z) (pow_pos x)

-- a pattern is its magnitude, with the sign or without
pub sign_cases : (b : ℕ) → b < 2 ^ 64 → (b ≡ b % 2 ^ 63) ⊎ (b ≡ 2 ^ 63 + b % 2 ^ 63)
sign_cases b h = elim (dec_le (2 ^ 63) b) [
  | yes g ↦ inr (omega arith)
  | no g ↦ inl (let l : b < 2 ^ 63 = lt_of_not-le g in omega arith)
]

-- ---- magnitudes by the exponent's field

pub units_lt : (b y : ℕ) → b < suc (suc y) * 2 ^ 52 → pattern_units b < 2 ^ (53 + y)
unfolding pattern_units field_units
units_lt b y h = go (b / 2 ^ 52) refl
  where
    most : 2 ^ 53 * 2 ^ y ≡ 2 ^ (53 + y)
    most = sym (pow-add 2 53 y)

    go : (x : ℕ) → b / 2 ^ 52 ≡ x → field_units x (b % 2 ^ 52) < 2 ^ (53 + y)
    go zero e = lt_of_lt_of_le (let z : b % 2 ^ 52 < 2 ^ 53 = omega arith in z)
        (pow_mono (let z : 53 ≤ 53 + y = omega arith in z))
    go (suc x) e =
        lt_of_lt_of_le (mul-lt-mul_of_pos_right (let z : 2 ^ 52 + b % 2 ^ 52 < 2 ^ 53 = omega arith in z) (pow_pos x))
        (le_trans (mul-le-mul_left (2 ^ 53) (pow_mono (let z : x ≤ y = omega arith in z))) (le_of_eq most))

pub units_above : (b y : ℕ) → suc y * 2 ^ 52 < b → 2 ^ (52 + y) < pattern_units b
unfolding pattern_units field_units
units_above b y h = go (b / 2 ^ 52) refl
  where
    go : (x : ℕ) → b / 2 ^ 52 ≡ x → 2 ^ (52 + y) < field_units x (b % 2 ^ 52)
    go zero e = absurd (let z : ⊥ = omega arith in z)
    go (suc x) e = elim (eq-or-lt_of_le (let z : y ≤ x = omega arith in z)) [
      | inl q ↦
          lt_of_le_of_lt (le_of_eq (pow-add 2 52 y))
          (lt_of_lt_of_le
          (mul-lt-mul_of_pos_right (let z : 2 ^ 52 < 2 ^ 52 + b % 2 ^ 52 = omega arith in z) (pow_pos y))
          (le_of_eq (ap (λ (n : ℕ). (2 ^ 52 + b % 2 ^ 52) * 2 ^ n) q)))
      | inr q ↦
          lt_of_lt_of_le (pow-lt (let z : 52 + y < 52 + x = omega arith in z))
          (le_trans (le_of_eq (pow-add 2 52 x))
          (mul-le-mul_right (2 ^ x) (let z : 2 ^ 52 ≤ 2 ^ 52 + b % 2 ^ 52 = omega arith in z)))
    ]

pub units_at : (b x : ℕ) → b / 2 ^ 52 ≡ suc x → pattern_units b ≡ (b % 2 ^ 52 + 2 ^ 52) * 2 ^ x
unfolding pattern_units field_units
units_at b x e =
    ap (λ (n : ℕ). field_units n (b % 2 ^ 52)) e ∙ ap (λ (n : ℕ). n * 2 ^ x) (add_comm (2 ^ 52) (b % 2 ^ 52))
