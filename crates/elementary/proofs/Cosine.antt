-- The cosine of a third of an angle: its comparison is that of a real number from 0 to 1, and
-- what the function gives for a double t of the value ±a / b. Assumes nothing.
use mathlib.Core.Path.{◌≡◌, sym, ap, ◌∙◌, subst}
use Prim.Native.Nat.{ℕ, ◌+◌, ◌-◌, ◌*◌, ◌^◌, ◌≤◌, ◌<◌, compare, Ordering}
use native.Mathlib.Nat.{le_trans, le_of_eq, le_of_lt, lt_of_lt_of_le, lt_of_le_of_lt, lt_of_not-le, mul_comm, mul-pos}
use native.Mathlib.Nat.{mul-le-mul_right, mul-le-mul_left, mul-lt-mul_of_pos_right, lt_of_mul-lt-mul_right}
use native.Mathlib.Nat.{le_of_mul-le-mul_right}
use native.Mathlib.Decide.{dec_le}
use native.Mathlib.Omega.{arith}
use mathlib.Core.Bool.{Bool, true, false, cond}
use lib.Dec.{T, ltb, lit<}
use lib.Pow.{pow_pos}
use borrow.Author.Tests.{lt-ltb, le-ltb, le-leb, lt-leb}
use lib.Ieee.{Float, nan, inf, fin, binary64, up, down}
use lib.Ieee.Fits.{down_pos}
use lib.Ieee.Exact.{HasValue}
use Rattle.elementary.specs.Nearest.{Real, is_ge, Monotone, Bounded, nearest_to}
use Rattle.elementary.specs.Reals.{third_angle_cosine_real}
use Rattle.elementary.specs.Functions.{third_angle_cosine_of}
use Rattle.elementary.proofs.Order.{said, ge→le, square_le, square_lt}
use Rattle.elementary.proofs.Fractions.{cosine_fraction}

pub cond_false : (t : Bool) (x y : Ordering) → t ≡ false → cond t x y ≡ y
cond_false t x y e = ap (λ (z : Bool). cond z x y) e

-- 4n³ - 3n O² rises from n = O / 2 on: with P and N for the terms of t
rises : (O b P N m d : ℕ) → 0 < b → O ≤ 2 * m → 0 < d
    → 4 * (m + d) * (m + d) * (m + d) * b + N ≤ 3 * (m + d) * O * O * b + P
    → 4 * m * m * m * b + N < 3 * m * O * O * b + P
rises O b P N m d w h p e =
    let s : O * O ≤ 2 * m * (2 * m) = square_le O (2 * m) h in
    let t : O * O * (3 * d) ≤ 2 * m * (2 * m) * (3 * d) = mul-le-mul_right (3 * d) s in
    let u : O * O * (3 * d) * b ≤ 2 * m * (2 * m) * (3 * d) * b = mul-le-mul_right b t in
    let c : 0 < d * d * d * b = mul-pos (mul-pos (mul-pos p p) p) w in
    omega arith

-- the terms of t on the left and on the right
abbrev on_left : Bool → ℕ → ℕ → ℕ
on_left s a O = cond s 0 (a * O * O * O)

abbrev on_right : Bool → ℕ → ℕ → ℕ
on_right s a O = cond s (a * O * O * O) 0

abbrev sides : ℕ → Bool → ℕ → ℕ → Real
sides O s a b n = compare (3 * n * O * O * b + on_left s a O) (4 * n * n * n * b + on_right s a O)

pub cosine_monotone : (one : ℕ) (s : Bool) (a b : ℕ) → 0 < b → Monotone (third_angle_cosine_real one s a b)
cosine_monotone O s a b pos-b m n h l = elim (dec_le O (2 * m)) [
  | yes g ↦
      let gn : O ≤ 2 * n = omega arith in
      let ln : T (is_ge (sides O s a b n)) =
      subst (λ (o : Ordering). T (is_ge o))
      (cond_false (ltb (2 * n) O) Ordering.gt (sides O s a b n) (le-ltb (2 * n) O gn)) l in
      let e : m + (n - m) ≡ n = omega arith in
      let q = ge→le (3 * n * O * O * b + on_left s a O) (4 * n * n * n * b + on_right s a O) ln in
      cond_false (ltb (2 * m) O) Ordering.gt (sides O s a b m) (le-ltb (2 * m) O g)
      ∙ said Ordering.gt (3 * m * O * O * b + on_left s a O) (4 * m * m * m * b + on_right s a O)
      (rises O b (on_left s a O) (on_right s a O) m (n - m) pos-b g (let z : 0 < n - m = omega arith in z)
      (subst (λ (x : ℕ). 4 * x * x * x * b + on_right s a O ≤ 3 * x * O * O * b + on_left s a O) (sym e) q))
  | no g ↦ ap (λ (x : Bool). cond x Ordering.gt (sides O s a b m)) (lt-ltb (2 * m) O (lt_of_not-le g))
]

-- for a t of at most 1 in size
module _ (O : ℕ) (a b : ℕ) (pos-b : 0 < b) (most : a ≤ b) (n : ℕ) (h : O < n) where
  -- 3n O² + O³ is less than 4n³
  cubes : 3 * n * O * O * b + b * O * O * O < 4 * n * n * n * b
  cubes =
      let x : O * O * n < n * n * n = mul-lt-mul_of_pos_right (square_lt O n h) (let z : 0 < n = omega arith in z) in
      let y : O * O * O ≤ O * O * n = mul-le-mul_left (O * O) (le_of_lt h) in
      let l : 3 * n * O * O + O * O * O < 4 * n * n * n = omega arith in
      let m : (3 * n * O * O + O * O * O) * b < 4 * n * n * n * b = mul-lt-mul_of_pos_right l pos-b in
      omega arith

  above_one : (s : Bool) → sides O s a b n ≡ Ordering.lt
  above_one false =
      let t : a * O * O * O ≤ b * O * O * O = mul-le-mul_right O (mul-le-mul_right O (mul-le-mul_right O most)) in
      let c = cubes in
      said Ordering.lt (3 * n * O * O * b + a * O * O * O) (4 * n * n * n * b + 0) (omega arith)
  above_one true =
      let c = cubes in
      said Ordering.lt (3 * n * O * O * b + 0) (4 * n * n * n * b + a * O * O * O) (omega arith)

pub cosine_bounded : (one : ℕ) (s : Bool) (a b d : ℕ) → 0 < one → 0 < b → a ≤ b → one < 2 ^ d
    → Bounded (third_angle_cosine_real one s a b) d
cosine_bounded O s a b d pos-o pos-b most h = record {
  monotone = cosine_monotone O s a b pos-b;
  nonneg = subst (λ (t : Bool). T (is_ge (cond t Ordering.gt (sides O s a b 0)))) (sym (lt-ltb 0 O pos-o)) tt;
  bound = cond_false (ltb (2 * 2 ^ d) O) Ordering.gt (sides O s a b (2 ^ d))
      (le-ltb (2 * 2 ^ d) O (let z : O ≤ 2 * 2 ^ d = omega arith in z)) ∙ above_one O a b pos-b most (2 ^ d) h s;
}

pub cosine_double_bounded : (s : Bool) (a b : ℕ) → 0 < b → a ≤ b → Bounded (third_angle_cosine_real (2 ^ 1075) s a b) 1077
cosine_double_bounded s a b p h = cosine_bounded (2 ^ 1075) s a b 1077 (pow_pos 1075) p h (lit< tt)

-- ---- the function at a value

-- whether the size of t is at most 1, for two fractions of one value
pub size_le : (x y a b : ℕ) → 0 < b → x * b ≡ a * y → a ≤ b → x ≤ y
size_le x y a b p e h =
    le_of_mul-le-mul_right (le_trans (le_of_eq e) (le_trans (mul-le-mul_right y h) (le_of_eq (mul_comm b y)))) p

pub size_lt : (x y a b : ℕ) → 0 < y → x * b ≡ a * y → b < a → y < x
size_lt x y a b p e h =
    lt_of_mul-lt-mul_right b
    (lt_of_le_of_lt (le_of_eq (mul_comm y b)) (lt_of_lt_of_le (mul-lt-mul_of_pos_right h p) (le_of_eq (sym e))))

pub cosine_of_value : (t : Float) (s : Bool) (a b : ℕ) → HasValue t s a b → 0 < b → a ≤ b
    → third_angle_cosine_of t ≡ nearest_to binary64 false (third_angle_cosine_real (2 ^ 1075) s a b) 1077
unfolding third_angle_cosine_of
cosine_of_value nan s a b h p l = absurd h
cosine_of_value (inf u) s a b h p l = absurd h
cosine_of_value (fin u m e) s a b h p l =
    ap (λ (y : Bool). cond y
    (nearest_to binary64 false (third_angle_cosine_real (2 ^ 1075) u (m * up e) (down e)) 1077) nan)
    (le-leb (m * up e) (down e) (size_le (m * up e) (down e) a b p h.1 l))
    ∙ ap (λ (y : Bool). nearest_to binary64 false (third_angle_cosine_real (2 ^ 1075) y (m * up e) (down e)) 1077) h.0
    ∙ (λ i. nearest_to binary64 false
    (λ (n : ℕ). cosine_fraction (2 ^ 1075) (m * up e) (down e) a b (down_pos e) p h.1 n s i) 1077)

pub cosine_outside : (t : Float) (s : Bool) (a b : ℕ) → HasValue t s a b → b < a → third_angle_cosine_of t ≡ nan
unfolding third_angle_cosine_of
cosine_outside nan s a b h l = absurd h
cosine_outside (inf u) s a b h l = absurd h
cosine_outside (fin u m e) s a b h l =
    ap (λ (y : Bool). cond y
    (nearest_to binary64 false (third_angle_cosine_real (2 ^ 1075) u (m * up e) (down e)) 1077) nan)
    (lt-leb (m * up e) (down e) (size_lt (m * up e) (down e) a b (down_pos e) h.1 l))
