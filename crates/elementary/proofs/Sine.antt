-- The sine of a third of an angle: its comparison is that of a real number from 0 to 1, and
-- what the function gives for a double t of the value ±a / b. Assumes nothing.
use mathlib.Core.Path.{◌≡◌, refl, sym, ap, ◌∙◌, subst}
use Prim.Native.Nat.{ℕ, ◌+◌, ◌-◌, ◌*◌, ◌^◌, ◌≤◌, ◌<◌, compare, Ordering}
use native.Mathlib.Nat.{le_trans, le_of_eq, le_of_lt, lt_of_lt_of_le, lt_of_not-le, mul-pos, mul-le-mul_right}
use native.Mathlib.Nat.{mul-le-mul_left, le-add_left}
use native.Mathlib.Decide.{dec_le}
use native.Mathlib.Omega.{arith}
use mathlib.Core.Bool.{Bool, true, false, cond}
use lib.Dec.{T, ltb, leb→le, lit<}
use lib.Pow.{pow_pos}
use borrow.Author.Tests.{lt-ltb, le-ltb, le-leb, lt-leb, ltb-false}
use lib.Ieee.{Float, nan, inf, fin, binary64, up, down}
use lib.Ieee.Fits.{down_pos}
use lib.Ieee.Exact.{HasValue}
use Rattle.elementary.specs.Nearest.{Real, is_ge, Monotone, Bounded, nearest_to}
use Rattle.elementary.specs.Reals.{third_angle_sine_real, opposite}
use Rattle.elementary.specs.Functions.{third_angle_sine_of}
use Rattle.elementary.proofs.Order.{said, ge→le, le→ge, opposite_ge, square_le, square_lt}
use Rattle.elementary.proofs.Cosine.{cond_false, size_le, size_lt}
use Rattle.elementary.proofs.Fractions.{sine_fraction}

-- ---- the two sides, 1 + 24s⁴ and 16s⁶ + 9s², by q = n² and Q = one²

abbrev pub left : ℕ → ℕ → ℕ
left Q q = Q * Q * Q + 24 * q * q * Q

abbrev pub right : ℕ → ℕ → ℕ
right Q q = 16 * q * q * q + 9 * q * Q * Q

-- ---- (1 - s²)(1 - 4s²)² falls up to s = 1/2, where 4q = Q, and rises up to 4q = 3Q

-- y = z + d, and Q is 4y + D
grows : (z d D : ℕ)
    → right (4 * z + 4 * d + D) (z + d) + 24 * z * z * (4 * z + 4 * d + D)
    ≡ right (4 * z + 4 * d + D) z + 24 * (z + d) * (z + d) * (4 * z + 4 * d + D)
    + d * (3 * (4 * z + 4 * d + D) * (2 * D + 4 * d) + D * D + D * (D + 4 * d) + (D + 4 * d) * (D + 4 * d))
grows z d D = omega arith

carry_up : (GY GZ EY EZ K C N P : ℕ) → GY + EZ ≡ GZ + EY + K → 0 < K → 0 < N → GY * N + P ≤ (C + EY) * N
    → GZ * N + P < (C + EZ) * N
carry_up GY GZ EY EZ K C N P e k v h =
    let a : (GY + EZ) * N ≡ (GZ + EY + K) * N = ap (λ (x : ℕ). x * N) e in
    let b : 0 < K * N = mul-pos k v in
    omega arith

rises : (z d D N P : ℕ) → 0 < d → 0 < N
    → right (4 * z + 4 * d + D) (z + d) * N + P ≤ left (4 * z + 4 * d + D) (z + d) * N
    → right (4 * z + 4 * d + D) z * N + P < left (4 * z + 4 * d + D) z * N
rises z d D N P p v h =
    let Q = 4 * z + 4 * d + D in
    carry_up (right Q (z + d)) (right Q z) (24 * (z + d) * (z + d) * Q) (24 * z * z * Q)
    (d * (3 * Q * (2 * D + 4 * d) + D * D + D * (D + 4 * d) + (D + 4 * d) * (D + 4 * d))) (Q * Q * Q) N P
    (grows z d D)
    (mul-pos p (lt_of_lt_of_le
    (mul-pos (let a : 0 < D + 4 * d = omega arith in a) (let a : 0 < D + 4 * d = omega arith in a))
    (le-add_left ((D + 4 * d) * (D + 4 * d)) (3 * Q * (2 * D + 4 * d) + D * D + D * (D + 4 * d))))) v h

-- y = z + d, with k = 4z - Q and r = 3Q - 4y
pub factor : (Q z d k r : ℕ) → k + Q ≡ 4 * z → r + 4 * z + 4 * d ≡ 3 * Q
    → 3 * k * r + 4 * d * (r + 4 * z) + (48 * z * z + 48 * z * d + 16 * d * d + 9 * Q * Q) ≡ 48 * z * Q + 24 * d * Q
factor Q z d k r e f =
    let a : (k + Q) * r ≡ 4 * z * r = ap (λ (x : ℕ). x * r) e in
    let b : (r + 4 * z + 4 * d) * z ≡ 3 * Q * z = ap (λ (x : ℕ). x * z) f in
    let c : (r + 4 * z + 4 * d) * Q ≡ 3 * Q * Q = ap (λ (x : ℕ). x * Q) f in
    let g : (r + 4 * z + 4 * d) * d ≡ 3 * Q * d = ap (λ (x : ℕ). x * d) f in
    omega arith

pub shrinks : (Q z d K : ℕ) → K + (48 * z * z + 48 * z * d + 16 * d * d + 9 * Q * Q) ≡ 48 * z * Q + 24 * d * Q
    → right Q z + 24 * (z + d) * (z + d) * Q ≡ right Q (z + d) + 24 * z * z * Q + d * K
shrinks Q z d K e =
    let a : d * (K + (48 * z * z + 48 * z * d + 16 * d * d + 9 * Q * Q)) ≡ d * (48 * z * Q + 24 * d * Q) =
    ap (λ (x : ℕ). d * x) e in omega arith

carry_down : (GY GZ EY EZ K C N P : ℕ) → GZ + EY ≡ GY + EZ + K → 0 < K → 0 < N → (C + EY) * N ≤ GY * N + P
    → (C + EZ) * N < GZ * N + P
carry_down GY GZ EY EZ K C N P e k v h =
    let a : (GZ + EY) * N ≡ (GY + EZ + K) * N = ap (λ (x : ℕ). x * N) e in
    let b : 0 < K * N = mul-pos k v in
    omega arith

falls : (Q z d N P : ℕ) → 0 < d → 0 < N → 0 < z → Q ≤ 4 * z → 4 * (z + d) ≤ 3 * Q
    → left Q (z + d) * N ≤ right Q (z + d) * N + P → left Q z * N < right Q z * N + P
falls Q z d N P p v w h g l =
    let k = 4 * z - Q in
    let r = 3 * Q - 4 * (z + d) in
    let K = 3 * k * r + 4 * d * (r + 4 * z) in
    carry_down (right Q (z + d)) (right Q z) (24 * (z + d) * (z + d) * Q) (24 * z * z * Q) (d * K) (Q * Q * Q) N P
    (shrinks Q z d K
    (factor Q z d k r (let a : k + Q ≡ 4 * z = omega arith in a)
    (let a : r + 4 * z + 4 * d ≡ 3 * Q = omega arith in a)))
    (mul-pos p (lt_of_lt_of_le
    (mul-pos (let a : 0 < 4 * d = omega arith in a) (let a : 0 < r + 4 * z = omega arith in a))
    (le-add_left (4 * d * (r + 4 * z)) (3 * k * r)))) v l

doubled_le : (n o : ℕ) → 2 * n ≤ o → 4 * (n * n) ≤ o * o
doubled_le n o h =
    le_trans (le_of_eq (let z : 4 * (n * n) ≡ 2 * n * (2 * n) = omega arith in z)) (square_le (2 * n) o h)

doubled_ge : (n o : ℕ) → o ≤ 2 * n → o * o ≤ 4 * (n * n)
doubled_ge n o h =
    le_trans (square_le o (2 * n) h) (le_of_eq (let z : 2 * n * (2 * n) ≡ 4 * (n * n) = omega arith in z))

-- over any Q: a and b by their squares
up_at : (Q N P a b : ℕ) → 0 < N → a < b → 4 * (b * b) ≤ Q → right Q (b * b) * N + P ≤ left Q (b * b) * N
    → right Q (a * a) * N + P < left Q (a * a) * N
up_at Q N P a b v h g l =
    let s = square_lt a b h in
    let y : a * a + (b * b - a * a) ≡ b * b = omega arith in
    let q : 4 * (a * a) + 4 * (b * b - a * a) + (Q - 4 * (b * b)) ≡ Q = omega arith in
    subst (λ (x : ℕ). right x (a * a) * N + P < left x (a * a) * N) q
    (rises (a * a) (b * b - a * a) (Q - 4 * (b * b)) N P (let z : 0 < b * b - a * a = omega arith in z) v
    (subst (λ (x : ℕ). right x (a * a + (b * b - a * a)) * N + P ≤ left x (a * a + (b * b - a * a)) * N) (sym q)
    (subst (λ (x : ℕ). right Q x * N + P ≤ left Q x * N) (sym y) l)))

down_at : (Q N P a b : ℕ) → 0 < N → 0 < Q → a < b → Q ≤ 4 * (a * a) → 4 * (b * b) ≤ 3 * Q
    → left Q (b * b) * N ≤ right Q (b * b) * N + P → left Q (a * a) * N < right Q (a * a) * N + P
down_at Q N P a b v w h g k l =
    let s = square_lt a b h in
    let y : a * a + (b * b - a * a) ≡ b * b = omega arith in
    falls Q (a * a) (b * b - a * a) N P (let z : 0 < b * b - a * a = omega arith in z) v
    (let z : 0 < a * a = omega arith in z) g (subst (λ (x : ℕ). 4 * x ≤ 3 * Q) (sym y) k)
    (subst (λ (x : ℕ). left Q x * N ≤ right Q x * N + P) (sym y) l)

-- ---- the real

abbrev both : ℕ → ℕ → ℕ → Real
both Q a b n = compare (left Q (n * n) * (b * b)) (right Q (n * n) * (b * b) + a * a * (Q * Q * Q))

-- the answer for a negative t, from n = one / 2 on
abbrev upper : ℕ → ℕ → ℕ → Real
upper O a b n = cond (ltb (3 * (O * O)) (4 * (n * n))) Ordering.lt (opposite (both (O * O) a b n))

not_lt : (t : Bool) (o : Ordering) → T (is_ge (cond t Ordering.lt o)) → t ≡ false
not_lt true o t = absurd t
not_lt false o t = refl

module _ (O a b : ℕ) (pos-o : 0 < O) (pos-b : 0 < b) (m n : ℕ) (h : m < n) where
  mono_positive : T (is_ge (cond (ltb O (2 * n)) Ordering.lt (both (O * O) a b n)))
      → cond (ltb O (2 * m)) Ordering.lt (both (O * O) a b m) ≡ Ordering.gt
  mono_positive l =
      let g : ltb O (2 * n) ≡ false = not_lt (ltb O (2 * n)) (both (O * O) a b n) l in
      let gn : 2 * n ≤ O = ltb-false O (2 * n) g in
      let t = ge→le (left (O * O) (n * n) * (b * b))
      (right (O * O) (n * n) * (b * b) + a * a * (O * O * (O * O) * (O * O)))
      (subst (λ (o : Ordering). T (is_ge o)) (cond_false (ltb O (2 * n)) Ordering.lt (both (O * O) a b n) g) l) in
      cond_false (ltb O (2 * m)) Ordering.lt (both (O * O) a b m)
      (le-ltb O (2 * m) (let z : 2 * m ≤ O = omega arith in z))
      ∙ said Ordering.gt (left (O * O) (m * m) * (b * b))
      (right (O * O) (m * m) * (b * b) + a * a * (O * O * (O * O) * (O * O)))
      (up_at (O * O) (b * b) (a * a * (O * O * (O * O) * (O * O))) m n (mul-pos pos-b pos-b) h
      (doubled_le n O gn) t)

  mono_negative : T (is_ge (cond (ltb (2 * n) O) Ordering.gt (upper O a b n)))
      → cond (ltb (2 * m) O) Ordering.gt (upper O a b m) ≡ Ordering.gt
  mono_negative l = elim (dec_le O (2 * m)) [
    | yes g ↦
        let l2 : T (is_ge (upper O a b n)) =
        subst (λ (o : Ordering). T (is_ge o))
        (cond_false (ltb (2 * n) O) Ordering.gt (upper O a b n)
        (le-ltb (2 * n) O (let z : O ≤ 2 * n = omega arith in z))) l in
        let k : ltb (3 * (O * O)) (4 * (n * n)) ≡ false =
        not_lt (ltb (3 * (O * O)) (4 * (n * n))) (opposite (both (O * O) a b n)) l2 in
        let kn : 4 * (n * n) ≤ 3 * (O * O) = ltb-false (3 * (O * O)) (4 * (n * n)) k in
        let km : 4 * (m * m) ≤ 3 * (O * O) = le_trans (mul-le-mul_left 4 (square_le m n (le_of_lt h))) kn in
        let t = leb→le (left (O * O) (n * n) * (b * b))
        (right (O * O) (n * n) * (b * b) + a * a * (O * O * (O * O) * (O * O)))
        (opposite_ge (both (O * O) a b n)
        (subst (λ (o : Ordering). T (is_ge o))
        (cond_false (ltb (3 * (O * O)) (4 * (n * n))) Ordering.lt (opposite (both (O * O) a b n)) k) l2)) in
        cond_false (ltb (2 * m) O) Ordering.gt (upper O a b m) (le-ltb (2 * m) O g)
        ∙ cond_false (ltb (3 * (O * O)) (4 * (m * m))) Ordering.lt (opposite (both (O * O) a b m))
        (le-ltb (3 * (O * O)) (4 * (m * m)) km)
        ∙ ap opposite
        (said Ordering.lt (left (O * O) (m * m) * (b * b))
        (right (O * O) (m * m) * (b * b) + a * a * (O * O * (O * O) * (O * O)))
        (down_at (O * O) (b * b) (a * a * (O * O * (O * O) * (O * O))) m n (mul-pos pos-b pos-b)
        (mul-pos pos-o pos-o) h (doubled_ge m O g) kn t))
    | no g ↦ ap (λ (x : Bool). cond x Ordering.gt (upper O a b m)) (lt-ltb (2 * m) O (lt_of_not-le g))
  ]

pub sine_monotone : (one : ℕ) (s : Bool) (a b : ℕ) → 0 < one → 0 < b → Monotone (third_angle_sine_real one s a b)
sine_monotone O false a b o p m n h l = mono_positive O a b o p m n h l
sine_monotone O true a b o p m n h l = mono_negative O a b o p m n h l

-- for a t of at most 1 in size
pub sine_bounded : (one : ℕ) (s : Bool) (a b d : ℕ) → 0 < one → 0 < b → a ≤ b → one < 2 ^ d
    → Bounded (third_angle_sine_real one s a b) d
sine_bounded O s a b d pos-o pos-b most h =
    record { monotone = sine_monotone O s a b pos-o pos-b; nonneg = zero_at_most s; bound = high s }
  where
    zero_at_most : (s : Bool) → T (is_ge (third_angle_sine_real O s a b 0))
    zero_at_most false =
        subst (λ (t : Bool). T (is_ge (cond t Ordering.lt (both (O * O) a b 0))))
        (sym (le-ltb O 0 (let z : 0 ≤ O = omega arith in z)))
        (le→ge (left (O * O) 0 * (b * b)) (right (O * O) 0 * (b * b) + a * a * (O * O * (O * O) * (O * O)))
        (let q : a * a * (O * O * (O * O) * (O * O)) ≤ b * b * (O * O * (O * O) * (O * O)) =
        mul-le-mul_right (O * O * (O * O) * (O * O)) (square_le a b most) in
        ordered (O * O) (b * b) (a * a * (O * O * (O * O) * (O * O))) q))
      where
        ordered : (Q B A : ℕ) → A ≤ B * (Q * Q * Q) → right Q 0 * B + A ≤ left Q 0 * B
        ordered Q B A h = omega arith
    zero_at_most true = subst (λ (t : Bool). T (is_ge (cond t Ordering.gt (upper O a b 0)))) (sym (lt-ltb 0 O pos-o)) tt

    high : (s : Bool) → third_angle_sine_real O s a b (2 ^ d) ≡ Ordering.lt
    high false =
        ap (λ (t : Bool). cond t Ordering.lt (both (O * O) a b (2 ^ d)))
        (lt-ltb O (2 * 2 ^ d) (let z : O < 2 * 2 ^ d = omega arith in z))
    high true =
        cond_false (ltb (2 * 2 ^ d) O) Ordering.gt (upper O a b (2 ^ d))
        (le-ltb (2 * 2 ^ d) O (let z : O ≤ 2 * 2 ^ d = omega arith in z))
        ∙ ap (λ (t : Bool). cond t Ordering.lt (opposite (both (O * O) a b (2 ^ d))))
        (lt-ltb (3 * (O * O)) (4 * (2 ^ d * 2 ^ d))
        (let q = square_lt O (2 ^ d) h in larger (O * O) (2 ^ d * 2 ^ d) q))
      where
        larger : (x y : ℕ) → x < y → 3 * x < 4 * y
        larger x y h = omega arith

pub sine_double_bounded : (s : Bool) (a b : ℕ) → 0 < b → a ≤ b → Bounded (third_angle_sine_real (2 ^ 1075) s a b) 1077
sine_double_bounded s a b p h = sine_bounded (2 ^ 1075) s a b 1077 (pow_pos 1075) p h (lit< tt)

-- ---- the function at a value

pub sine_of_value : (t : Float) (s : Bool) (a b : ℕ) → HasValue t s a b → 0 < b → a ≤ b
    → third_angle_sine_of t ≡ nearest_to binary64 false (third_angle_sine_real (2 ^ 1075) s a b) 1077
unfolding third_angle_sine_of
sine_of_value nan s a b h p l = absurd h
sine_of_value (inf u) s a b h p l = absurd h
sine_of_value (fin u m e) s a b h p l =
    ap (λ (y : Bool). cond y (nearest_to binary64 false (third_angle_sine_real (2 ^ 1075) u (m * up e) (down e)) 1077) nan)
    (le-leb (m * up e) (down e) (size_le (m * up e) (down e) a b p h.1 l))
    ∙ ap (λ (y : Bool). nearest_to binary64 false (third_angle_sine_real (2 ^ 1075) y (m * up e) (down e)) 1077) h.0
    ∙ (λ i. nearest_to binary64 false
    (λ (n : ℕ). sine_fraction (2 ^ 1075) (m * up e) (down e) a b (down_pos e) p h.1 n s i) 1077)

pub sine_outside : (t : Float) (s : Bool) (a b : ℕ) → HasValue t s a b → b < a → third_angle_sine_of t ≡ nan
unfolding third_angle_sine_of
sine_outside nan s a b h l = absurd h
sine_outside (inf u) s a b h l = absurd h
sine_outside (fin u m e) s a b h l =
    ap (λ (y : Bool). cond y (nearest_to binary64 false (third_angle_sine_real (2 ^ 1075) u (m * up e) (down e)) 1077) nan)
    (lt-leb (m * up e) (down e) (size_lt (m * up e) (down e) a b (down_pos e) h.1 l))
