-- Comparisons: what `compare` says, and what follows of a real from one comparison to another. Assumes nothing.
use mathlib.Core.Path.{◌≡◌, refl, sym, ap, subst}
use mathlib.Core.Logic.{◌⊎◌, inl, inr}
use Prim.Native.Nat.{ℕ, suc, ◌*◌, ◌≤◌, ◌<◌, compare, Ordering}
use native.Mathlib.Nat.{eq-or-lt_of_le, le_of_lt, le_of_eq, le_trans, lt_of_lt_of_le, lt_of_not-le}
use native.Mathlib.Nat.{mul-lt-mul_of_pos_right, mul-le-mul_right, mul-le-mul_left}
use native.Mathlib.Omega.{arith}
use mathlib.Core.Bool.{not}
use lib.Dec.{T, is_le}
pub use Rattle.bits.specs.Comparison.{Says}
pub use Rattle.bits.proofs.Comparison.{says}
use Rattle.elementary.specs.Nearest.{Real, is_ge, AtMost, Above, Monotone}
use Rattle.elementary.specs.Reals.{opposite}

-- ---- two whole numbers

-- only one of the three is said
pub said : (o : Ordering) (a b : ℕ) → Says o a b → compare a b ≡ o
said o a b h = go (compare a b) o (says a b) h
  where
    go : (p o : Ordering) → Says p a b → Says o a b → p ≡ o
    go Ordering.lt Ordering.lt x y = refl
    go Ordering.lt Ordering.eq x y = absurd (let z : ⊥ = omega arith in z)
    go Ordering.lt Ordering.gt x y = absurd (let z : ⊥ = omega arith in z)
    go Ordering.eq Ordering.lt x y = absurd (let z : ⊥ = omega arith in z)
    go Ordering.eq Ordering.eq x y = refl
    go Ordering.eq Ordering.gt x y = absurd (let z : ⊥ = omega arith in z)
    go Ordering.gt Ordering.lt x y = absurd (let z : ⊥ = omega arith in z)
    go Ordering.gt Ordering.eq x y = absurd (let z : ⊥ = omega arith in z)
    go Ordering.gt Ordering.gt x y = refl

-- a common factor
pub compare_scaled : (c a b : ℕ) → 0 < c → compare (a * c) (b * c) ≡ compare a b
compare_scaled c a b h = said (compare a b) (a * c) (b * c) (go (compare a b) (says a b))
  where
    go : (o : Ordering) → Says o a b → Says o (a * c) (b * c)
    go Ordering.lt x = mul-lt-mul_of_pos_right x h
    go Ordering.eq x = ap (λ (y : ℕ). y * c) x
    go Ordering.gt x = mul-lt-mul_of_pos_right x h

pub ge→le : (n m : ℕ) → T (is_ge (compare n m)) → m ≤ n
ge→le n m t = go (compare n m) (says n m) t
  where
    go : (o : Ordering) → Says o n m → T (is_ge o) → m ≤ n
    go Ordering.lt x t = absurd t
    go Ordering.eq x t = le_of_eq (sym x)
    go Ordering.gt x t = le_of_lt x

pub le→ge : (n m : ℕ) → m ≤ n → T (is_ge (compare n m))
le→ge n m h = go (compare n m) (says n m)
  where
    go : (o : Ordering) → Says o n m → T (is_ge o)
    go Ordering.lt x = absurd (let z : ⊥ = omega arith in z)
    go Ordering.eq x = tt
    go Ordering.gt x = tt

-- the other way round
pub opposite_ge : (o : Ordering) → T (is_ge (opposite o)) → T (is_le o)
opposite_ge Ordering.lt t = tt
opposite_ge Ordering.eq t = tt
opposite_ge Ordering.gt t = t

pub opposite_le : (o : Ordering) → T (is_le (opposite o)) → T (is_ge o)
opposite_le Ordering.lt t = t
opposite_le Ordering.eq t = tt
opposite_le Ordering.gt t = tt

-- ---- squares

pub square_le : (a b : ℕ) → a ≤ b → a * a ≤ b * b
square_le a b h = le_trans (mul-le-mul_left a h) (mul-le-mul_right b h)

pub square_lt : (a b : ℕ) → a < b → a * a < b * b
square_lt a b h =
    let x : suc a * b ≤ b * b = mul-le-mul_right b h in
    let y : a * suc a ≤ a * b = mul-le-mul_left a h in
    omega arith

pub root_lt : (a b : ℕ) → a * a < b * b → a < b
root_lt a b h = lt_of_not-le (λ (g : b ≤ a). let z : b * b ≤ a * a = square_le b a g in let y : ⊥ = omega arith in y)

-- ---- a real

pub not_ge : (o : Ordering) → T (not (is_ge o)) → o ≡ Ordering.lt
not_ge Ordering.lt t = refl
not_ge Ordering.eq t = absurd t
not_ge Ordering.gt t = absurd t

pub gt→ge : (o : Ordering) → o ≡ Ordering.gt → T (is_ge o)
gt→ge o e = subst (λ (x : Ordering). T (is_ge x)) (sym e) tt

pub lt→le : (o : Ordering) → o ≡ Ordering.lt → T (is_le o)
lt→le o e = subst (λ (x : Ordering). T (is_le x)) (sym e) tt

pub eq→ge : (o : Ordering) → o ≡ Ordering.eq → T (is_ge o)
eq→ge o e = subst (λ (x : Ordering). T (is_ge x)) (sym e) tt

pub eq→le : (o : Ordering) → o ≡ Ordering.eq → T (is_le o)
eq→le o e = subst (λ (x : Ordering). T (is_le x)) (sym e) tt

pub ge_or_lt : (o : Ordering) → T (is_ge o) ⊎ (o ≡ Ordering.lt)
ge_or_lt Ordering.lt = inr refl
ge_or_lt Ordering.eq = inl tt
ge_or_lt Ordering.gt = inl tt

-- a number compared with what rises is a real
pub monotone_of : (n : ℕ) (g : ℕ → ℕ) → ((a b : ℕ) → a < b → g a < g b) → Monotone (λ (j : ℕ). compare n (g j))
monotone_of n g up a b h l = said Ordering.gt n (g a) (lt_of_lt_of_le (up a b h) (ge→le n (g b) l))

module _ (real : Real) (mono : Monotone real) where
  pub at_most_lt_above : (a b : ℕ) → AtMost a real → Above b real → a < b
  at_most_lt_above a b l h = lt_of_not-le (λ (g : b ≤ a). elim (eq-or-lt_of_le g) [
    | inl e ↦ never a l (subst (λ (n : ℕ). Above n real) e h)
    | inr k ↦ never b (gt→ge (real b) (mono b a k l)) h
  ])
    where
      never : (n : ℕ) → AtMost n real → Above n real → ⊥
      never n l h = subst (λ (o : Ordering). T (is_ge o)) h l

  pub at_most_le : (a b : ℕ) → a ≤ b → AtMost b real → AtMost a real
  at_most_le a b g l = elim (eq-or-lt_of_le g) [
    | inl e ↦ subst (λ (n : ℕ). AtMost n real) (sym e) l
    | inr k ↦ gt→ge (real a) (mono a b k l)
  ]

  pub above_le : (a b : ℕ) → a ≤ b → Above a real → Above b real
  above_le a b g h = elim (ge_or_lt (real b)) [
    | inl l ↦ absurd (subst (λ (o : Ordering). T (is_ge o)) h (at_most_le a b g l))
    | inr k ↦ k
  ]
