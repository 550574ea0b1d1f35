-- The kit's integers, over which promises are stated, as the pairs of naturals in which they
-- are proved: `Same k x` says that the integer k is the number of the pair x.
-- Assumes nothing.
use mathlib.Core.Path.{◌≡◌, refl, sym, ap, ◌∙◌, subst}
use Prim.Native.Nat.{ℕ, zero, suc, ◌+◌, ◌-◌, ◌*◌, ◌≤◌, ◌<◌}
use native.Mathlib.Omega.{arith}
use mathlib.Core.Bool.{Bool, true, false, not, cond}
use lib.IntN.{ℤ, pos, negsuc, neg_ℤ, nat_abs, sub_ℕ, ◌+ℤ◌, ◌-ℤ◌, ◌*ℤ◌}
use lib.Dec.{T, ltb, ltb→lt, nltb→le}
use lib.Ieee.{Float, nan, inf, fin, binary64}
use Rattle.doubles.specs.Signed.{Signed, ◌⊕◌, ◌⊙◌, ◌⊗◌, minus, Near, size}
use Rattle.doubles.specs.Exact.{scale, exact}
use Rattle.doubles.specs.Value.{magnitude, value, val}
use Rattle.doubles.proofs.SignedLaws.{pair_eq}

abbrev pub of_integer : ℤ → Signed
of_integer (pos n) = record { plus = n; less = 0 }
of_integer (negsuc n) = record { plus = 0; less = suc n }

abbrev pub Same : ℤ → Signed → Type 0
Same k x = (of_integer k).plus + x.less ≡ x.plus + (of_integer k).less

-- ---- the operations
sub_is : (a b : ℕ) → Same (sub_ℕ a b) (record { plus = a; less = b })
sub_is a b = go (ltb a b) (ltb→lt a b) (nltb→le a b)
  where
    go : (c : Bool) → (T c → a < b) → (T (not c) → b ≤ a)
        → Same (cond c (negsuc (b - suc a)) (pos (a - b))) (record { plus = a; less = b })
    go true l g = less_case (l tt)
      where
        less_case : a < b → 0 + b ≡ a + suc (b - suc a)
        less_case h = omega arith
    go false l g = more_case (g tt)
      where
        more_case : b ≤ a → a - b + b ≡ a + 0
        more_case h = omega arith

add_is : (k l : ℤ) → Same (k +ℤ l) (of_integer k ⊕ of_integer l)
add_is (pos a) (pos b) = refl
add_is (pos a) (negsuc b) = omega (arith, sub_is a (suc b))
add_is (negsuc a) (pos b) = omega (arith, sub_is b (suc a))
add_is (negsuc a) (negsuc b) = omega arith

neg_pos : (n : ℕ) → of_integer (neg_ℤ (pos n)) ≡ record { plus = 0; less = n }
neg_pos zero = refl
neg_pos (suc n) = refl

neg_is : (k : ℤ) → of_integer (neg_ℤ k) ≡ minus (of_integer k)
neg_is (pos n) = neg_pos n
neg_is (negsuc n) = refl

mul_is : (k l : ℤ) → of_integer (k *ℤ l) ≡ of_integer k ⊗ of_integer l
mul_is (pos a) (pos b) = pair_eq (a * b) 0 (a * b + 0 * 0) (a * 0 + 0 * b) (omega arith) (omega arith)
mul_is (pos a) (negsuc b) =
    neg_pos (a * suc b) ∙ pair_eq 0 (a * suc b) (a * 0 + 0 * suc b) (a * suc b + 0 * 0) (omega arith) (omega arith)
mul_is (negsuc a) (pos b) =
    neg_pos (suc a * b) ∙ pair_eq 0 (suc a * b) (0 * b + suc a * 0) (0 * 0 + suc a * b) (omega arith) (omega arith)
mul_is (negsuc a) (negsuc b) =
    pair_eq (suc a * suc b) 0 (0 * 0 + suc a * suc b) (0 * suc b + suc a * 0) (omega arith) (omega arith)

pub same_of : (k : ℤ) (x : Signed) → of_integer k ≡ x → Same k x
same_of k x e = subst (λ (y : Signed). (of_integer k).plus + y.less ≡ y.plus + (of_integer k).less) e refl

pub same_add : (k l : ℤ) (x y : Signed) → Same k x → Same l y → Same (k +ℤ l) (x ⊕ y)
same_add k l x y p q = omega (arith, add_is k l)

pub same_neg : (k : ℤ) (x : Signed) → Same k x → Same (neg_ℤ k) (minus x)
same_neg k x p = subst (λ (y : Signed). y.plus + x.plus ≡ x.less + y.less) (sym (neg_is k)) (omega arith)

pub same_sub : (k l : ℤ) (x y : Signed) → Same k x → Same l y → Same (k -ℤ l) (x ⊕ minus y)
same_sub k l x y p q = same_add k (neg_ℤ l) x (minus y) p (same_neg l y q)

pub same_mul : (k l : ℤ) (x y : Signed) → Same k x → Same l y → Same (k *ℤ l) (x ⊗ y)
same_mul k l x y p q =
    subst (λ (z : Signed). z.plus + (x ⊗ y).less ≡ (x ⊗ y).plus + z.less) (sym (mul_is k l))
    (cross (of_integer k).plus (of_integer k).less (of_integer l).plus (of_integer l).less x.plus x.less
    y.plus y.less p q)
  where
    cross : (a b c d e f g h : ℕ) → a + f ≡ e + b → c + h ≡ g + d
        → a * c + b * d + (e * h + f * g) ≡ e * g + f * h + (a * d + b * c)
    cross a b c d e f g h p q =
        omega (
          arith,
          ap (λ (z : ℕ). z * c) p,
          ap (λ (z : ℕ). z * d) p,
          ap (λ (z : ℕ). e * z) q,
          ap (λ (z : ℕ). f * z) q,
        )

-- by a number that is not negative
pub same_by : (k l : ℤ) (x y : Signed) → Same k x → x.less ≡ 0 → Same l y → Same (k *ℤ l) (x.plus ⊙ y)
same_by k l x y p z q =
    plain x.plus x.less y.plus y.less (of_integer (k *ℤ l)).plus (of_integer (k *ℤ l)).less z
    (same_mul k l x y p q)
  where
    plain : (n m p l a b : ℕ) → m ≡ 0 → a + (n * l + m * p) ≡ n * p + m * l + b → a + n * l ≡ n * p + b
    plain n m p l a b z e = omega (arith, ap (λ (w : ℕ). w * p) z, ap (λ (w : ℕ). w * l) z)

-- n times
pub same_times : (n : ℕ) (l : ℤ) (y : Signed) → Same l y → Same (pos n *ℤ l) (n ⊙ y)
same_times n l y q = same_by (pos n) l (record { plus = n; less = 0 }) y refl refl q

-- ---- sizes
pub same_size : (k : ℤ) (x : Signed) → Same k x → nat_abs k ≡ size x
same_size (pos n) x p = omega arith
same_size (negsuc n) x p = omega arith

pub abs_near : (k l : ℤ) (x y : Signed) (e : ℕ) → Same k x → Same l y → Near x y e → nat_abs (k -ℤ l) ≤ e
abs_near k l x y e p q n = omega (arith, same_size (k -ℤ l) (x ⊕ minus y) (same_sub k l x y p q), n.low, n.high)

-- ---- the exact value of a double is its value in units
pub exact_is : (x : Float) → of_integer (exact x) ≡ val x
unfolding exact scale value magnitude
exact_is nan = refl
exact_is (inf s) = refl
exact_is (fin false m e) = refl
exact_is (fin true m e) = neg_pos (magnitude binary64 (fin true m e))

pub exact_same : (x : Float) → Same (exact x) (val x)
exact_same x = same_of (exact x) (val x) (exact_is x)
