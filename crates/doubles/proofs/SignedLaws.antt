-- Laws of signed whole numbers as pairs: each is linear arithmetic over monomials. Assumes nothing.
use mathlib.Core.Path.{◌≡◌}
use Prim.Native.Nat.{ℕ, ◌+◌, ◌-◌, ◌*◌, ◌≤◌}
use native.Mathlib.Nat.{mul-le-mul_left, mul-sub, mul-add}
use native.Mathlib.Omega.{arith}
use mathlib.Core.Bool.{Bool, true, false}
use Rattle.doubles.specs.Signed.{Signed, ◌⊕◌, ◌⊙◌, size, Near, Within}
use Rattle.doubles.specs.Value.{signed}

-- two pairs with equal parts
pub pair_eq : (a b c d : ℕ) → a ≡ c → b ≡ d
    → ◌≡◌ {A = Signed} (record { plus = a; less = b }) (record { plus = c; less = d })
pair_eq a b c d p q = λ i. record { plus = p i; less = q i }

-- ---- sizes
pub within_size : (x : Signed) → Within x (size x)
within_size x = record { low = omega arith; high = omega arith }

pub size_le : (x : Signed) (b : ℕ) → Within x b → size x ≤ b
size_le x b h = omega arith

pub size_add : (x y : Signed) → size (x ⊕ y) ≤ size x + size y
size_add x y = omega arith

pub size_times : (c : ℕ) (x : Signed) → size (c ⊙ x) ≡ c * size x
size_times c x =
    omega (
      arith,
      mul-sub c x.plus x.less,
      mul-sub c x.less x.plus,
      mul-add c (x.plus - x.less) (x.less - x.plus),
    )

pub size_signed : (s : Bool) (n : ℕ) → size (signed s n) ≡ n
size_signed false n = omega arith
size_signed true n = omega arith

-- ---- distances
pub near_refl : (x : Signed) → Near x x 0
near_refl x = record { low = omega arith; high = omega arith }

pub near_sym : (x y : Signed) (e : ℕ) → Near x y e → Near y x e
near_sym x y e h = record { low = omega arith; high = omega arith }

pub near_trans : (x y z : Signed) (e d : ℕ) → Near x y e → Near y z d → Near x z (e + d)
near_trans x y z e d h k = record { low = omega arith; high = omega arith }

pub near_add : (x y z w : Signed) (e d : ℕ) → Near x y e → Near z w d → Near (x ⊕ z) (y ⊕ w) (e + d)
near_add x y z w e d h k = record { low = omega arith; high = omega arith }

pub near_times : (x y : Signed) (e c : ℕ) → Near x y e → Near (c ⊙ x) (c ⊙ y) (c * e)
near_times x y e c h =
    record { low = omega (arith, mul-le-mul_left c h.low); high = omega (arith, mul-le-mul_left c h.high) }
