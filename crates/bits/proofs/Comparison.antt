-- `compare` says of two whole numbers what is so. Assumes nothing.
use mathlib.Core.Path.{◌≡◌, subst}
use Prim.Native.Nat.{ℕ, ◌≤◌, ◌<◌, compare, Ordering}
use mathlib.Core.Bool.{not}
use lib.Dec.{T, is_le, compare_is_eq, eqb, leb→le, nleb→lt, eqb→eq, eqb_refl}
use lib.Arith.{lt_of_le-ne}
use Rattle.bits.specs.Comparison.{Says}

pub says : (a b : ℕ) → Says (compare a b) a b
says a b = go (compare a b) (leb→le a b) (nleb→lt a b) (eqb→eq a b)
    (λ (e : a ≡ b). subst (λ (x : ℕ). T (eqb a x)) e (eqb_refl a))
  where
    go : (o : Ordering) → (T (is_le o) → a ≤ b) → (T (not (is_le o)) → b < a) → (T (compare_is_eq o) → a ≡ b)
        → (a ≡ b → T (compare_is_eq o)) → Says o a b
    go Ordering.lt h k e n = lt_of_le-ne (h tt) n
    go Ordering.eq h k e n = e tt
    go Ordering.gt h k e n = k tt
