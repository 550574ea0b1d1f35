-- A comparison as the code answers it, and the comparison that it stands for. Assumes nothing.
use mathlib.Core.Path.{◌≡◌, refl}
use mathlib.Core.Bool.{true, false}
use Prim.Native.Nat as nat
use lib.Dec.{T}
use Rattle.std.specs.Ordering.{ordering_reverse}
use Rattle.std.specs.Ordering as ordering
use Rattle.std.specs.declared.cmp.Ordering.TheVariants.{Less, Equal, Greater}
use Rattle.words.specs.Limbs.{ordering_of}
use Rattle.elementary.specs.Nearest.{is_ge}
use Rattle.elementary.specs.Reals.{opposite}

pub is_less : (o : nat.Ordering) → Less ≡ ordering_of o → o ≡ nat.Ordering.lt
is_less nat.Ordering.lt e = refl
is_less nat.Ordering.eq e = cc
is_less nat.Ordering.gt e = cc

pub is_equal : (o : nat.Ordering) → Equal ≡ ordering_of o → o ≡ nat.Ordering.eq
is_equal nat.Ordering.lt e = cc
is_equal nat.Ordering.eq e = refl
is_equal nat.Ordering.gt e = cc

pub is_greater : (o : nat.Ordering) → Greater ≡ ordering_of o → o ≡ nat.Ordering.gt
is_greater nat.Ordering.lt e = cc
is_greater nat.Ordering.eq e = cc
is_greater nat.Ordering.gt e = refl

-- the tests whether it is at least as great
pub ge_true : (o : nat.Ordering) → ordering.is_ge (ordering_of o) ≡ true → T (is_ge o)
ge_true nat.Ordering.lt e = cc
ge_true nat.Ordering.eq e = tt
ge_true nat.Ordering.gt e = tt

pub ge_false : (o : nat.Ordering) → ordering.is_ge (ordering_of o) ≡ false → o ≡ nat.Ordering.lt
ge_false nat.Ordering.lt e = refl
ge_false nat.Ordering.eq e = cc
ge_false nat.Ordering.gt e = cc

pub reversed : (o : nat.Ordering) → ordering_reverse (ordering_of o) ≡ ordering_of (opposite o)
reversed nat.Ordering.lt = refl
reversed nat.Ordering.eq = refl
reversed nat.Ordering.gt = refl
