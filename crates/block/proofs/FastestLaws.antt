-- The index of the least total. Assumes nothing.
use Prim.Native.Nat.{ℕ, zero, suc, ◌<◌}
use mathlib.Core.Path.{◌≡◌, refl}
use mathlib.Core.Bool.{true, false}
use native.Mathlib.Omega.{arith}
use Rattle.doubles.specs.Operators.{◌<ᶠ◌}
use Rattle.profile.specs.declared.Profile.{Profile}
use Rattle.block.specs.Blocks.{total}
use Rattle.block.specs.Selection.{faster, fastest}
use Rattle.doubles.proofs.CondLaws.{cond_of}

-- it is one of the first n + 1
pub fastest_below : (s : ℕ → Profile) (n : ℕ) → fastest s n < suc n
unfolding fastest faster
fastest_below s zero = omega arith
fastest_below s (suc n) =
    let h : fastest s n < suc n = fastest_below s n in
    cond_of (λ (i : ℕ). i < suc (suc n)) (total (s (suc n)) <ᶠ total (s (fastest s n))) {x = suc n} {y = fastest s n}
    (omega arith) (omega arith)

-- it depends on those alone
pub fastest_same : (s r : ℕ → Profile) (n : ℕ) → ((i : ℕ) → i < suc n → s i ≡ r i) → fastest s n ≡ fastest r n
unfolding fastest faster
fastest_same s r zero h = refl
fastest_same s r (suc n) h =
    let e : fastest s n ≡ fastest r n = fastest_same s r n (λ i l. h i (omega arith)) in
    let f : s (suc n) ≡ r (suc n) = h (suc n) (omega arith) in
    let below : fastest s n < suc n = fastest_below s n in
    let g : s (fastest s n) ≡ r (fastest s n) = h (fastest s n) (omega arith) in
    rw (f, g, e)

-- with the next one: it is faster or not
module _ (s : ℕ → Profile) (n : ℕ) where
  pub next_faster : (total (s (suc n)) <ᶠ total (s (fastest s n))) ≡ true → suc n ≡ fastest s (suc n)
  unfolding fastest faster
  next_faster e = rw e

  pub next_not_faster : (total (s (suc n)) <ᶠ total (s (fastest s n))) ≡ false → fastest s n ≡ fastest s (suc n)
  unfolding fastest faster
  next_not_faster e = rw e
