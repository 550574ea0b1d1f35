-- No profile that counts is faster than the shortest. Assumes nothing.
use Prim.Native.Nat.{ℕ, zero, suc, ◌+◌, ◌%◌, ◌<◌}
use mathlib.Core.Path.{◌≡◌}
use mathlib.Core.Bool.{false}
use mathlib.Core.Logic.{◌⊎◌, inl, inr, ⊎_elim}
use native.Mathlib.Nat.{eq-or-lt_of_le}
use native.Mathlib.Omega.{arith}
use lib.Dec.{T}
use lib.Ieee.{Float, is_nan}
use Rattle.doubles.specs.Operators.{◌*ᶠ◌, ◌<ᶠ◌, ◌≤ᶠ◌}
use Rattle.doubles.specs.Constants.{8ᶠ, eps}
use Rattle.profile.specs.declared.Profile.{Profile}
use Rattle.block.specs.Blocks.{total, block_of, plan_in}
use Rattle.block.specs.Selection.{near, of_two, faster, fastest, of_three, with_two, of_five, same_direction, selected}
use Rattle.block.specs.declared.Block.{Block}
use Rattle.refusals.specs.Numbers.{number_of}
use Rattle.doubles.proofs.CondLaws.{cond_of, cond_by}
use Rattle.doubles.proofs.ComparisonLaws.{lt_irreflexive, lt_asymmetric, not_through, not_below}
use Rattle.block.proofs.MemberLaws.{selected_each}

-- ---- no profile is faster than the fastest
pub none_faster : (s : ℕ → Profile) (n i : ℕ) → i < suc n → (total (s i) <ᶠ total (s (fastest s n))) ≡ false
unfolding fastest faster
none_faster s zero i h = let e : i ≡ 0 = omega arith in rw e (lt_irreflexive (total (s 0)))
none_faster s (suc n) i h =
    let t = total (s (suc n)) in
    let u = total (s (fastest s n)) in
    ⊎_elim
    (λ e. rw e (cond_by (λ (k : ℕ). (t <ᶠ total (s k)) ≡ false) (t <ᶠ u) {x = suc n} {y = fastest s n}
    (λ _. lt_irreflexive t) (λ g. g)))
    (λ l. cond_by (λ (k : ℕ). (total (s i) <ᶠ total (s k)) ≡ false) (t <ᶠ u) {x = suc n} {y = fastest s n}
    (λ g. not_through (total (s i)) t u g (none_faster s n i l))
    (λ _. none_faster s n i l))
    (split i (suc n) h)
  where
    split : (i n : ℕ) → i < suc n → (i ≡ n) ⊎ (i < n)
    split i n h = eq-or-lt_of_le (omega arith)

-- x isn't below the total of the shortest profile of a plan
abbrev NotFaster : Float → Block → Type 0
NotFaster x b = (x <ᶠ total b.p_min) ≡ false

pub three_least : (s : ℕ → Profile) (i : ℕ) → i < 3 → NotFaster (total (s i)) (of_three s)
unfolding of_three block_of
three_least s i h = none_faster s 2 i h

pub five_least : (s : ℕ → Profile) (i : ℕ) → i < 5 → NotFaster (total (s i)) (of_five s)
unfolding of_five with_two block_of
five_least s i h =
    cond_of (NotFaster (total (s i)))
    (same_direction (s ((fastest s 4 + 1) % 5)).direction (s ((fastest s 4 + 2) % 5)).direction) (none_faster s 4 i h)
    (none_faster s 4 i h)

-- of two that aren't near
pub two_least : (p q : Profile) → near (8ᶠ *ᶠ eps) (total p) (total q) ≡ false
    → NotFaster (total p) (of_two p q) × NotFaster (total q) (of_two p q)
unfolding of_two block_of
two_least p q h =
    rw h (
      cond_by (NotFaster (total p)) (total p <ᶠ total q) (λ _. lt_irreflexive (total p)) (λ g. g),
      cond_by (NotFaster (total q)) (total p <ᶠ total q) (λ g. lt_asymmetric (total p) (total q) g)
          (λ _. lt_irreflexive (total q)),
    )

-- counts 1, 3 and 5: no profile that counts is faster
pub selected_least : (s : ℕ → Profile) (n i : ℕ) → i < n → (n ≡ 1) ⊎ ((n ≡ 3) ⊎ (n ≡ 5))
    → NotFaster (total (s i)) (plan_in (selected s n))
unfolding selected
selected_least s n i h (inl e) =
    let z : i ≡ 0 = omega arith in
    rw (e, z) (unfold block_of in (lt_irreflexive (total (s 0))))
selected_least s n i h (inr (inl e)) = rw e (three_least s i (omega arith))
selected_least s n i h (inr (inr e)) = rw e (five_least s i (omega arith))

-- and where the totals are numbers, the shortest profile's is least
pub selected_least_number : (s : ℕ → Profile) (n i : ℕ) → i < n → (n ≡ 1) ⊎ ((n ≡ 3) ⊎ (n ≡ 5))
    → number_of (selected s n) ≡ 0 → ((k : ℕ) → k < n → is_nan (total (s k)) ≡ false)
    → T (total (plan_in (selected s n)).p_min ≤ᶠ total (s i))
selected_least_number s n i h c e numbers =
    not_below _ _ (numbers i h) (selected_each (λ (q : Profile). is_nan (total q) ≡ false) s n numbers e).shortest
    (selected_least s n i h c)
