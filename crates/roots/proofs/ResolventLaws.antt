-- For any doubles the resolvent's t is a number from -1 to 1, and its count is 1, 2 or 3. Assumes nothing.
use mathlib.Core.Path.{◌≡◌, refl}
use Prim.Native.Nat.{◌≤◌}
use mathlib.Core.Bool.{false}
use lib.Ieee.{Float, neg, of_bits, lt, is_nan}
use Rattle.doubles.specs.Operators.{◌-ᶠ◌, ◌*ᶠ◌, ◌/ᶠ◌, -ᶠ◌, ◌<ᶠ◌}
use Rattle.doubles.specs.Constants.{1ᶠ}
use Rattle.doubles.specs.Functions.{minᶠ, maxᶠ}
use native.Mathlib.Omega.{arith}
use Rattle.roots.specs.declared.resolvent.Zeros.{Zeros}
use Rattle.roots.specs.declared.resolvent.Zeros.TheVariants.{One, Two, Three}
use Rattle.roots.specs.Resolvent.{zero_count, clamped_ratio, resolvent_of}
use Rattle.doubles.proofs.CondLaws.{by_cases}

-- a number, not above 1 and not below -1
pub record InRange (t : Float) : Type 0 where
  pub number : is_nan t ≡ false
  pub low : (t <ᶠ -ᶠ 1ᶠ) ≡ false
  pub high : (1ᶠ <ᶠ t) ≡ false

record AtMostOne (t : Float) : Type 0 where
  number : is_nan t ≡ false
  high : (1ᶠ <ᶠ t) ≡ false

min_one : (x : Float) → AtMostOne (minᶠ x 1ᶠ)
unfolding minᶠ
min_one x = by_cases (is_nan x) (λ i. rw i itself)
    (λ i. by_cases (1ᶠ <ᶠ x) (λ j. rw (i, j) itself) (λ j. rw (i, j) (record { number = i; high = j })))
  where
    itself : AtMostOne 1ᶠ
    itself = unfold of_bits lt is_nan in (record { number = refl; high = refl })

max_minus_one : (x : Float) → AtMostOne x → InRange (maxᶠ x (-ᶠ 1ᶠ))
unfolding maxᶠ
max_minus_one x h =
    by_cases (x <ᶠ -ᶠ 1ᶠ) (λ i. rw (h.number, i) itself)
    (λ i. rw (h.number, i) (record { number = h.number; low = i; high = h.high }))
  where
    itself : InRange (-ᶠ 1ᶠ)
    itself = unfold of_bits neg lt is_nan in (record { number = refl; low = refl; high = refl })

pub ratio_in_range : (q root r : Float) → InRange (clamped_ratio q root r)
unfolding clamped_ratio
ratio_in_range q root r = max_minus_one (minᶠ (r /ᶠ (q *ᶠ root)) 1ᶠ) (min_one (r /ᶠ (q *ᶠ root)))

-- ---- the count

pub record OneToThree (z : Zeros) : Type 0 where
  pub low : 1 ≤ zero_count z
  pub high : zero_count z ≤ 3

counted : (z : Zeros) → OneToThree z
counted (One _ _ _) = record { low = omega arith; high = omega arith }
counted (Two _ _) = record { low = omega arith; high = omega arith }
counted (Three _ _ _) = record { low = omega arith; high = omega arith }

pub resolvent_count : (a b c : Float) → OneToThree (resolvent_of a b c)
resolvent_count a b c = counted (resolvent_of a b c)
