-- No stretch of a plan begins before the plan's profile ends: its ends are durations of profiles that count, none of
-- which is faster. Assumes nothing.
use Prim.Native.Nat.{ℕ, suc, ◌+◌, ◌%◌, ◌<◌}
use mathlib.Core.Path.{◌≡◌}
use mathlib.Core.Bool.{false}
use Rattle.std.proofs.Common.{Option, Some, None}
use native.Mathlib.Omega.{arith}
use borrow.Author.Tests.{eqb-true}
use lib.Dec.{eqb}
use Rattle.doubles.specs.Operators.{◌<ᶠ◌}
use Rattle.profile.specs.declared.Profile.{Profile}
use Rattle.block.specs.Blocks.{total, duration, no_interval, interval_from, interval_between, block_of}
use Rattle.block.specs.Blocks.{Answer, plan_in}
use Rattle.block.specs.Selection.{near, of_two, fastest, of_three, with_two, of_five, same_direction, removal, moved_up}
use Rattle.block.specs.Selection.{of_others, of_four, selected}
use Rattle.refusals.specs.declared.Refusal.TheVariants.{NoProfile, NoRemoval, TooManyProfiles}
use Rattle.block.specs.Plans.{After, nothing, between, from, EachAfter}
use Rattle.block.specs.declared.Interval.{Interval}
use Rattle.refusals.specs.Numbers.{number_of}
use Rattle.refusals.proofs.NumberLaws.{refused}
use Rattle.doubles.proofs.CondLaws.{cond_of, cond_by}
use Rattle.doubles.proofs.ComparisonLaws.{lt_irreflexive, lt_asymmetric}
use Rattle.block.proofs.LeastLaws.{none_faster}
use Rattle.block.proofs.SelectionLaws.{moved_below}

module _ (P : Profile → Type 0) where
  -- of an answer that is a plan
  abbrev PlanAfter : Answer → Type 0
  PlanAfter r = number_of r ≡ 0 → EachAfter P (plan_in r)

  -- l is no profile that is faster than q
  record NotFaster (q l : Profile) : Type 0 where
    holds : P l
    not_faster : (total l <ᶠ total q) ≡ false

  itself : (q : Profile) → P q → NotFaster q q
  itself q h = record { holds = h; not_faster = lt_irreflexive (total q) }

  between_after : (q l r : Profile) → NotFaster q l → NotFaster q r → After P q (interval_between l r).stretch
  unfolding interval_between
  between_after q l r hl hr =
      cond_by (λ (i : Interval). After P q i.stretch) (duration l <ᶠ duration r)
      (λ h. between l r hl.holds hr.holds hl.not_faster (lt_asymmetric (duration l) (duration r) h))
      (λ h. between r l hr.holds hl.holds hr.not_faster h)

  -- ---- a plan with no stretch, with one from its end on, with one and with two between others
  pub alone_after : (q : Profile) → EachAfter P (block_of q no_interval no_interval)
  unfolding block_of no_interval
  alone_after q = record { stretch_a = nothing; stretch_b = nothing }

  pub from_after : (q : Profile) → EachAfter P (block_of q (interval_from (duration q)) no_interval)
  unfolding block_of no_interval interval_from
  from_after q = record { stretch_a = from; stretch_b = nothing }

  one_after : (q l r : Profile) → NotFaster q l → NotFaster q r
      → EachAfter P (block_of q (interval_between l r) no_interval)
  unfolding block_of no_interval
  one_after q l r hl hr = record { stretch_a = between_after q l r hl hr; stretch_b = nothing }

  two_after : (q l r k m : Profile) → NotFaster q l → NotFaster q r → NotFaster q k → NotFaster q m
      → EachAfter P (block_of q (interval_between l r) (interval_between k m))
  unfolding block_of
  two_after q l r k m hl hr hk hm =
      record { stretch_a = between_after q l r hl hr; stretch_b = between_after q k m hk hm }

  -- ---- by the count
  of_two_law : (p q : Profile) → P p → P q → EachAfter P (of_two p q)
  unfolding of_two
  of_two_law p q hp hq =
      cond_of (EachAfter P) (near _ (total p) (total q)) (alone_after p)
      (cond_by (EachAfter P) (total p <ᶠ total q)
      (λ h. one_after p p q (itself p hp) (record { holds = hq; not_faster = lt_asymmetric (total p) (total q) h }))
      (λ h. one_after q q p (itself q hq) (record { holds = hp; not_faster = h })))

  module _ (s : ℕ → Profile) where
    -- of the first n + 1 none is faster than the fastest
    fastest_of : (n : ℕ) → ((i : ℕ) → i < suc n → P (s i)) → (i : ℕ) → i < suc n → NotFaster (s (fastest s n)) (s i)
    fastest_of n h i l = record { holds = h i l; not_faster = none_faster s n i l }

    of_three_law : ((i : ℕ) → i < 3 → P (s i)) → EachAfter P (of_three s)
    unfolding of_three
    of_three_law h =
        let i = fastest s 2 in
        one_after (s i) (s ((i + 1) % 3)) (s ((i + 2) % 3)) (fastest_of 2 h ((i + 1) % 3) (omega arith))
        (fastest_of 2 h ((i + 2) % 3) (omega arith))

    of_five_law : ((i : ℕ) → i < 5 → P (s i)) → EachAfter P (of_five s)
    unfolding of_five with_two
    of_five_law h =
        let i = fastest s 4 in
        let follows : (k : ℕ) → NotFaster (s i) (s ((i + k) % 5)) = λ k. fastest_of 4 h ((i + k) % 5) (omega arith) in
        cond_of (EachAfter P) (same_direction (s ((i + 1) % 5)).direction (s ((i + 2) % 5)).direction)
        (two_after (s i) _ _ _ _ (follows 1) (follows 2) (follows 3) (follows 4))
        (two_after (s i) _ _ _ _ (follows 1) (follows 4) (follows 2) (follows 3))

  of_others_law : (s : ℕ → Profile) → ((i : ℕ) → i < 4 → P (s i)) → (k : Option ℕ) → PlanAfter (of_others s k)
  of_others_law s h None = refused NoRemoval
  of_others_law s h (Some index) =
      λ _. of_three_law (λ i. s (moved_up index i)) (λ i l. h (moved_up index i) (moved_below 4 index i (omega arith)))

  of_four_law : (s : ℕ → Profile) → ((i : ℕ) → i < 4 → P (s i)) → PlanAfter (of_four s)
  unfolding of_four
  of_four_law s h = of_others_law s h (removal s)

  -- for whole plans: where P holds of every profile that counts, each stretch is nothing, or between the durations of
  -- two of them, the left of which isn't faster than the plan's
  pub selected_after : (s : ℕ → Profile) (n : ℕ) → ((i : ℕ) → i < n → P (s i)) → number_of (selected s n) ≡ 0
      → EachAfter P (plan_in (selected s n))
  unfolding selected
  selected_after s n h =
      cond_by PlanAfter (eqb n 1) (λ e _. alone_after (s 0))
      (λ _. cond_by PlanAfter (eqb n 2)
      (λ e _. let k : n ≡ 2 = eqb-true n 2 e in of_two_law (s 0) (s 1) (h 0 (omega arith)) (h 1 (omega arith)))
      (λ _. cond_by PlanAfter (eqb n 3) (λ e _. of_three_law s (rw (eqb-true n 3 e) at h))
      (λ _. cond_by PlanAfter (eqb n 4) (λ e. of_four_law s (rw (eqb-true n 4 e) at h))
      (λ _. cond_by PlanAfter (eqb n 5) (λ e _. of_five_law s (rw (eqb-true n 5 e) at h))
      (λ _. cond_of PlanAfter (eqb n 0) (refused NoProfile) (refused TooManyProfiles))))))
