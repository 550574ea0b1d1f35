-- A plan is made of the profiles that count. Assumes nothing.
use Prim.Native.Nat.{ℕ, ◌+◌, ◌%◌, ◌<◌}
use mathlib.Core.Path.{◌≡◌, refl}
use Rattle.std.proofs.Common.{Option, Some, None, Ok, Err}
use Rattle.std.specs.Result.{result_unwrap_or}
use native.Mathlib.Omega.{arith}
use borrow.Author.Tests.{eqb-true}
use lib.Ieee.{Float}
use lib.Dec.{eqb}
use Rattle.doubles.specs.Operators.{◌<ᶠ◌}
use Rattle.profile.specs.declared.Profile.{Profile}
use Rattle.block.specs.Blocks.{total, duration, no_interval, interval_from, interval_between, block_of, empty_block}
use Rattle.block.specs.Blocks.{Answer, plan_in}
use Rattle.block.specs.Selection.{near, of_two, fastest, of_three, with_two, of_five, same_direction, removal, moved_up}
use Rattle.block.specs.Selection.{of_others, of_four, selected}
use Rattle.block.specs.Plans.{Beside, Each, IntervalOf, none, some, BlockOf, chosen, AnswerOf, plan, refusal}
use Rattle.block.specs.declared.Interval.{Interval}
use Rattle.block.specs.declared.Block.{Block}
use Rattle.refusals.specs.declared.Refusal.TheVariants.{NoProfile, NoRemoval, TooManyProfiles}
use Rattle.refusals.specs.Numbers.{number_of}
use Rattle.refusals.proofs.NumberLaws.{refused}
use Rattle.doubles.proofs.CondLaws.{cond_of, cond_by}
use Rattle.block.proofs.FastestLaws.{fastest_below}
use Rattle.block.proofs.SelectionLaws.{moved_below}

module _ (s : ℕ → Profile) (n : ℕ) where
  one_stretch : (i j k : ℕ) → i < n → j < n → k < n
      → BlockOf s n (block_of (s i) (interval_between (s j) (s k)) no_interval)
  one_stretch i j k hi hj hk = chosen i hi (some j k hj hk) none

  two_plan : 1 < n → BlockOf s n (of_two (s 0) (s 1))
  unfolding of_two
  two_plan h =
      cond_of (BlockOf s n) (near _ (total (s 0)) (total (s 1)))
      (chosen 0 (omega arith) none none)
      (cond_of (BlockOf s n) (total (s 0) <ᶠ total (s 1)) (one_stretch 0 0 1 (omega arith) (omega arith) h)
      (one_stretch 1 1 0 h h (omega arith)))

-- three of the first n, in any order
three_plan : (s : ℕ → Profile) (n : ℕ) (f : ℕ → ℕ) → ((i : ℕ) → i < 3 → f i < n) → BlockOf s n (of_three (λ i. s (f i)))
unfolding of_three
three_plan s n f h =
    let i = fastest (λ i. s (f i)) 2 in
    let below : i < 3 = fastest_below (λ i. s (f i)) 2 in
    one_stretch s n (f i) (f ((i + 1) % 3)) (f ((i + 2) % 3)) (h i below) (h ((i + 1) % 3) (omega arith))
    (h ((i + 2) % 3) (omega arith))

five_plan : (s : ℕ → Profile) → BlockOf s 5 (of_five s)
unfolding of_five with_two
five_plan s =
    let i = fastest s 4 in
    let below : i < 5 = fastest_below s 4 in
    let follows : (k : ℕ) → (i + k) % 5 < 5 = λ k. omega arith in
    let pair : (j k : ℕ) → IntervalOf s 5 (interval_between (s ((i + j) % 5)) (s ((i + k) % 5))) =
    λ j k. some ((i + j) % 5) ((i + k) % 5) (follows j) (follows k) in
    cond_of (BlockOf s 5) (same_direction (s ((i + 1) % 5)).direction (s ((i + 2) % 5)).direction)
    (chosen i below (pair 1 2) (pair 3 4))
    (chosen i below (pair 1 4) (pair 2 3))

others_answer : (s : ℕ → Profile) (k : Option ℕ) → AnswerOf s 4 (of_others s k)
others_answer s None = refusal NoRemoval
others_answer s (Some index) = plan (three_plan s 4 (moved_up index) (λ i h. moved_below 4 index i (omega arith)))

four_answer : (s : ℕ → Profile) → AnswerOf s 4 (of_four s)
unfolding of_four
four_answer s = others_answer s (removal s)

-- the answer is a plan of one of these profiles, with stretches between them, or a refusal
pub answer_of_law : (s : ℕ → Profile) (n : ℕ) → AnswerOf s n (selected s n)
unfolding selected
answer_of_law s n =
    cond_by (AnswerOf s n) (eqb n 1) (λ e. let h : n ≡ 1 = eqb-true n 1 e in plan (chosen 0 (omega arith) none none))
    (λ _. cond_by (AnswerOf s n) (eqb n 2) (λ e. let h : n ≡ 2 = eqb-true n 2 e in plan (two_plan s n (omega arith)))
    (λ _. cond_by (AnswerOf s n) (eqb n 3)
    (λ e. let h : n ≡ 3 = eqb-true n 3 e in plan (three_plan s n (λ i. i) (λ i g. omega arith)))
    (λ _. cond_by (AnswerOf s n) (eqb n 4) (λ e. rw (eqb-true n 4 e) (four_answer s))
    (λ _. cond_by (AnswerOf s n) (eqb n 5) (λ e. rw (eqb-true n 5 e) (plan (five_plan s)))
    (λ _. cond_of (AnswerOf s n) (eqb n 0) (refusal NoProfile) (refusal TooManyProfiles))))))

pub plan_of : (s : ℕ → Profile) (n : ℕ) → number_of (selected s n) ≡ 0 → BlockOf s n (plan_in (selected s n))
plan_of s n = go (answer_of_law s n)
  where
    go : {r : Answer} → AnswerOf s n r → number_of r ≡ 0 → BlockOf s n (plan_in r)
    go (plan m) e = m
    go (refusal k) e = refused k e

-- a refusal leaves the empty plan
pub refused_empty : (s : ℕ → Profile) (n : ℕ) → (number_of (selected s n) ≡ 0 → ⊥) → plan_in (selected s n) ≡ empty_block
refused_empty s n = go (selected s n)
  where
    go : (r : Answer) → (number_of r ≡ 0 → ⊥) → plan_in r ≡ empty_block
    go (Ok b) f = absurd (f refl)
    go (Err k) f = refl

pub plan_or_empty : (r : Answer) → result_unwrap_or r empty_block ≡ plan_in r
plan_or_empty (Ok b) = refl
plan_or_empty (Err k) = refl

-- ---- what holds of every profile that counts holds of the shortest and of each far one
module _ (P : Profile → Type 0) where
  between_each : (p q : Profile) → P p → P q → Beside P (interval_between p q).stretch (interval_between p q).profile
  unfolding interval_between
  between_each p q hp hq =
      cond_of (λ (i : Interval). Beside P i.stretch i.profile) (duration p <ᶠ duration q) hq hp

  -- one profile alone, with no stretch or with one from a time on
  pub alone_each : (q : Profile) → P q → Each P (block_of q no_interval no_interval)
  unfolding block_of no_interval
  alone_each q h = record { shortest = h; beside_a = refl; beside_b = refl }

  pub from_each : (q : Profile) (t : Float) → P q → Each P (block_of q (interval_from t) no_interval)
  unfolding block_of no_interval interval_from
  from_each q t h = record { shortest = h; beside_a = refl; beside_b = refl }

  module _ (s : ℕ → Profile) (n : ℕ) (h : (i : ℕ) → i < n → P (s i)) where
    interval_each : {a : Interval} → IntervalOf s n a → Beside P a.stretch a.profile
    interval_each none = unfold no_interval in refl
    interval_each (some i j hi hj) = between_each (s i) (s j) (h i hi) (h j hj)

    block_each : {b : Block} → BlockOf s n b → Each P b
    block_each (chosen i {a} {b} hi ha hb) =
        unfold block_of in (record { shortest = h i hi; beside_a = interval_each ha; beside_b = interval_each hb })

    -- for whole plans: P of every profile that counts gives P of the plan's and of each far one
    pub selected_each : number_of (selected s n) ≡ 0 → Each P (plan_in (selected s n))
    selected_each e = block_each (plan_of s n e)

-- ---- the shortest duration is its profile's
pub selected_duration : (s : ℕ → Profile) (n : ℕ) → number_of (selected s n) ≡ 0
    → (plan_in (selected s n)).t_min ≡ duration (plan_in (selected s n)).p_min
selected_duration s n e = go (plan_of s n e)
  where
    go : {b : Block} → BlockOf s n b → b.t_min ≡ duration b.p_min
    go (chosen i hi ha hb) = unfold block_of in refl
