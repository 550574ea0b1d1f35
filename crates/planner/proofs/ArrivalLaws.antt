-- The arrival of several plans: their numbers in two slices are their axes, number 9 doesn't turn them back, and a time
-- is free for all axes where `is_blocked` says so of each plan. Assumes nothing.
use Prim.Native.Nat.{ℕ, zero, suc, ◌+◌, ◌*◌, ◌≤◌, ◌<◌}
use mathlib.Core.Path.{◌≡◌, refl, ap}
use mathlib.Core.Bool.{false}
use mathlib.Core.List.{List, [], ◌∷◌}
use native.Mathlib.Omega.{arith}
use borrow.Author.Tests.{le-ltb, eq-eqb, ne_eqb}
use lib.ListN.{length}
use lib.Ieee.{Float}
use Rattle.std.specs.Prelude.{Result, Ok, Err}
use mathlib.Core.Logic.{inl, inr}
use Rattle.refusals.specs.Numbers.{number_of}
use Rattle.refusals.specs.declared.Refusal.{Refusal}
use Rattle.doubles.specs.Operators.{at}
use Rattle.doubles.specs.Value.{Finite}
use Rattle.block.specs.declared.Block.{Block}
use Rattle.arrival.specs.Axes.{axis_of}
use Rattle.arrival.specs.Arrivals.{wrong_count, WellFormed, FreeForAll, IsArrival}
use Rattle.arrival.specs.declared.answer.Arrival.{Arrival}
use Rattle.arrival.proofs.ArrivalLaws.{nine}
use Rattle.planner.specs.Arrival.{axis_of_plan, plan_durations, plan_ends, plan_at, AllJoinable, AllFree, Meets}
use Rattle.planner.proofs.AxisLaws.{free_says}

-- ---- the slices of plans
pub durations_length : (bs : List Block) → length (plan_durations bs) ≡ length bs
unfolding plan_durations
durations_length [] = refl
durations_length (b ∷ bs) = ap suc (durations_length bs)

pub ends_length_law : (bs : List Block) → length (plan_ends bs) ≡ 4 * length bs
unfolding plan_ends
ends_length_law [] = refl
ends_length_law (b ∷ bs) = omega (arith, ends_length_law bs)

-- past the first four
past_four : (w x y z : Float) (l : List Float) (j k : ℕ) → j ≡ suc (suc (suc (suc k)))
    → at (w ∷ x ∷ y ∷ z ∷ l) j ≡ at l k
past_four w x y z l j k e = rw e

-- axis i of the slices is plan i
pub axis_of_plan_law : (bs : List Block) (i : ℕ) → i < length bs
    → axis_of (plan_durations bs) (plan_ends bs) i ≡ axis_of_plan (plan_at bs i)
unfolding plan_durations plan_ends axis_of axis_of_plan
axis_of_plan_law [] i h = absurd (let none : ⊥ = omega arith in none)
axis_of_plan_law (b ∷ bs) zero h = refl
axis_of_plan_law (b ∷ bs) (suc i) h =
    let next : (j k : ℕ) → j ≡ suc (suc (suc (suc k))) → at (plan_ends (b ∷ bs)) j ≡ at (plan_ends bs) k =
    past_four _ _ _ _ (plan_ends bs) in
    rw (
      next (4 * suc i) (4 * i) (omega arith),
      next (4 * suc i + 1) (4 * i + 1) (omega arith),
      next (4 * suc i + 2) (4 * i + 2) (omega arith),
      next (4 * suc i + 3) (4 * i + 3) (omega arith),
    )
    (axis_of_plan_law bs i (omega arith))

-- ---- 1 to 8 plans that could be joined each are never turned back
module _ (bs : List Block) (some : 0 < length bs) (few : length bs ≤ 8) (joinable : AllJoinable bs) where
  right_count : wrong_count (plan_durations bs) (plan_ends bs) ≡ false
  unfolding wrong_count
  right_count =
      let some_of : length bs ≡ 0 → ⊥ = λ e. omega arith in
      rw (
        durations_length bs,
        ends_length_law bs,
        ne_eqb (length bs) 0 some_of,
        le-ltb 8 (length bs) few,
        eq-eqb (4 * length bs) (4 * length bs) refl,
      )

  pub plans_well_formed : WellFormed (plan_durations bs) (plan_ends bs)
  plans_well_formed =
      record {
        count = right_count;
        axes = λ i l.
            let m : i < length bs = rw durations_length at l in
            rw (axis_of_plan_law bs i m) (joinable i m);
      }

-- ---- free for all axes: each plan says so
module _ (bs : List Block) (t : Float) (f : Finite t) where
  pub each_says : FreeForAll (plan_durations bs) (plan_ends bs) t → AllFree bs t
  each_says h i l =
      (free_says (plan_at bs i) t f).1 (rw (axis_of_plan_law bs i l) at (h i (rw durations_length l)))

  pub all_free : AllFree bs t → FreeForAll (plan_durations bs) (plan_ends bs) t
  all_free h i l =
      let m : i < length bs = rw durations_length at l in
      rw (axis_of_plan_law bs i m) ((free_says (plan_at bs i) t f).0 (h i m))

-- at the time of the arrival each plan is free, and at no smaller finite time all are; or at no finite time all are
pub arrival_meets : (bs : List Block) → 0 < length bs → length bs ≤ 8 → AllJoinable bs → (r : Result Arrival Refusal)
    → IsArrival (plan_durations bs) (plan_ends bs) r → Meets bs r
arrival_meets bs some few joinable (Ok x) a = (
  each_says bs x.time a.1.finite a.1.free,
  λ t f l g. a.1.no_smaller t l (all_free bs t f g),
)
arrival_meets bs some few joinable (Err refusal) (inl a) = absurd (a.1 (plans_well_formed bs some few joinable))
arrival_meets bs some few joinable (Err refusal) (inr a) = (a.0, λ t f g. a.2 t f (all_free bs t f g))

pub never_nine : (bs : List Block) → 0 < length bs → length bs ≤ 8 → AllJoinable bs → (r : Result Arrival Refusal)
    → IsArrival (plan_durations bs) (plan_ends bs) r → number_of r ≡ 9 → ⊥
never_nine bs some few joinable r a e =
    (nine (plan_durations bs) (plan_ends bs) r a).0 e (plans_well_formed bs some few joinable)
