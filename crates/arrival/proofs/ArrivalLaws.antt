-- What users rely on: one answer and no other is the arrival, when it is 9 or 10, that the order of the axes changes no
-- time, and that a single axis without stretches arrives after its duration. Assumes nothing.
use Prim.Native.Nat.{ℕ, zero, suc, ◌≤◌, ◌<◌}
use native.Mathlib.Nat.{le_antisymm}
use native.Mathlib.Omega.{arith}
use mathlib.Core.Path.{◌≡◌, refl, sym, ap, ◌∙◌, subst}
use mathlib.Core.Bool.{true, false, true≢false}
use mathlib.Core.Logic.{◌↔◌, inl, inr}
use Rattle.std.specs.Prelude.{Result, Ok, Err}
use mathlib.Core.List.{List, [], ◌∷◌}
use borrow.Author.Tests.{ltb-true, ltb-false}
use lib.Dec.{ltb}
use lib.ListN.{length}
use lib.Ieee.{Float, is_nan}
use lib.Ieee.Bits.{is_true}
use lib.Ieee.Scale.{finite as finite?}
use Rattle.doubles.specs.Operators.{◌<ᶠ◌, ◌==ᶠ◌}
use Rattle.doubles.specs.Constants.{0ᶠ}
use Rattle.doubles.specs.Functions.{absᶠ}
use Rattle.doubles.specs.Value.{Fits, Finite}
use Rattle.doubles.proofs.CondLaws.{by_cases}
use Rattle.doubles.proofs.UnsignedLaws.{finite_number, equal_of_neither, same_double}
use Rattle.doubles.proofs.UnsignedLaws.{abs_unsigned, abs_fits, abs_finite, abs_level}
use Rattle.doubles.proofs.ComparisonLaws.{lt_eq, eq_not_lt}
use Rattle.doubles.proofs.FunctionLaws.{holds}
use Rattle.arrival.specs.Axes.{axis_of, missing, free, has, wrong_axis}
use Rattle.refusals.specs.Numbers.{refusal_number, number_of}
use Rattle.refusals.specs.declared.Refusal.{Refusal}
use Rattle.arrival.specs.Arrivals.{arrival_time, arrival_axis, wrong_count, WellFormed, FreeForAll}
use Rattle.arrival.specs.Arrivals.{Earliest, IsArrival, Given, SameAxes}
use Rattle.arrival.specs.declared.answer.Arrival.{Arrival}
use Rattle.arrival.proofs.ScanLaws.{clash}

-- two times of which neither is below the other
same_time : (t u : Float) → Fits t → Fits u → Finite t → Finite u → absᶠ t ≡ t → absᶠ u ≡ u
    → ((t <ᶠ u) ≡ true → ⊥) → ((u <ᶠ t) ≡ true → ⊥) → t ≡ u
same_time t u p q i j a b l g =
    same_double t u p q i j a b
    (equal_of_neither t u (finite_number t i) (finite_number u j)
    (by_cases (t <ᶠ u) (λ h. absurd (l h)) (λ h. h)) (by_cases (u <ᶠ t) (λ h. absurd (g h)) (λ h. h)))

-- ---- there is one answer
module _ (durations ends : List Float) where
  same_earliest_time : (t u : Float) (k l : ℕ) → Earliest durations ends t k → Earliest durations ends u l → t ≡ u
  same_earliest_time t u k l h g =
      same_time t u h.double g.double h.finite g.finite h.not_minus_zero g.not_minus_zero
      (λ e. g.no_smaller t e h.free) (λ e. h.no_smaller u e g.free)

  lowest_below : (t : Float) (k l : ℕ) → Earliest durations ends t k → Earliest durations ends t l → k < l → ⊥
  lowest_below t k l h g e = clash h.has_it (g.lowest k e)

  same_axis : (t : Float) (k l : ℕ) → Earliest durations ends t k → Earliest durations ends t l → k ≡ l
  same_axis t k l h g = le_antisymm (at_most l k (lowest_below t l k g h)) (at_most k l (lowest_below t k l h g))
    where
      at_most : (a b : ℕ) → (a < b → ⊥) → b ≤ a
      at_most a b f = by_cases (ltb a b) (λ e. absurd (f (ltb-true a b e))) (λ e. ltb-false a b e)

  pub one_answer : (r s : Result Arrival Refusal) → IsArrival durations ends r → IsArrival durations ends s → r ≡ s
  one_answer (Ok x) (Ok y) h g =
      let e = same_earliest_time x.time y.time x.axis y.axis h.1 g.1 in
      let later = subst (λ (v : Float). Earliest durations ends v y.axis) (sym e) g.1 in
      let i = same_axis x.time x.axis y.axis h.1 later in
      λ j. Ok (record { time = e j; axis = i j })
  one_answer (Ok x) (Err q) h (inl g) = absurd (g.1 h.0)
  one_answer (Ok x) (Err q) h (inr g) = absurd (g.2 x.time h.1.finite h.1.free)
  one_answer (Err p) (Ok y) (inl h) g = absurd (h.1 g.0)
  one_answer (Err p) (Ok y) (inr h) g = absurd (h.2 y.time g.1.finite g.1.free)
  one_answer (Err p) (Err q) (inl h) (inl g) = ap Err (h.0 ∙ sym g.0)
  one_answer (Err p) (Err q) (inl h) (inr g) = absurd (h.1 g.1)
  one_answer (Err p) (Err q) (inr h) (inl g) = absurd (g.1 h.1)
  one_answer (Err p) (Err q) (inr h) (inr g) = ap Err (h.0 ∙ sym g.0)

  -- so the three numbers that a program is given are fixed
  pub one_given : {n m : ℕ} {t u : Float} {k l : ℕ} → Given durations ends n t k → Given durations ends m u l
      → (n ≡ m) × (t ≡ u) × (k ≡ l)
  one_given h g =
      let e = one_answer h.answer g.answer h.is_arrival g.is_arrival in (
        h.number_is ∙ ap number_of e ∙ sym g.number_is,
        h.time_is ∙ ap arrival_time e ∙ sym g.time_is,
        h.axis_is ∙ ap arrival_axis e ∙ sym g.axis_is,
      )

  -- ---- number 9 where the slices aren't well formed, and only there; else 10 where no finite time is free for all
  pub nine : (r : Result Arrival Refusal) → IsArrival durations ends r
      → (number_of r ≡ 9) ↔ (WellFormed durations ends → ⊥)
  nine (Ok x) h = (λ e. absurd (let z : ⊥ = omega arith in z), λ f. absurd (f h.0))
  nine (Err q) (inl h) = (λ e. h.1, λ f. ap refusal_number h.0)
  nine (Err q) (inr h) = (λ e. absurd (other e), λ f. absurd (f h.1))
    where
      other : refusal_number q ≡ 9 → ⊥
      other e = let z = rw h.0 at e in omega arith

  pub ten : (r : Result Arrival Refusal) → IsArrival durations ends r → (number_of r ≡ 10)
      ↔ (WellFormed durations ends × ((t : Float) → Finite t → FreeForAll durations ends t → ⊥))
  ten (Ok x) h =
      (λ e. absurd (let z : ⊥ = omega arith in z), λ f. absurd (f.1 x.time h.1.finite h.1.free))
  ten (Err q) (inl h) = (λ e. absurd (other e), λ f. absurd (h.1 f.0))
    where
      other : refusal_number q ≡ 10 → ⊥
      other e = let z = rw h.0 at e in omega arith
  ten (Err q) (inr h) = (λ e. (h.1, h.2), λ f. ap refusal_number h.0)

-- ---- the order of the axes changes no time

module _ {durations ends durations' ends' : List Float} where
  turned : SameAxes durations ends durations' ends' → SameAxes durations' ends' durations ends
  turned s =
      record {
        as_many_axes = sym s.as_many_axes;
        as_many_ends = sym s.as_many_ends;
        from = s.to;
        from_there = s.to_there;
        from_is = s.to_is;
        to = s.from;
        to_there = s.from_there;
        to_is = s.from_is;
      }

module _ {durations ends durations' ends' : List Float} (s : SameAxes durations ends durations' ends') where
  still_well_formed : WellFormed durations ends → WellFormed durations' ends'
  unfolding wrong_count
  still_well_formed w =
      record {
        count = rw (← s.as_many_axes, ← s.as_many_ends) w.count;
        axes = λ i l. rw (s.to_is i l) (w.axes (s.to i l) (s.to_there i l));
      }

  still_free : (t : Float) → FreeForAll durations ends t → FreeForAll durations' ends' t
  still_free t f i l = rw (s.to_is i l) (f (s.to i l) (s.to_there i l))

module _ {durations ends durations' ends' : List Float} (s : SameAxes durations ends durations' ends') where
  pub same_answer : (q r : Result Arrival Refusal) → IsArrival durations ends q → IsArrival durations' ends' r
      → (number_of q ≡ number_of r) × (arrival_time q ≡ arrival_time r)
  same_answer (Ok x) (Ok y) h g = (
    refl,
    same_time x.time y.time h.1.double g.1.double h.1.finite g.1.finite h.1.not_minus_zero
        g.1.not_minus_zero
        (λ e. g.1.no_smaller x.time e (still_free s x.time h.1.free))
        (λ e. h.1.no_smaller y.time e (still_free (turned s) y.time g.1.free)),
  )
  same_answer (Ok x) (Err q) h (inl g) = absurd (g.1 (still_well_formed s h.0))
  same_answer (Ok x) (Err q) h (inr g) = absurd (g.2 x.time h.1.finite (still_free s x.time h.1.free))
  same_answer (Err p) (Ok y) (inl h) g = absurd (h.1 (still_well_formed (turned s) g.0))
  same_answer (Err p) (Ok y) (inr h) g = absurd (h.2 y.time g.1.finite (still_free (turned s) y.time g.1.free))
  same_answer (Err p) (Err q) (inl h) (inl g) = (ap refusal_number (h.0 ∙ sym g.0), refl)
  same_answer (Err p) (Err q) (inl h) (inr g) = absurd (h.1 (still_well_formed (turned s) g.1))
  same_answer (Err p) (Err q) (inr h) (inl g) = absurd (g.1 (still_well_formed s h.1))
  same_answer (Err p) (Err q) (inr h) (inr g) = (ap refusal_number (h.0 ∙ sym g.0), refl)

-- ---- one axis without stretches arrives after its duration
module _ (d a b c e : Float) (double : Fits d) (finite : Finite d) (not_negative : (d <ᶠ 0ᶠ) ≡ false)
    (no-a : missing a b ≡ true) (no-b : missing c e ≡ true) where
  abbrev ends : List Float
  ends = a ∷ b ∷ c ∷ e ∷ []

  number : is_nan d ≡ false
  number = finite_number d finite

  only_axis : (P : ℕ → Type 0) → P 0 → (i : ℕ) → i < length (d ∷ []) → P i
  only_axis P p zero l = p
  only_axis P p (suc i) l = absurd (none i l)
    where
      none : (i : ℕ) → suc i < 1 → ⊥
      none i l = omega arith

  well_formed : WellFormed (d ∷ []) ends
  unfolding wrong_count wrong_axis axis_of
  well_formed =
      record {
        count = refl;
        axes = only_axis (λ i. wrong_axis (axis_of (d ∷ []) ends i) ≡ false)
            (rw (not_negative, is_true (finite? d) finite, no-a, no-b));
      }

  is_free : (t : Float) → (t <ᶠ d) ≡ false → FreeForAll (d ∷ []) ends t
  unfolding free axis_of
  is_free t h = only_axis (λ i. free (axis_of (d ∷ []) ends i) t ≡ true) (rw (h, no-a, no-b))

  not_free : (t : Float) → (t <ᶠ d) ≡ true → FreeForAll (d ∷ []) ends t → ⊥
  unfolding free axis_of
  not_free t h f = let z = f 0 (omega arith) in true≢false (sym (rw h at z))

  has_duration : has (axis_of (d ∷ []) ends 0) (absᶠ d) ≡ true
  unfolding has axis_of
  has_duration = rw (abs_level d number not_negative).1

  pub alone : (r : Result Arrival Refusal) → IsArrival (d ∷ []) ends r → r ≡ Ok (record { time = absᶠ d; axis = 0 })
  alone r h =
      let level = abs_level d number not_negative in
      one_answer (d ∷ []) ends r (Ok (record { time = absᶠ d; axis = 0 })) h (
        well_formed,
        record {
          double = abs_fits d double;
          finite = abs_finite d finite;
          not_minus_zero = abs_unsigned d;
          free = is_free (absᶠ d) (eq_not_lt (absᶠ d) d (holds (absᶠ d ==ᶠ d) level.0));
          no_smaller = λ t l. not_free t
              (is_true (t <ᶠ d) (lt_eq t (absᶠ d) d (holds (t <ᶠ absᶠ d) l) (holds (absᶠ d ==ᶠ d) level.0)));
          there = omega arith;
          has_it = has_duration;
          lowest = λ i l. absurd (let z : ⊥ = omega arith in z);
        },
      )
