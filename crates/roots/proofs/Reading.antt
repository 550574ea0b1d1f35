-- What a list of roots holds after insertions, and the order in which it is read. Assumes nothing.
use mathlib.Core.Path.{◌≡◌, refl, sym, ap, ◌∙◌}
use Prim.Native.Nat.{ℕ, zero, suc, ◌+◌, ◌≤◌, ◌<◌}
use native.Mathlib.Numerals.{add-one}
use native.Mathlib.Omega.{arith}
use mathlib.Core.Bool.{false}
use mathlib.Core.List.{List, [], ◌∷◌, ◌++◌, append-nil, append_assoc}
use borrow.Author.Tests.{lt-ltb, le-ltb, ltb-true, ltb-false}
use lib.Dec.{ltb}
use lib.Ieee.{Float}
use lib.ListN.{length, take, drop, set, length-set}
use lib.Seq.{take_at, take_all, take-suc-set, length-take-le}
use Rattle.doubles.specs.Operators.{◌≤ᶠ◌}
use Rattle.doubles.specs.Constants.{0ᶠ}
use Rattle.roots.specs.declared.list.Roots.{Roots}
use Rattle.roots.specs.List.{no_roots, inserted, sorted_from, roots_of, ascending_of}
use Rattle.doubles.specs.Value.{AtLeastZero}
use Rattle.roots.specs.Reading.{inserted_all, non_negative, equal_to, Ascending, none}
use Rattle.doubles.proofs.CondLaws.{by_cases}
use Rattle.roots.proofs.Sorting.{Members, empty, add, sorted_ascends, sorted_stable}
use Rattle.roots.proofs.Placing.{sorted_length}

-- an array of four, of which at most four are counted
pub record Held (l : Roots) : Type 0 where
  pub places : length l.values ≡ 4
  pub room : l.count ≤ 4

held_length : (l : Roots) → Held l → length (roots_of l) ≡ l.count
held_length l h = length-take-le l.count l.values (omega arith)

-- ---- insertion

module _ (l : Roots) (x : Float) where
  appended : AtLeastZero x → l.count < 4
      → inserted l x ≡ record { values = set l.values l.count x; count = l.count + 1 }
  unfolding inserted
  appended h r = rw (h, lt-ltb l.count 4 r)

  full : 4 ≤ l.count → inserted l x ≡ l
  unfolding inserted
  full r = by_cases (0ᶠ ≤ᶠ x) (λ i. rw (i, le-ltb l.count 4 r)) (λ i. rw i)

  left_out : (0ᶠ ≤ᶠ x) ≡ false → inserted l x ≡ l
  unfolding inserted
  left_out h = rw h

-- what one insertion does, in each of the three cases
record Step (l : Roots) (x : Float) (later : List Float) : Type 0 where
  held : Held (inserted l x)
  roots : take 4 (roots_of (inserted l x) ++ non_negative later) ≡ take 4 (roots_of l ++ non_negative (x ∷ later))

module _ (l : Roots) (x : Float) (later : List Float) (h : Held l) where
  step_appended : AtLeastZero x → l.count < 4 → Step l x later
  step_appended i r =
      record {
        held = rw (appended l x i r)
            (record { places = length-set l.values l.count x ∙ h.places; room = omega arith });
        roots =
            rw (
              appended l x i r,
              add-one l.count,
              take-suc-set l.values l.count x (omega arith),
              append_assoc (roots_of l) (x ∷ []) (non_negative later),
            )
            (unfold non_negative in rw i);
      }

  step_full : AtLeastZero x → 4 ≤ l.count → Step l x later
  step_full i r =
      record {
        held = rw (full l x r) h;
        roots = rw (full l x r) (first_four (non_negative later) ∙ sym (first_four (non_negative (x ∷ later))));
      }
    where
      first_four : (rest : List Float) → take 4 (roots_of l ++ rest) ≡ roots_of l
      first_four rest = take_at (roots_of l) rest 4 (held_length l h ∙ omega arith)

  step_left_out : (0ᶠ ≤ᶠ x) ≡ false → Step l x later
  step_left_out i = record { held = rw (left_out l x i) h; roots = rw (left_out l x i) (unfold non_negative in rw i) }

  step : Step l x later
  step = by_cases (0ᶠ ≤ᶠ x)
      (λ i. by_cases (ltb l.count 4) (λ r. step_appended i (ltb-true l.count 4 r))
      (λ r. step_full i (ltb-false l.count 4 r))) step_left_out

insertions : (xs : List Float) (l : Roots) → Held l
    → Held (inserted_all l xs) × (roots_of (inserted_all l xs) ≡ take 4 (roots_of l ++ non_negative xs))
unfolding inserted_all
insertions [] l h = (
  h,
  unfold non_negative in
      (rw (append-nil (roots_of l)) (sym (take_all 4 (roots_of l) (omega (arith, held_length l h))))),
)
insertions (x ∷ xs) l h =
    let s = step l x xs h in
    let i = insertions xs (inserted l x) s.held in
    (i.0, i.1 ∙ s.roots)

empty_held : Held no_roots
empty_held = record { places = refl; room = omega arith }

-- everything inserted that is at least 0 is there, in the order of insertion, up to four
pub inserted_kept : (xs : List Float) → roots_of (inserted_all no_roots xs) ≡ take 4 (non_negative xs)
inserted_kept xs = (insertions xs no_roots empty_held).1

-- ---- reading

take_members : (n : ℕ) (l : List Float) → Members l → Members (take n l)
take_members zero l m = empty
take_members (suc n) [] m = empty
take_members (suc n) (x ∷ l) (add h m) = add h (take_members n l m)

kept_members : (xs : List Float) → Members (non_negative xs)
unfolding non_negative
kept_members [] = empty
kept_members (x ∷ xs) = by_cases (0ᶠ ≤ᶠ x) (λ i. rw i (add i (kept_members xs))) (λ i. rw i (kept_members xs))

reading : (l : Roots) → Held l → roots_of (ascending_of l) ≡ sorted_from [] (roots_of l)
unfolding ascending_of
reading l h =
    take_at (sorted_from [] (roots_of l)) (drop l.count l.values) l.count
    (omega (arith, sorted_length [] (roots_of l), held_length l h))

module _ (xs : List Float) where
  members : Members (roots_of (inserted_all no_roots xs))
  members = rw (inserted_kept xs) (take_members 4 (non_negative xs) (kept_members xs))

  read : roots_of (ascending_of (inserted_all no_roots xs)) ≡ sorted_from [] (roots_of (inserted_all no_roots xs))
  read = reading (inserted_all no_roots xs) (insertions xs no_roots empty_held).0

  -- the roots are read ascending
  pub reading_ascends : Ascending (roots_of (ascending_of (inserted_all no_roots xs)))
  reading_ascends = rw read (sorted_ascends [] (roots_of (inserted_all no_roots xs)) empty members none)

  -- Read are the roots of the list, equal ones in the order of insertion: those equal to any v
  -- are the same, in the same order.
  pub reading_stable : (v : Float)
      → equal_to v (roots_of (ascending_of (inserted_all no_roots xs))) ≡ equal_to v (roots_of (inserted_all no_roots xs))
  reading_stable v =
      ap (equal_to v) read ∙ sorted_stable v [] (roots_of (inserted_all no_roots xs)) empty members none
      ∙ (unfold equal_to in refl)
