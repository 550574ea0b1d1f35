-- Roots put in order one by one ascend, and equal ones stay in the order in which they came. Assumes nothing.
use mathlib.Core.Path.{◌≡◌, refl, sym, ap, ◌∙◌}
use mathlib.Core.Bool.{true, false}
use mathlib.Core.List.{List, [], ◌∷◌, ◌++◌, append-nil, append_assoc}
use lib.Ieee.{Float}
use Rattle.doubles.specs.Operators.{◌<ᶠ◌, ◌≤ᶠ◌, ◌==ᶠ◌}
use Rattle.roots.specs.List.{placed, sorted_from}
use Rattle.doubles.specs.Value.{AtLeastZero}
use Rattle.roots.specs.Reading.{equal_to, Ascending, none, one, more}
use Rattle.doubles.proofs.CondLaws.{by_cases}
use Rattle.doubles.proofs.ComparisonLaws.{lt_le, equal_not_below, at_most_of_below, not_below_nonnegative}

-- all of a list are at least 0
pub data Members : List Float → Type 0 where
  empty : Members []
  add : {x : Float} {l : List Float} → AtLeastZero x → Members l → Members (x ∷ l)

-- ---- one root put among others

placed_members : (x : Float) (l : List Float) → AtLeastZero x → Members l → Members (placed x l)
unfolding placed
placed_members x [] hx m = add hx m
placed_members x (y ∷ l) hx (add hy m) =
    by_cases (x <ᶠ y) (λ i. rw i (add hx (add hy m))) (λ i. rw i (add hy (placed_members x l hx m)))

rest : {x : Float} {l : List Float} → Ascending (x ∷ l) → Ascending l
rest (one x) = none
rest (more h a) = a

after : (y x : Float) (l : List Float) → AtLeastZero x → Members l → (y ≤ᶠ x) ≡ true → Ascending (y ∷ l)
    → Ascending (y ∷ placed x l)
unfolding placed
after y x [] hx m h a = more h (one x)
after y x (z ∷ l) hx (add hz m) h (more i a) =
    by_cases (x <ᶠ z) (λ j. rw j (more h (more (at_most_of_below x z j) a)))
    (λ j. rw j (more i (after z x l hx m (not_below_nonnegative x z hx hz j) a)))

placed_ascends : (x : Float) (l : List Float) → AtLeastZero x → Members l → Ascending l → Ascending (placed x l)
unfolding placed
placed_ascends x [] hx m a = one x
placed_ascends x (y ∷ l) hx (add hy m) a =
    by_cases (x <ᶠ y) (λ i. rw i (more (at_most_of_below x y i) a))
    (λ i. rw i (after y x l hx m (not_below_nonnegative x y hx hy i) a))

-- no root from y on equals v, where x, which is less than y, equals v
none_equal : (x y v : Float) (l : List Float) → (x ==ᶠ v) ≡ true → (x <ᶠ y) ≡ true → Ascending (y ∷ l)
    → equal_to v (y ∷ l) ≡ []
unfolding equal_to
none_equal x y v [] e i a = rw (equal_not_below x y v i e)
none_equal x y v (z ∷ l) e i (more j a) = rw (equal_not_below x y v i e) (none_equal x z v l e (lt_le x y z i j) a)

equal_head : (v x : Float) (l : List Float) → equal_to v (x ∷ l) ≡ equal_to v (x ∷ []) ++ equal_to v l
unfolding equal_to
equal_head v x l = by_cases (x ==ᶠ v) (λ e. rw e) (λ e. rw e)

-- x is less than y, the first of roots that ascend: among those equal to v it may as well stand last
swapped : (x y v : Float) (l : List Float) → (x <ᶠ y) ≡ true → Ascending (y ∷ l)
    → equal_to v (x ∷ []) ++ equal_to v (y ∷ l) ≡ equal_to v (y ∷ l) ++ equal_to v (x ∷ [])
swapped x y v l i a =
    by_cases (x ==ᶠ v)
    (λ e. rw (none_equal x y v l e i a) (append-nil (equal_to v (x ∷ []))))
    (λ e. rw (alone e) (sym (append-nil (equal_to v (y ∷ l)))))
  where
    alone : (x ==ᶠ v) ≡ false → equal_to v (x ∷ []) ≡ []
    alone e = unfold equal_to in rw e

placed_equal : (x v : Float) (l : List Float) → Ascending l → equal_to v (placed x l) ≡ equal_to v l ++ equal_to v (x ∷ [])
unfolding placed
placed_equal x v [] a = unfold equal_to in refl
placed_equal x v (y ∷ l) a =
    by_cases (x <ᶠ y)
    (λ i. rw i (equal_head v x (y ∷ l) ∙ swapped x y v l i a))
    (λ i. rw i
    (equal_head v y (placed x l) ∙ ap (λ (r : List Float). equal_to v (y ∷ []) ++ r) (placed_equal x v l (rest a))
    ∙ sym (append_assoc (equal_to v (y ∷ [])) (equal_to v l) (equal_to v (x ∷ [])))
    ∙ ap (λ (r : List Float). r ++ equal_to v (x ∷ [])) (sym (equal_head v y l))))

-- ---- all of a list

pub sorted_ascends : (done l : List Float) → Members done → Members l → Ascending done → Ascending (sorted_from done l)
unfolding sorted_from
sorted_ascends done [] md m a = a
sorted_ascends done (x ∷ l) md (add hx m) a =
    sorted_ascends (placed x done) l (placed_members x done hx md) m (placed_ascends x done hx md a)

pub sorted_stable : (v : Float) (done l : List Float) → Members done → Members l → Ascending done
    → equal_to v (sorted_from done l) ≡ equal_to v done ++ equal_to v l
unfolding sorted_from
sorted_stable v done [] md m a = unfold equal_to in sym (append-nil (equal_to v done))
sorted_stable v done (x ∷ l) md (add hx m) a =
    sorted_stable v (placed x done) l (placed_members x done hx md) m (placed_ascends x done hx md a)
    ∙ ap (λ (r : List Float). r ++ equal_to v l) (placed_equal x v done a)
    ∙ append_assoc (equal_to v done) (equal_to v (x ∷ [])) (equal_to v l)
    ∙ ap (λ (r : List Float). equal_to v done ++ r) (sym (equal_head v x l))
