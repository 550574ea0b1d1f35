-- One root put among those before it, and the reading order that this gives. Assumes nothing.
use mathlib.Core.Path.{◌≡◌, refl, ap}
use Prim.Native.Nat.{ℕ, zero, suc, ◌+◌, ◌-◌, ◌≤◌, ◌<◌, min}
use native.Mathlib.Numerals.{add-one}
use native.Mathlib.Omega.{arith}
use mathlib.Core.Bool.{true, false}
use mathlib.Core.List.{List, [], ◌∷◌, ◌++◌}
use lib.Ieee.{Float, nan}
use Rattle.std.specs.Prelude.{Option, Some, None}
use Rattle.std.specs.List.{position, prefix_len}
use borrow.Author.Tests.{ltb-false, ltb-true}
use lib.Dec.{ltb}
use mathlib.Core.Bool.{not}
use Rattle.std.proofs.lemmas.List.Quantifiers.{position-Some}
use lib.ListN.{length, take, drop, drop_of_length-le}
use lib.Seq.{take_at, get_or_at, take_all, drop-append-add, drop-cons, take-suc, length-take-le}
use Rattle.doubles.specs.Operators.{◌<ᶠ◌, at}
use Rattle.roots.specs.List.{placed, placed_at, sorted_from}
use Rattle.roots.specs.Steps.{place_before, moved}
use Rattle.doubles.proofs.CondLaws.{by_cases}

-- what holds of any four values written out holds of an array of four
by_values : (P : List Float → Type 0) → ((a b c d : Float) → P (a ∷ b ∷ c ∷ d ∷ [])) → (v : List Float) → length v ≡ 4
    → P v
by_values P h [] e = absurd (omega arith)
by_values P h (a ∷ []) e = absurd (omega arith)
by_values P h (a ∷ b ∷ []) e = absurd (omega arith)
by_values P h (a ∷ b ∷ c ∷ []) e = absurd (omega arith)
by_values P h (a ∷ b ∷ c ∷ d ∷ []) e = h a b c d
by_values P h (a ∷ b ∷ c ∷ d ∷ x ∷ l) e = absurd (omega arith)

-- ---- where a root goes: before the first that it is below, or behind all
module _ (x : Float) where
  abbrev place : List Float → Option ℕ
  place = position (λ y. x <ᶠ y)

  before : (l : List Float) (j : ℕ) → j < length l → (x <ᶠ at l j) ≡ true
      → ((k : ℕ) → k < j → (x <ᶠ at l k) ≡ false) → placed x l ≡ take j l ++ x ∷ drop j l
  unfolding placed
  before [] j h t f = absurd (omega arith)
  before (y ∷ ys) zero h t f = rw t
  before (y ∷ ys) (suc j) h t f =
      rw (f 0 (omega arith)) (ap (λ l. y ∷ l) (before ys j (omega arith) t (λ k l. f (suc k) (omega arith))))

  behind : (l : List Float) → length l ≤ prefix_len (λ y. not (x <ᶠ y)) l → placed x l ≡ l ++ x ∷ []
  unfolding placed
  behind [] h = refl
  behind (y ∷ ys) h = by_cases (x <ᶠ y)
      (λ i. absurd (let none : suc (length ys) ≤ 0 = rw i at h in omega arith))
      (λ i. let more : suc (length ys) ≤ 1 + prefix_len (λ y. not (x <ᶠ y)) ys = rw i at h in
      rw i (ap (λ l. y ∷ l) (behind ys (omega arith))))

  pub placed_before : (l : List Float) (j : ℕ) → place l ≡ Some j → placed x l ≡ take j l ++ x ∷ drop j l
  placed_before l j e =
      let p = position-Some (λ y. x <ᶠ y) l j nan e in
      before l j p.0 p.1 p.2

  pub placed_behind : (l : List Float) → place l ≡ None → placed x l ≡ l ++ x ∷ []
  placed_behind l e =
      let n = prefix_len (λ y. not (x <ᶠ y)) l in
      by_cases (ltb n (length l)) (λ t. absurd (let z : Some n ≡ None = rw t at e in cc))
      (λ f. behind l (ltb-false n (length l) f))

-- value i put before value j of four, as the code puts it
abbrev Moved : ℕ → ℕ → List Float → Type 0
Moved i j v = moved j i v ≡ (take j (take i v) ++ at v i ∷ drop j (take i v)) ++ drop (suc i) v

moved_of : (a b c d : Float) (i j : ℕ) → i < 4 → j < i → Moved i j (a ∷ b ∷ c ∷ d ∷ [])
unfolding place_before
moved_of a b c d zero j h g = absurd (omega arith)
moved_of a b c d (suc zero) zero h g = refl
moved_of a b c d (suc (suc zero)) zero h g = refl
moved_of a b c d (suc (suc zero)) (suc zero) h g = refl
moved_of a b c d (suc (suc (suc zero))) zero h g = refl
moved_of a b c d (suc (suc (suc zero))) (suc zero) h g = refl
moved_of a b c d (suc (suc (suc zero))) (suc (suc zero)) h g = refl
moved_of a b c d (suc zero) (suc j) h g = absurd (omega arith)
moved_of a b c d (suc (suc zero)) (suc (suc j)) h g = absurd (omega arith)
moved_of a b c d (suc (suc (suc zero))) (suc (suc (suc j))) h g = absurd (omega arith)
moved_of a b c d (suc (suc (suc (suc i)))) j h g = absurd (omega arith)

pub moved_is : (v : List Float) → length v ≡ 4 → (i j : ℕ) → i < 4 → j < i → Moved i j v
moved_is v e i j h g = by_values (Moved i j) (λ a b c d. moved_of a b c d i j h g) v e

pub kept : (v : List Float) → length v ≡ 4 → (i : ℕ) → i < 4 → v ≡ (take i v ++ at v i ∷ []) ++ drop (suc i) v
kept v e i h = by_values (λ v. v ≡ (take i v ++ at v i ∷ []) ++ drop (suc i) v) (λ a b c d. four a b c d i h) v e
  where
    four : (a b c d : Float) (i : ℕ) → i < 4
        → a ∷ b ∷ c ∷ d ∷ []
        ≡ (take i (a ∷ b ∷ c ∷ d ∷ []) ++ at (a ∷ b ∷ c ∷ d ∷ []) i ∷ []) ++ drop (suc i) (a ∷ b ∷ c ∷ d ∷ [])
    four a b c d zero h = refl
    four a b c d (suc zero) h = refl
    four a b c d (suc (suc zero)) h = refl
    four a b c d (suc (suc (suc zero))) h = refl
    four a b c d (suc (suc (suc (suc i)))) h = absurd (omega arith)

-- ---- the reading order, one root after the other

pub length_placed : (x : Float) (l : List Float) → length (placed x l) ≡ suc (length l)
unfolding placed
length_placed x [] = refl
length_placed x (y ∷ ys) = by_cases (x <ᶠ y) (λ i. rw i) (λ i. rw i (ap suc (length_placed x ys)))

-- the root after n that are in order
next_placed : (l : List Float) (x : Float) (rest : List Float) (n : ℕ) → length l ≡ n
    → placed_at n (l ++ x ∷ rest) ≡ placed x l ++ rest
unfolding placed_at
next_placed l x rest n e = rw (get_or_at l x rest nan n e, take_at l (x ∷ rest) n e, past)
  where
    past : drop (suc n) (l ++ x ∷ rest) ≡ rest
    past = rw (← add-one n, ← e) (drop-append-add l (x ∷ rest) 1)

pub sorted_length : (done l : List Float) → length (sorted_from done l) ≡ length done + length l
unfolding sorted_from
sorted_length done [] = omega arith
sorted_length done (x ∷ l) = omega (arith, sorted_length (placed x done) l, length_placed x done)

sorted_next : (done l : List Float) (x : Float) → sorted_from done (l ++ x ∷ []) ≡ placed x (sorted_from done l)
unfolding sorted_from
sorted_next done [] x = refl
sorted_next done (y ∷ l) x = sorted_next (placed y done) l x

-- the first i values in order, and the others as they were
abbrev pub so_far : ℕ → List Float → List Float
so_far i v = sorted_from [] (take i v) ++ drop i v

pub none_so_far : (v : List Float) → v ≡ so_far 0 v
unfolding sorted_from
none_so_far v = refl

pub next_so_far : (v : List Float) (i : ℕ) → i < length v → placed_at i (so_far i v) ≡ so_far (i + 1) v
next_so_far v i h =
    let as_many : length (sorted_from [] (take i v)) ≡ i =
    omega (arith, sorted_length [] (take i v), length-take-le i v (omega arith)) in
    rw (drop-cons v i nan h, next_placed _ (at v i) (drop (suc i) v) i as_many, add-one i, take-suc v i nan h)
    (rw (sorted_next [] (take i v) (at v i)))

-- all of those counted, of four
pub all_so_far : (v : List Float) → length v ≡ 4 → (n i : ℕ) → i ≡ min n 4 → so_far i v ≡ so_far n v
all_so_far v e n i h = by_cases (ltb n 4)
    (λ t. let few : n < 4 = ltb-true n 4 t in
    let same : i ≡ n = omega arith in
    rw same)
    (λ f. let more : 4 ≤ n = ltb-false n 4 f in
    let four : i ≡ 4 = omega arith in
    rw (
      four,
      take_all n v (omega arith),
      take_all 4 v (omega arith),
      drop_of_length-le v {i = n} (omega arith),
      drop_of_length-le v {i = 4} (omega arith),
    ))

-- ---- what the check looks for of the reading order
pub ruleset of_order = (none_so_far, next_so_far, all_so_far)

pub ruleset of_places = (placed_behind, kept)
