-- Arrays of profiles, as the code reads and makes them, and what selection makes of them. Assumes nothing.
use Prim.Native.Nat.{ℕ, zero, suc, ◌+◌, ◌-◌, ◌%◌, ◌≤◌, ◌<◌}
use mathlib.Core.Path.{◌≡◌, refl, sym, ap, ◌∙◌}
use mathlib.Core.Bool.{Bool, true, false, not, ◌&&◌}
use mathlib.Core.List.{List, [], ◌∷◌}
use Rattle.std.proofs.Common.{Option, Some, None, Ok, Err}
use native.Mathlib.Omega.{arith}
use borrow.Kind.Array.{e_struct, good_length}
use denote.Array.{Array}
use denote.Laws.{Is}
use mir.Val.{Val}
use lib.ListN.{length, get_or}
use lib.Seq.{get_or-set_same, set-get_or}
use lib.Ieee.{Float}
use Rattle.doubles.specs.Operators.{◌*ᶠ◌, ◌<ᶠ◌}
use Rattle.doubles.specs.Constants.{eps}
use Rattle.profile.specs.Boundary.{empty_profile}
use Rattle.profile.specs.declared.Profile.{Profile}
use Rattle.profile.specs.contracts.Profile.{the_row, the_type}
use Rattle.profile.proofs.Profile.TheLaws.{the_laws, the_copy}
use Rattle.block.specs.Blocks.{total, no_interval, interval_between, block_of, Answer}
use Rattle.block.specs.Selection.{32ᶠ, 256ᶠ, slot, same_direction, near, fastest, of_two, of_three, with_two, of_five}
use Rattle.block.specs.Selection.{alike_removal, removal, without, of_four, selected}
use Rattle.block.specs.Steps.{removed}
use Rattle.block.specs.declared.Interval.{Interval}
use Rattle.refusals.specs.declared.Refusal.TheVariants.{NoRemoval}
use Rattle.block.specs.declared.Block.{Block}
use Rattle.block.proofs.FastestLaws.{next_faster, next_not_faster}
use Rattle.block.proofs.SelectionLaws.{Same, three_same, five_same, removal_same, four_same}

-- the first n profiles
abbrev pub firsts : ℕ → (ℕ → Profile) → List Profile
firsts zero s = []
firsts (suc n) s = s 0 ∷ firsts n (λ i. s (suc i))

firsts_same : (n : ℕ) (s : ℕ → Profile) → Same n (slot (firsts n s)) s
firsts_same zero s i h = absurd (let none : ⊥ = omega arith in none)
firsts_same (suc n) s zero h = refl
firsts_same (suc n) s (suc i) h = firsts_same n (λ k. s (suc k)) i (omega arith)

-- what a function is told at its entry of a parameter that is an array of n profiles: it has n
pub size_of_law : (n : ℕ) (l : List Profile) (vs : List Val) → Is (Array the_row n) l vs → length l ≡ n
size_of_law n l vs told = good_length (e_struct the_type the_laws the_copy) n l vs told

-- within the array, it doesn't matter what the code takes to lie past its end
abbrev pub read : List Profile → Profile → ℕ → Profile
read l d i = get_or l i d

module _ (l : List Profile) (d : Profile) {n : ℕ} (size : length l ≡ n) where
  pub read_same : Same n (read l d) (slot l)
  read_same i h =
      let below : i < length l = omega arith in
      ap (λ (z : List Profile). get_or z i d) (sym (set-get_or l i empty_profile)) ∙ get_or-set_same l i (slot l i) d below

  -- an array of the first k
  pub firsts_read : (k : ℕ) → k ≤ n → Same k (slot (firsts k (read l d))) (slot l)
  firsts_read k h i g = firsts_same k (read l d) i g ∙ read_same i (omega arith)

-- ---- count 4
module _ (l : List Profile) (d : Profile) (size : length l ≡ 4) where
  -- x and y are what the code finds of the first rule, z and w of the second, v of the third
  module _ {t0 t1 t2 t3 : Float} (e0 : t0 ≡ total (read l d 0)) (e1 : t1 ≡ total (read l d 1))
      (e2 : t2 ≡ total (read l d 2)) (e3 : t3 ≡ total (read l d 3))
      {x y : Bool} (ex : x ≡ near (32ᶠ *ᶠ eps) t0 t1)
      (ey : y ≡ not (same_direction (read l d 0).direction (read l d 1).direction)) where
    removal_read : removal (read l d) ≡ removal (slot l)
    removal_read = removal_same (read l d) (slot l) (read_same l d size)

    pub by_first : (x && y) ≡ true → Some 1 ≡ removal (slot l)
    unfolding removal
    by_first h = rw (← removal_read, ← e0, ← e1, ← ex, ← ey, h)

    module _ (h1 : (x && y) ≡ false) {z w : Bool} (ez : z ≡ near (256ᶠ *ᶠ eps) t2 t3)
        (ew : w ≡ not (same_direction (read l d 2).direction (read l d 3).direction)) where
      pub by_second : (z && w) ≡ true → Some 3 ≡ removal (slot l)
      unfolding removal
      by_second h = rw (← removal_read, ← e0, ← e1, ← ex, ← ey, h1, ← e2, ← e3, ← ez, ← ew, h)

      module _ (h2 : (z && w) ≡ false) {v : Bool} (ev : v ≡ near (256ᶠ *ᶠ eps) t0 t3) where
        pub by_third : v ≡ true → Some 3 ≡ removal (slot l)
        unfolding removal
        by_third h = rw (← removal_read, ← e0, ← e1, ← ex, ← ey, h1, ← e2, ← e3, ← ez, ← ew, h2, ← ev, h)

        pub by_fourth : {k : Option ℕ} → v ≡ false → k ≡ alike_removal t0 t1 t2 t3 → k ≡ removal (slot l)
        unfolding removal
        by_fourth h e = rw (← removal_read, ← e0, ← e1, ← ex, ← ey, h1, ← e2, ← e3, ← ez, ← ew, h2, ← ev, h) e

pub four_made : (s : ℕ → Profile) {k : Option ℕ} {index : ℕ} {l : List Profile} {r : Block} → k ≡ removal s
    → k ≡ Some index → l ≡ removed index s → r ≡ of_three (slot l) → Ok r ≡ of_four s
unfolding of_four
four_made s {index = index} e n el er =
    rw (← e, n) (ap Ok (er ∙ rw el (three_same (slot (removed index s)) (without index s) (firsts_same 3 (without index s)))))

pub four_stay : (s : ℕ → Profile) {k : Option ℕ} → k ≡ removal s → k ≡ None → Err NoRemoval ≡ of_four s
unfolding of_four
four_stay s e n = rw (← e, n) refl

-- ---- the search for the fastest: i is the fastest of those before j, and the next ones have the totals t and u
module _ (l : List Profile) (d : Profile) {n i j : ℕ} (size : length l ≡ n) (first : 1 ≤ j) (below : j < n)
    (e : i ≡ fastest (slot l) (j - 1)) (seen : i < j) {t u : Float} (et : t ≡ total (read l d j))
    (eu : u ≡ total (read l d i)) where
  compared : (total (slot l (suc (j - 1))) <ᶠ total (slot l (fastest (slot l) (j - 1)))) ≡ (t <ᶠ u)
  compared =
      let next : suc (j - 1) ≡ j = omega arith in
      rw (next, ← e, ← read_same l d size j below, ← read_same l d size i (omega arith), ← et, ← eu)

  step : suc (j - 1) ≡ j + 1 - 1
  step = omega arith

  pub next_found : (t <ᶠ u) ≡ true → j ≡ fastest (slot l) (j + 1 - 1)
  next_found h =
      let next : j ≡ suc (j - 1) = omega arith in
      next ∙ next_faster (slot l) (j - 1) (compared ∙ h) ∙ ap (fastest (slot l)) step

  pub found_stays : (t <ᶠ u) ≡ false → i ≡ fastest (slot l) (j + 1 - 1)
  found_stays h = e ∙ next_not_faster (slot l) (j - 1) (compared ∙ h) ∙ ap (fastest (slot l)) step

-- ---- counts 3 and 5: i is the index of the fastest
module _ (l : List Profile) (d : Profile) {i : ℕ} where
  pub three_made : {a b : Interval} {r : Block} → length l ≡ 3 → i ≡ fastest (slot l) 2 → i < 3
      → a ≡ interval_between (read l d ((i + 1) % 3)) (read l d ((i + 2) % 3))
      → b ≡ no_interval
      → r ≡ block_of (read l d i) a b
      → r ≡ of_three (slot l)
  unfolding of_three
  three_made size e below ea eb er =
      let same : (k : ℕ) → k < 3 → read l d k ≡ slot l k = read_same l d size in
      er ∙ rw (ea, eb, same i below, same ((i + 1) % 3) (omega arith), same ((i + 2) % 3) (omega arith), e) refl

  pub five_made : {r : Block} → length l ≡ 5 → i ≡ fastest (slot l) 4 → i < 5
      → r ≡ with_two (read l d i) (read l d ((i + 1) % 5)) (read l d ((i + 2) % 5)) (read l d ((i + 3) % 5))
      (read l d ((i + 4) % 5))
      → r ≡ of_five (slot l)
  unfolding of_five
  five_made size e below er =
      let same : (k : ℕ) → read l d ((i + k) % 5) ≡ slot l ((i + k) % 5) =
      λ k. read_same l d size ((i + k) % 5) (omega arith) in
      let own : read l d i ≡ slot l i = read_same l d size i below in
      er ∙ rw (own, same 1, same 2, same 3, same 4, e) refl

-- ---- any count
module _ (l : List Profile) (d : Profile) (size : length l ≡ 6) where
  pub selected_one : {a b : Interval} → a ≡ no_interval → b ≡ no_interval → {r : Block} → r ≡ block_of (read l d 0) a b
      → Ok r ≡ selected (slot l) 1
  unfolding selected
  selected_one ea eb er = ap Ok (er ∙ rw (ea, eb, read_same l d size 0 (omega arith)) refl)

  pub selected_two : {r : Block} → r ≡ of_two (read l d 0) (read l d 1) → Ok r ≡ selected (slot l) 2
  unfolding selected
  selected_two er = ap Ok (er ∙ rw (read_same l d size 0 (omega arith), read_same l d size 1 (omega arith)) refl)

  pub selected_three : {r : Block} → r ≡ of_three (slot (firsts 3 (read l d))) → Ok r ≡ selected (slot l) 3
  unfolding selected
  selected_three er =
      ap Ok (er ∙ three_same (slot (firsts 3 (read l d))) (slot l) (firsts_read l d size 3 (omega arith)))

  pub selected_four : {r : Answer} → r ≡ of_four (slot (firsts 4 (read l d))) → r ≡ selected (slot l) 4
  unfolding selected
  selected_four er = er ∙ four_same (slot (firsts 4 (read l d))) (slot l) (firsts_read l d size 4 (omega arith))

  pub selected_five : {r : Block} → r ≡ of_five (slot (firsts 5 (read l d))) → Ok r ≡ selected (slot l) 5
  unfolding selected
  selected_five er =
      ap Ok (er ∙ five_same (slot (firsts 5 (read l d))) (slot l) (firsts_read l d size 5 (omega arith)))
