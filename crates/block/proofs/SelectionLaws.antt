-- Selection depends on the profiles that count alone. Assumes nothing.
use Prim.Native.Nat.{ℕ, ◌+◌, ◌%◌, ◌<◌}
use mathlib.Core.Path.{◌≡◌, refl, ap, ◌∙◌}
use Rattle.std.proofs.Common.{Option, Some, None, Ok}
use native.Mathlib.Omega.{arith}
use borrow.Author.Tests.{eqb-true}
use lib.Dec.{ltb, eqb}
use Rattle.profile.specs.declared.Profile.{Profile}
use Rattle.block.specs.Selection.{fastest, of_three, of_five, removal, moved_up, without, of_others}
use Rattle.block.specs.Selection.{of_four, selected}
use Rattle.doubles.proofs.CondLaws.{cond_of, cond_same}
use Rattle.block.proofs.FastestLaws.{fastest_below, fastest_same}

-- the same profiles below n
abbrev pub Same : ℕ → (s r : ℕ → Profile) → Type 0
Same n s r = (i : ℕ) → i < n → s i ≡ r i

module _ (s r : ℕ → Profile) where
  pub three_same : Same 3 s r → of_three s ≡ of_three r
  unfolding of_three
  three_same h =
      let i = fastest s 2 in
      let e : fastest s 2 ≡ fastest r 2 = fastest_same s r 2 h in
      let below : fastest s 2 < 3 = fastest_below s 2 in
      let e0 : s i ≡ r i = h i below in
      let e1 : s ((i + 1) % 3) ≡ r ((i + 1) % 3) = h ((i + 1) % 3) (omega arith) in
      let e2 : s ((i + 2) % 3) ≡ r ((i + 2) % 3) = h ((i + 2) % 3) (omega arith) in
      rw (e0, e1, e2, e)

  pub five_same : Same 5 s r → of_five s ≡ of_five r
  unfolding of_five
  five_same h =
      let i = fastest s 4 in
      let e : fastest s 4 ≡ fastest r 4 = fastest_same s r 4 h in
      let below : fastest s 4 < 5 = fastest_below s 4 in
      let follows : (k : ℕ) → s ((i + k) % 5) ≡ r ((i + k) % 5) = λ k. h ((i + k) % 5) (omega arith) in
      let e0 : s i ≡ r i = h i below in
      rw (e0, follows 1, follows 2, follows 3, follows 4, e)

  pub removal_same : Same 4 s r → removal s ≡ removal r
  unfolding removal
  removal_same h = rw (h 0 (omega arith), h 1 (omega arith), h 2 (omega arith), h 3 (omega arith))

-- what moves up comes from the next place
pub moved_below : (n index i : ℕ) → i + 1 < n → moved_up index i < n
unfolding moved_up
moved_below n index i h = cond_of (λ (k : ℕ). k < n) (ltb i index) {x = i} {y = i + 1} (omega arith) h

module _ (s r : ℕ → Profile) where
  pub four_same : Same 4 s r → of_four s ≡ of_four r
  unfolding of_four
  four_same h = by_removal (removal s) ∙ ap (of_others r) (removal_same s r h)
    where
      by_removal : (k : Option ℕ) → of_others s k ≡ of_others r k
      by_removal None = refl
      by_removal (Some index) =
          ap Ok (three_same (without index s) (without index r)
          (λ i l. h (moved_up index i) (moved_below 4 index i (omega arith))))

-- so the whole answer is the same where the profiles that count are
pub selected_same : (s r : ℕ → Profile) (n : ℕ) → Same n s r → selected s n ≡ selected r n
unfolding selected
selected_same s r n h =
    cond_same (eqb n 1) (λ e. let k : n ≡ 1 = eqb-true n 1 e in rw (h 0 (omega arith)))
    (λ _. cond_same (eqb n 2) (λ e. let k : n ≡ 2 = eqb-true n 2 e in rw (h 0 (omega arith), h 1 (omega arith)))
    (λ _. cond_same (eqb n 3) (λ e. ap Ok (three_same s r (rw (eqb-true n 3 e) at h)))
    (λ _. cond_same (eqb n 4) (λ e. four_same s r (rw (eqb-true n 4 e) at h))
    (λ _. cond_same (eqb n 5) (λ e. ap Ok (five_same s r (rw (eqb-true n 5 e) at h))) (λ _. refl)))))
