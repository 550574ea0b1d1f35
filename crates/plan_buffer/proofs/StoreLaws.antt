-- Runs of stores to a buffer: one after another they are one run. Assumes nothing.
use Prim.Native.Nat.{ℕ, suc, ◌+◌, ◌-◌, ◌≤◌}
use mathlib.Core.Path.{◌≡◌, sym, ap, ◌∙◌}
use mathlib.Core.List.{List, [], ◌∷◌, ◌++◌, append_assoc}
use native.Mathlib.Nat.{add-zero, zero-add}
use native.Mathlib.Omega.{arith}
use lib.Ieee.{Float}
use lib.ListN.{length, take, drop, set}
use lib.Seq.{sets, sets-eq, drop-drop}
use borrow.Rule.Slice.PartMut.{put_mid}
use Rattle.plan_buffer.specs.Steps.{stored}

-- a second run that begins where the first one ended
sets_append : (xs ys l : List Float) (i k : ℕ) → i + length xs ≡ k → sets (sets l i xs) k ys ≡ sets l i (xs ++ ys)
sets_append [] ys l i k e = rw (sym e ∙ add-zero i)
sets_append (x ∷ xs) ys l i k e = sets_append xs ys (set l i x) (suc i) k (omega arith)

module _ (o₀ o₁ o₂ : List Float) (i j : ℕ) (x y : List Float) where
  pub store_store : o₁ ≡ stored o₀ i x → o₂ ≡ stored o₁ j y → i + length x ≡ j → o₂ ≡ stored o₀ i (x ++ y)
  unfolding stored
  store_store p q e = q ∙ ap (λ (l : List Float). sets l j y) p ∙ sets_append x y o₀ i j e

-- ---- a run in the place of a part
pub store_part : (l x : List Float) (from : ℕ) → from + length x ≤ length l
    → put_mid from (from + length x - from) l x ≡ stored l from x
unfolding stored
store_part l x from h =
    let n : from + length x - from ≡ length x = omega arith in
    rw (n, drop-drop (length x) from l) (sym (append_assoc (take from l) x _) ∙ sym (sets-eq x l from h))

-- ---- from the front of a buffer
pub store_front : (x l : List Float) (n : ℕ) → length x ≡ n → n ≤ length l → stored l 0 x ≡ x ++ drop n l
unfolding stored
store_front x l n e h = sets-eq x l 0 (omega arith) ∙ ap (λ (k : ℕ). x ++ drop k l) (zero-add (length x) ∙ e)
