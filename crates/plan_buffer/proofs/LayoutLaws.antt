-- The length of a plan, and its parts, stored one after another. Assumes nothing.
use Prim.Native.Nat.{ℕ, ◌+◌, ◌≤◌}
use mathlib.Core.Path.{◌≡◌, refl, ◌∙◌}
use mathlib.Core.List.{List, [], ◌∷◌, ◌++◌}
use lib.Ieee.{Float}
use lib.ListN.{length, drop}
use Rattle.profile.specs.Layout.{elements, profile_names_length, profile_doubles}
use Rattle.profile.specs.Names.{direction_number, limits_number, control_signs_number}
use Rattle.profile.specs.declared.Profile.{Profile}
use Rattle.block.specs.Blocks.{kind_number, left_end, right_end}
use Rattle.block.specs.declared.Interval.{Interval}
use Rattle.block.specs.declared.Block.{Block}
use Rattle.plan_buffer.specs.Layout.{numeral, names, ends, ends_length, profile_numbers, interval_numbers, plan_numbers}
use Rattle.plan_buffer.specs.Layout.{duration_at, profile_at, stretch_a_at, stretch_b_at, plan_length}
use Rattle.plan_buffer.specs.Steps.{stored}
use Rattle.plan_buffer.proofs.StoreLaws.{store_store, store_front}

-- whatever the plan
pub plan_length_law : (b : Block) → length (plan_numbers b) ≡ plan_length
unfolding plan_numbers interval_numbers profile_numbers profile_doubles elements
plan_length_law b = refl

module _ (o₀ o₁ o₂ : List Float) (i : ℕ) where
  pub profile_stored : (q : Profile) (x y z : Float) (d : List Float)
      → x ≡ numeral (direction_number q.direction)
      → y ≡ numeral (limits_number q.limits)
      → z ≡ numeral (control_signs_number q.control_signs)
      → d ≡ profile_doubles q
      → o₁ ≡ stored o₀ i (x ∷ y ∷ z ∷ [])
      → o₂ ≡ stored o₁ (i + profile_names_length) d
      → o₂ ≡ stored o₀ i (profile_numbers q)
  unfolding profile_numbers
  profile_stored q x y z d ex ey ez ed p r =
      let p' : o₁ ≡ stored o₀ i (names q) = rw (← ex, ← ey, ← ez) p in
      let r' : o₂ ≡ stored o₁ (i + profile_names_length) (profile_doubles q) = rw (← ed) r in
      store_store o₀ o₁ o₂ i _ _ _ p' r' refl

  pub interval_stored : (q : Interval) (x y z : Float)
      → x ≡ numeral (kind_number q.stretch)
      → y ≡ left_end q.stretch
      → z ≡ right_end q.stretch
      → o₁ ≡ stored o₀ i (x ∷ y ∷ z ∷ [])
      → o₂ ≡ stored o₁ (i + ends_length) (profile_numbers q.profile)
      → o₂ ≡ stored o₀ i (interval_numbers q)
  unfolding interval_numbers
  interval_stored q x y z ex ey ez p r =
      let p' : o₁ ≡ stored o₀ i (ends q.stretch) = rw (← ex, ← ey, ← ez) p in
      store_store o₀ o₁ o₂ i _ _ _ p' r refl

module _ (o₀ o₁ o₂ o₃ o₄ : List Float) (b : Block) where
  pub plan_stored : plan_length ≤ length o₀
      → o₁ ≡ stored o₀ duration_at (b.t_min ∷ [])
      → o₂ ≡ stored o₁ profile_at (profile_numbers b.p_min)
      → o₃ ≡ stored o₂ stretch_a_at (interval_numbers b.a)
      → o₄ ≡ stored o₃ stretch_b_at (interval_numbers b.b)
      → o₄ ≡ plan_numbers b ++ drop plan_length o₀
  unfolding plan_numbers interval_numbers profile_numbers profile_doubles elements
  plan_stored h p q r s =
      store_store o₀ o₃ o₄ 0 _ _ _ (store_store o₀ o₂ o₃ 0 _ _ _ (store_store o₀ o₁ o₂ 0 _ _ _ p q refl) r refl) s refl
      ∙ store_front (plan_numbers b) o₀ plan_length (plan_length_law b) h
