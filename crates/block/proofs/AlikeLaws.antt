-- The first pair of totals that are alike, as the definition's chain finds it. Assumes nothing.
use Prim.Native.Nat.{ℕ}
use mathlib.Core.Path.{◌≡◌, refl, ap, ◌∙◌}
use mathlib.Core.Bool.{Bool, true, false, cond}
use mathlib.Core.List.{[], ◌∷◌}
use Rattle.std.proofs.Common.{Option, Some, None}
use Rattle.std.specs.List.{find}
use Rattle.std.specs.Option.{option_map, MatchOption, IsSomeAnd}
use lib.Ieee.{Float}
use Rattle.block.specs.Selection.{alike, alike_removal}

-- what `map` gives where its closure gives h
mapped : {A B : Type 0} (h : A → B) {P : A → B → Type 0} (o : Option A) (r : Option B) → ((x : A) (y : B) → P x y → y ≡ h x)
    → MatchOption o (r ≡ None) (λ x. IsSomeAnd r (P x)) → r ≡ option_map h o
mapped h None r f e = e
mapped h (Some x) (Some y) f e = ap Some (f x y e)
mapped h (Some x) None f e = absurd e

module _ (t0 t1 t2 t3 : Float) where
  -- found is the first pair, behind references, and r its later index
  pub first_alike : {A : Type 0} (now : A → Float × Float × ℕ) {P : A → ℕ → Type 0} (found : Option A) (r : Option ℕ)
      → ((x : A) (y : ℕ) → P x y → y ≡ (now x).2)
      → MatchOption found (r ≡ None) (λ x. IsSomeAnd r (P x))
      → option_map now found ≡ find (λ q. alike q.0 q.1)
      ((t0, t1, 1) ∷ (t0, t2, 2) ∷ (t0, t3, 3) ∷ (t1, t2, 2) ∷ (t1, t3, 3) ∷ (t2, t3, 3) ∷ [])
      → r ≡ alike_removal t0 t1 t2 t3
  unfolding alike_removal
  first_alike {A = A} now found r f cases e =
      mapped (λ x. (now x).2) found r f cases ∙ twice found ∙ ap (option_map (λ q. q.2)) e
      ∙ go (alike t0 t1) (alike t0 t2) (alike t0 t3) (alike t1 t2) (alike t1 t3) (alike t2 t3)
    where
      twice : (o : Option A) → option_map (λ x. (now x).2) o ≡ option_map (λ q. q.2) (option_map now o)
      twice None = refl
      twice (Some x) = refl

      go : (a b c d e f : Bool) → option_map (λ (q : Float × Float × ℕ). q.2)
          (cond a (Some (t0, t1, 1)) (cond b (Some (t0, t2, 2)) (cond c (Some (t0, t3, 3)) (cond d (Some (t1, t2, 2))
          (cond e (Some (t1, t3, 3)) (cond f (Some (t2, t3, 3)) None))))))
          ≡ cond a (Some 1) (cond b (Some 2) (cond c (Some 3) (cond d (Some 2) (cond e (Some 3) (cond f (Some 3) None)))))
      go true b c d e f = refl
      go false true c d e f = refl
      go false false true d e f = refl
      go false false false true e f = refl
      go false false false false true f = refl
      go false false false false false true = refl
      go false false false false false false = refl
