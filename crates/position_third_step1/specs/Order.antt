-- The order of a family's tries, by what tells them apart: the name of the limits, and the phases that take no time.
-- Definitions only.
use Rattle.std.specs.Prelude.{ℕ, ◌≡◌, cond, List, [], ◌∷◌, map, Float}
use Rattle.doubles.specs.Operators.{at}
use Rattle.doubles.specs.Constants.{0ᶠ}
use Rattle.profile.specs.declared.ReachedLimits.{ReachedLimits}
use Rattle.phase_times_quartic.specs.RootRange.{is_skipped}
use Rattle.phase_times_quartic.specs.declared.root_range.RootRange.{RootRange}
use Rattle.roots.specs.List.{roots_of}
use Rattle.candidates.specs.declared.Try.{Try}
use Rattle.position_third_step1.specs.declared.families.Shared.{Shared}

-- a try's name, and phases that take no time
abbrev pub Shape : Type 0
Shape = ReachedLimits × List ℕ

abbrev pub TakeNoTime : List ℕ → List Float → Type 0
TakeNoTime [] t = Unit {0}
TakeNoTime (i ∷ is) t = (at t i ≡ 0ᶠ) × TakeNoTime is t

-- as many tries as shapes, each with its own
abbrev pub Shaped : List Shape → List Try → Type 0
Shaped [] [] = Unit {0}
Shaped [] (x ∷ xs) = ⊥
Shaped (s ∷ ss) [] = ⊥
Shaped (s ∷ ss) (x ∷ xs) = ((x.reached ≡ s.0) × TakeNoTime s.1 x.t) × Shaped ss xs

-- ---- where tries are made of roots
abbrev pub names : List Try → List ReachedLimits
names xs = map (λ (x : Try). x.reached) xs

-- the roots that lead to a try, and a name for each
unfoldable pub kept_roots : RootRange → List Float → List Float
kept_roots range [] = []
kept_roots range (t ∷ ts) = cond (is_skipped range t) (kept_roots range ts) (t ∷ kept_roots range ts)

abbrev pub root_names : ReachedLimits → Shared → List ReachedLimits
root_names reached s = map (λ (t : Float). reached) (kept_roots s.range (roots_of s.roots))
