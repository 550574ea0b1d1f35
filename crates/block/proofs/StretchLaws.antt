-- No stretch ends before it begins, and one from a time on is as one that ends at infinity. Assumes nothing.
use Prim.Native.Nat.{ℕ}
use mathlib.Core.Path.{◌≡◌, refl}
use mathlib.Core.Bool.{Bool, true, false, ◌&&◌}
use lib.Dec.{T}
use lib.Ieee.{Float, nan, inf, fin, lt, is_nan}
use lib.Ieee.Bits.{is_false}
use lib.Ieee.Scale.{finite}
use Rattle.doubles.specs.Operators.{◌<ᶠ◌, ◌≤ᶠ◌}
use Rattle.profile.specs.declared.Profile.{Profile}
use Rattle.block.specs.Blocks.{duration, no_interval, interval_between, block_of, inside, plan_in}
use Rattle.refusals.specs.Numbers.{number_of}
use Rattle.block.specs.Selection.{selected}
use Rattle.block.specs.Plans.{in_order, IntervalOf, none, some, BlockOf, chosen}
use Rattle.block.specs.declared.Stretch.TheVariants.{Between, From}
use Rattle.block.specs.declared.Interval.{Interval}
use Rattle.block.specs.declared.Block.{Block}
use Rattle.doubles.proofs.CondLaws.{cond_by}
use Rattle.doubles.proofs.ComparisonLaws.{lt_asymmetric, not_below}
use Rattle.block.proofs.MemberLaws.{plan_of}

-- ---- no stretch ends before it begins
between_in_order : (p q : Profile) → T (in_order (interval_between p q).stretch)
unfolding interval_between
between_in_order p q =
    cond_by (λ (i : Interval). T (in_order i.stretch)) (duration p <ᶠ duration q)
    (λ h. rw (lt_asymmetric (duration p) (duration q) h) tt)
    (λ h. rw h tt)

interval_in_order : (s : ℕ → Profile) (n : ℕ) {a : Interval} → IntervalOf s n a → T (in_order a.stretch)
interval_in_order s n none = unfold no_interval in tt
interval_in_order s n (some i j hi hj) = between_in_order (s i) (s j)

pub selected_in_order : (s : ℕ → Profile) (n : ℕ) → number_of (selected s n) ≡ 0
    → T (in_order (plan_in (selected s n)).a.stretch) × T (in_order (plan_in (selected s n)).b.stretch)
selected_in_order s n e = go (plan_of s n e)
  where
    go : {b : Block} → BlockOf s n b → T (in_order b.a.stretch) × T (in_order b.b.stretch)
    go (chosen i {a} {b} hi ha hb) = unfold block_of in (interval_in_order s n ha, interval_in_order s n hb)

-- so between two numbers the left end is at most the right one
pub ends_in_order : (left right : Float) → is_nan left ≡ false → is_nan right ≡ false → T (in_order (Between left right))
    → T (left ≤ᶠ right)
ends_in_order left right hl hr h = not_below right left hr hl (is_false (right <ᶠ left) h)

-- ---- a stretch from a time on blocks finite times as one that ends at infinity does
pub from_as_between : (left t : Float) → T (finite t) → inside (From left) t ≡ inside (Between left (inf false)) t
from_as_between left nan h = absurd h
from_as_between left (inf s) h = absurd h
from_as_between left (fin s m e) h = go (left <ᶠ fin s m e)
  where
    go : (b : Bool) → b ≡ (b && (fin s m e <ᶠ inf false))
    go true = unfold lt in refl
    go false = refl
