-- A plan as an axis: a time is free for it exactly where `is_blocked` says so, and number 9 doesn't turn it back where
-- its stretches lie after its profile. Assumes nothing.
use mathlib.Core.Path.{◌≡◌, refl, sym, ap, ◌∙◌}
use mathlib.Core.Bool.{Bool, true, false, not, ◌&&◌, ◌||◌, true≢false, false≢true}
use mathlib.Core.Logic.{◌↔◌}
use native.Mathlib.Omega.{arith}
use lib.Dec.{T}
use lib.Ieee.{Float, inf, eq, is_nan, of_bits}
use lib.Ieee.Bits.{is_true}
use lib.Ieee.Scale.{finite}
use Rattle.doubles.specs.Operators.{◌+ᶠ◌, ◌<ᶠ◌, ◌==ᶠ◌}
use Rattle.doubles.specs.Constants.{0ᶠ}
use Rattle.doubles.specs.Value.{Finite, AtLeastZero}
use Rattle.doubles.proofs.ComparisonLaws.{lt_irreflexive, at_most_not_below, none_between, infinity_not_below}
use Rattle.doubles.proofs.UnsignedLaws.{finite_number}
use Rattle.profile.specs.declared.Profile.{Profile}
use Rattle.block.specs.Blocks.{total, duration, left_end, right_end, inside, is_blocked, blocking_of, blocking_number}
use Rattle.block.specs.Plans.{After, nothing, between, from, EachAfter}
use Rattle.block.specs.declared.Stretch.{Stretch}
use Rattle.block.specs.declared.Stretch.TheVariants.{Nothing, Between, From}
use Rattle.block.specs.declared.Block.{Block}
use Rattle.std.proofs.Common.{Result, Ok}
use Rattle.refusals.specs.declared.Refusal.{Refusal}
use Rattle.block.proofs.StretchLaws.{from_as_between}
use Rattle.arrival.specs.Axes.{missing, blocks, free, wrong_stretch, wrong_axis}
use Rattle.planner.specs.Arrival.{axis_of_plan}
use Rattle.planner.proofs.PartLaws.{Part, duration_finite, duration_at_least_zero, durations_in_order}

-- ---- which times are free

-- a stretch that is missing has nothing inside anyway
unless_missing : (l r c : Bool) → (l ≡ true → r ≡ true → c ≡ false) → (not (l && r) && c) ≡ c
unless_missing true true c h = sym (h refl refl)
unless_missing true false c h = refl
unless_missing false r c h = refl

blocks_inside : (s : Stretch) (t : Float) → Finite t → blocks (left_end s) (right_end s) t ≡ inside s t
blocks_inside Nothing t f = unfold eq of_bits in refl
blocks_inside (Between left right) t f =
    unless_missing (left ==ᶠ 0ᶠ) (right ==ᶠ 0ᶠ) ((left <ᶠ t) && (t <ᶠ right)) (none_between left right 0ᶠ t)
blocks_inside (From left) t f =
    unless_missing (left ==ᶠ 0ᶠ) (inf false ==ᶠ 0ᶠ) ((left <ᶠ t) && (t <ᶠ inf false))
    (none_between left (inf false) 0ᶠ t)
    ∙ sym (from_as_between left t f)

-- t is below the duration d, or inside a or b
none_of : (d a b a' b' : Bool) → a ≡ a' → b ≡ b' → (not d && not a && not b) ≡ not (d || a' || b')
none_of true a b a' b' p q = refl
none_of false true b true b' p q = refl
none_of false true b false b' p q = absurd (true≢false p)
none_of false false b true b' p q = absurd (false≢true p)
none_of false false b false b' p q = ap not q

pub free_not_blocked : (b : Block) (t : Float) → Finite t → free (axis_of_plan b) t ≡ not (is_blocked b t)
unfolding free axis_of_plan is_blocked
free_not_blocked b t f =
    none_of (t <ᶠ b.t_min) _ _ _ _ (blocks_inside b.a.stretch t f) (blocks_inside b.b.stretch t f)

-- so it is free exactly where `is_blocked` answers that it is
pub free_says : (b : Block) (t : Float) → Finite t → (blocking_of b t ≡ Ok false) ↔ (free (axis_of_plan b) t ≡ true)
unfolding blocking_of
free_says b t f = rw (is_true (finite t) f, free_not_blocked b t f) (go (is_blocked b t))
  where
    go : (q : Bool) → (◌≡◌ {A = Result Bool Refusal} (Ok q) (Ok false)) ↔ (not q ≡ true)
    go true = (λ e. absurd (let z : ⊥ = omega (arith, ap blocking_number e) in z), λ e. absurd (false≢true e))
    go false = (λ e. refl, λ e. refl)

-- ---- number 9
no_fault : (m f l n o : Bool) → T f → l ≡ false → n ≡ false → o ≡ false → (not m && (not f || l || n || o)) ≡ false
no_fault true f l n o hf hl hn ho = refl
no_fault false true l n o hf hl hn ho = rw (hl, hn, ho)
no_fault false false l n o hf hl hn ho = absurd hf

no_fault_in_all : (d f a b : Bool) → d ≡ false → T f → a ≡ false → b ≡ false → (d || not f || a || b) ≡ false
no_fault_in_all d true a b hd hf ha hb = rw (hd, ha, hb)
no_fault_in_all d false a b hd hf ha hb = absurd hf

-- a profile whose duration is a total with these
pub record Lasting (brake accel : Float) (q : Profile) : Type 0 where
  pub total_is : Part (total q)
  pub duration_is : duration q ≡ total q +ᶠ brake +ᶠ accel

module _ (brake accel : Float) (hb : Part brake) (ha : Part accel) (P : Profile → Type 0)
    (lasting : (q : Profile) → P q → Lasting brake accel q) where
  lasts : (q : Profile) → P q → Finite (duration q)
  lasts q h =
      let k = lasting q h in
      rw k.duration_is (duration_finite (total q) brake accel k.total_is hb ha)

  not_shorter : (q l : Profile) → P q → P l → (total l <ᶠ total q) ≡ false → (duration l <ᶠ duration q) ≡ false
  not_shorter q l h g o =
      let k = lasting q h in
      let j = lasting l g in
      rw (k.duration_is, j.duration_is)
      (durations_in_order (total q) brake accel k.total_is hb ha (total l) j.total_is o)

  stretch_right : (q : Profile) (s : Stretch) → P q → After P q s
      → wrong_stretch (duration q) (left_end s) (right_end s) ≡ false
  stretch_right q s h nothing = unfold eq of_bits in refl
  stretch_right q s h (between l r hl hr o i) =
      no_fault (missing (duration l) (duration r)) (finite (duration l)) (duration l <ᶠ duration q)
      (is_nan (duration r)) (duration r <ᶠ duration l) (lasts l hl) (not_shorter q l h hl o)
      (finite_number (duration r) (lasts r hr)) i
  stretch_right q s h from =
      no_fault (missing (duration q) (inf false)) (finite (duration q)) (duration q <ᶠ duration q)
      (is_nan (inf false)) (inf false <ᶠ duration q) (lasts q h) (lt_irreflexive (duration q))
      (unfold is_nan in refl) (infinity_not_below (duration q))

  -- a plan of such profiles, whose stretches lie after its profile
  pub plan_right : (b : Block) → b.t_min ≡ duration b.p_min → P b.p_min → EachAfter P b
      → wrong_axis (axis_of_plan b) ≡ false
  unfolding wrong_axis axis_of_plan
  plan_right b e h a =
      let q = b.p_min in
      let k = lasting q h in
      let z : AtLeastZero (duration q) =
      rw k.duration_is (duration_at_least_zero (total q) brake accel k.total_is hb ha) in
      rw e
      (no_fault_in_all _ (finite (duration q)) _ _ (at_most_not_below 0ᶠ (duration q) z) (lasts q h)
      (stretch_right q b.a.stretch h a.stretch_a) (stretch_right q b.b.stretch h a.stretch_b))
