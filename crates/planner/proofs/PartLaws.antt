-- A duration by its parts, which are a total, brake and accel: it is finite, at least 0, and not shorter where the total
-- isn't less. Assumes nothing.
use Prim.Native.Nat.{ℕ, ◌≤◌, ◌<◌}
use native.Mathlib.Omega.{arith}
use mathlib.Core.Path.{◌≡◌}
use mathlib.Core.Bool.{Bool, false, not}
use mathlib.Core.List.{List}
use lib.Dec.{T, lit<}
use lib.Ieee.{Float, binary64}
use lib.Ieee.Fits.{add-fits}
use Rattle.doubles.specs.Operators.{◌+ᶠ◌, ◌<ᶠ◌, at}
use Rattle.doubles.specs.Constants.{0ᶠ}
use Rattle.doubles.specs.Signed.{Signed, AtMost}
use Rattle.doubles.specs.Value.{val, Fits, Finite, AtLeastZero}
use Rattle.doubles.proofs.OrderLaws.{not_lt→atmost, not_negative}
use Rattle.doubles.proofs.ComparisonLaws.{at_most_not_below}
use Rattle.doubles.proofs.SumOrderLaws.{at_least_zero_finite, add_at_least_zero, add_in_order}
use Rattle.profile.specs.Tolerances.{t_max}
use Rattle.profile_rows.specs.Rows.{sums}
use Rattle.replay.proofs.ReplayBound.{t_max_fits, t_max_finite}
use Rattle.planner.proofs.DurationLaws.{UpTo, plus_up_to, longest, two_longest, three_longest, zero_is}

-- ---- a part of a duration, which a total, brake and accel are: a double from 0 to 1e12
pub record Part (t : Float) : Type 0 where
  pub fits : Fits t
  pub at_least_zero : AtLeastZero t
  pub within : (t_max <ᶠ t) ≡ false

part_up_to : (t : Float) → Part t → UpTo longest t
unfolding longest
part_up_to t a =
    let i : Finite t = at_least_zero_finite t t_max a.at_least_zero t_max_finite a.within in
    let l : (val t).less ≡ 0 = not_negative binary64 t a.fits i
    (rw zero_is at (no (t <ᶠ 0ᶠ) (at_most_not_below 0ᶠ t a.at_least_zero))) in
    record {
      fits = a.fits;
      finite = i;
      less = l;
      most = side (val t) (val t_max) l
          (not_lt→atmost binary64 t_max t t_max_fits a.fits t_max_finite i (no (t_max <ᶠ t) a.within));
    }
  where
    no : (b : Bool) → b ≡ false → T (not b)
    no b e = rw e tt

    side : (x y : Signed) → x.less ≡ 0 → AtMost x y → x.plus ≤ y.plus
    side x y e h = omega arith

-- ---- a duration is finite, and at least 0
module _ (s brake accel : Float) (hs : Part s) (hb : Part brake) (ha : Part accel) where
  pub duration_finite : Finite (s +ᶠ brake +ᶠ accel)
  duration_finite =
      (plus_up_to (s +ᶠ brake) accel _ _
      (plus_up_to s brake _ _ (part_up_to s hs) (part_up_to brake hb) two_longest)
      (part_up_to accel ha) three_longest).finite

  pub duration_at_least_zero : AtLeastZero (s +ᶠ brake +ᶠ accel)
  duration_at_least_zero =
      add_at_least_zero binary64 (s +ᶠ brake) accel
      (add_at_least_zero binary64 s brake hs.at_least_zero hb.at_least_zero) ha.at_least_zero

  -- and one with a total that isn't less isn't shorter
  pub durations_in_order : (r : Float) → Part r → (r <ᶠ s) ≡ false
      → (r +ᶠ brake +ᶠ accel <ᶠ s +ᶠ brake +ᶠ accel) ≡ false
  durations_in_order r hr l =
      let z = hb.at_least_zero in
      add_in_order binary64 (s +ᶠ brake) (r +ᶠ brake) accel
      (add_at_least_zero binary64 s brake hs.at_least_zero z)
      (add_at_least_zero binary64 r brake hr.at_least_zero z) ha.at_least_zero
      (add_in_order binary64 s r brake hs.at_least_zero hr.at_least_zero z l)

-- ---- the sum of seven times, doubles or not
pub total_part : (t : List Float) → ((i : ℕ) → i < 7 → AtLeastZero (at t i)) → (t_max <ᶠ at (sums t) 6) ≡ false
    → Part (at (sums t) 6)
unfolding sums
total_part t h w =
    let plus : (x y : Float) → AtLeastZero x → AtLeastZero y → AtLeastZero (x +ᶠ y) = add_at_least_zero binary64 in
    record {
      fits = add-fits binary64 _ (at t 6);
      at_least_zero = plus _ _ (plus _ _ (plus _ _ (plus _ _ (plus _ _ (plus _ _ (h 0 (lit< tt)) (h 1 (lit< tt)))
          (h 2 (lit< tt))) (h 3 (lit< tt))) (h 4 (lit< tt))) (h 5 (lit< tt))) (h 6 (lit< tt));
      within = w;
    }
