-- `time_all_none_acc0_acc1`: a try for each root of three quartics. Definitions only.
-- The Rust solves the three before the first try. Roots depend on no try, so each can be solved where its tries begin.
use Rattle.std.specs.Prelude.{ℕ, Bool, true, false, not, List, [], ◌∷◌, ◌++◌, Float}
use Rattle.doubles.specs.Operators.{at}
use Rattle.doubles.specs.Constants.{0ᶠ}
use Rattle.profile.specs.declared.Start.{Start}
use Rattle.profile.specs.declared.Target.{Target}
use Rattle.profile.specs.declared.Limits.{Limits}
use Rattle.profile.specs.declared.ReachedLimits.TheVariants.{None, Acc0, Acc1}
use Rattle.phase_times.specs.declared.constants.Constants.{Constants}
use Rattle.phase_times_quartic.specs.Quartic.{shifted_quartic, has_solution}
use Rattle.phase_times_quartic.specs.RootRange.{is_skipped}
use Rattle.phase_times_quartic.specs.TimeNone.{h2_none, polynom_none, range_none, corrected_none, times_none}
use Rattle.phase_times_quartic.specs.TimeAcc0.{h0_acc0, h2_acc0, h3_acc0, polynom_acc0, range_acc0, corrected_acc0}
use Rattle.phase_times_quartic.specs.TimeAcc0.{times_acc0}
use Rattle.phase_times_quartic.specs.TimeAcc1.{h0_acc1, h2_acc1, h3_acc1, polynom_acc1, range_acc1, times_acc1}
use Rattle.phase_times_quartic.specs.CorrectionAcc1.{corrected_acc1}
use Rattle.phase_times_quartic.specs.declared.quartic.Quartic.{Quartic}
use Rattle.phase_times_quartic.specs.declared.root_range.RootRange.{RootRange}
use Rattle.roots.specs.List.{no_roots, roots_of, ascending_of}
use Rattle.roots.specs.Quartic.{quartic_of}
use Rattle.roots.specs.declared.list.Roots.{Roots}
use Rattle.candidates.specs.declared.Try.{Try}
use Rattle.candidates.specs.declared.Candidates.{Candidates}
use Rattle.position_third_step1.specs.CheckTree.{CheckTree, tries, try_of}
use Rattle.position_third_step1.specs.Slots.{Slot, held}
use Rattle.position_third_step1.specs.declared.families.Shared.{Shared}

-- the roots in ascending order; none where the Rust's test says that there is no solution
unfoldable pub roots_if : Bool → Quartic → Roots
roots_if true q = ascending_of (quartic_of q.c0 q.c1 q.c2 q.c3)
roots_if false q = no_roots

-- ---- the three polynomials: roots, the range that they are held to, and the numbers by which one is corrected
unfoldable pub none_shared : Start → Target → Constants → Limits → Shared
none_shared start target k m =
    let h2 = h2_none start target k m in
    record {
      roots = roots_if true (polynom_none start target k m h2);
      range = range_none start target m;
      h0 = 0ᶠ;
      h1 = 0ᶠ;
      h2 = h2;
      h3 = 0ᶠ;
    }

unfoldable pub acc0_shared : Start → Target → Constants → Limits → Shared
acc0_shared start target k m =
    let h0 = h0_acc0 start target k m in
    let h2 = h2_acc0 target k m in
    let polynom = polynom_acc0 k m h0 h2 in
    let range = range_acc0 target m in
    record {
      roots = roots_if (has_solution (shifted_quartic polynom range.t_min)) polynom;
      range = range;
      h0 = h0;
      h1 = 0ᶠ;
      h2 = h2;
      h3 = h3_acc0 start target k m;
    }

unfoldable pub acc1_shared : Start → Target → Constants → Limits → Shared
acc1_shared start target k m =
    let h0 = h0_acc1 start target k m in
    let h2 = h2_acc1 start k m in
    let polynom = polynom_acc1 start k m h0 h2 in
    record {
      roots = roots_if (has_solution polynom) polynom;
      range = range_acc1 start m;
      h0 = h0;
      h1 = 0ᶠ;
      h2 = h2;
      h3 = h3_acc1 start target k m;
    }

-- ---- the times of a root: corrected, and made to times
module _ (start : Start) (target : Target) (k : Constants) (m : Limits) (s : Shared) where
  abbrev pub none_times : Float → List Float
  none_times t = times_none start target m s.h2 (corrected_none start target k m s.h2 t)

  abbrev pub acc0_times : Float → List Float
  acc0_times t = times_acc0 start target m s.h3 (corrected_acc0 k m s.h0 s.h2 t)

  abbrev pub acc1_times : Float → List Float
  acc1_times t = times_acc1 start target m s.h3 (corrected_acc1 start k m s.h0 s.h2 t)

-- whether the root i isn't skipped
abbrev pub root_holds : Shared → ℕ → Bool
root_holds s i = not (is_skipped s.range (at (roots_of s.roots) i))

-- ---- a slot for each root, in ascending order, which holds a try unless the root is skipped
unfoldable pub root_slots : RootRange → (times : Float → List Float) → (roots : List Float) → List Slot
root_slots range times [] = []
root_slots range times (t ∷ ts) = (not (is_skipped range t), times t) ∷ root_slots range times ts

abbrev pub slots_by : (times : Float → List Float) → Shared → List Slot
slots_by times s = root_slots s.range times (roots_of s.roots)

module _ (start : Start) (target : Target) (k : Constants) (m : Limits) where
  abbrev pub none_slots : Shared → List Slot
  none_slots s = slots_by (none_times start target k m s) s

  abbrev pub acc0_slots : Shared → List Slot
  acc0_slots s = slots_by (acc0_times start target k m s) s

  abbrev pub acc1_slots : Shared → List Slot
  acc1_slots s = slots_by (acc1_times start target k m s) s

  -- ---- the tries, polynomial by polynomial
  unfoldable pub none_tries : List Try
  none_tries = held (try_of start target m None) (none_slots (none_shared start target k m))

  unfoldable pub acc0_tries : List Try
  acc0_tries = held (try_of start target m Acc0) (acc0_slots (acc0_shared start target k m))

  unfoldable pub acc1_tries : List Try
  acc1_tries = held (try_of start target m Acc1) (acc1_slots (acc1_shared start target k m))

  unfoldable pub none_acc0_acc1_tries : List Try
  none_acc0_acc1_tries = none_tries ++ (acc0_tries ++ acc1_tries)

abbrev pub time_all_none_acc0_acc1 : Candidates → Start → Target → Constants → Limits → (return-after-found : Bool)
    → CheckTree
time_all_none_acc0_acc1 c start target k m return-after-found = tries return-after-found c (none_acc0_acc1_tries start target k m)
