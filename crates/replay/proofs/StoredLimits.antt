-- A check with `set_limits` true. Above a j_max of 1e50 the replay takes each limit that the check stored, and ends at
-- the target. Up to 1e50 it leaves them out, and a profile that the check accepts so can end elsewhere: two that do,
-- the border computed on both sides. Assumes nothing.
use mathlib.Core.Path.{◌≡◌, refl, ap, ◌∙◌, subst}
use Prim.Native.Nat.{ℕ, zero, suc, ◌+◌, ◌*◌, ◌^◌, ◌<◌}
use native.Mathlib.Nat.{not-le_of_lt}
use mathlib.Core.Bool.{Bool, true, false, ◌&&◌}
use mathlib.Core.List.{List, [], ◌∷◌}
use lib.IntN.{pos, neg_ℤ}
use lib.Dec.{lit<}
use lib.Ieee.{Float, binary64, neg, fits, of_bits}
use Rattle.doubles.specs.Operators.{◌<ᶠ◌}
use Rattle.doubles.specs.Constants.{0ᶠ, ½ᶠ, 1ᶠ, 2ᶠ, 3ᶠ, 4ᶠ, 6ᶠ}
use Rattle.doubles.specs.Functions.{absᶠ}
use Rattle.doubles.specs.Exact.{scale, exact, exact_size}
use Rattle.doubles.specs.Value.{Fits}
use Rattle.profile.specs.Tolerances.{p_precision}
use Rattle.profile.specs.Limits.{direction_of, bounds_of}
use Rattle.profile.specs.Boundary.{start_of, target_of, with_boundary, empty_profile}
use Rattle.profile.specs.With.{with_phases, with_rows, with_names}
use Rattle.profile_rows.specs.Rows.{sums, jerk_if, jerks, row_after, stored_if, outer_row, middle_row, rows_of}
use Rattle.profile_check.specs.Check.{times_pass, phases_pass, sum_passes, zero_passes, zeros_pass, end_passes}
use Rattle.profile_check.specs.Check.{rows_pass}
use Rattle.profile_check.specs.Check.{accepted, filled, checked}
use Rattle.profile.specs.declared.Profile.{Profile}
use Rattle.profile.specs.declared.Start.{Start}
use Rattle.profile.specs.declared.Target.{Target}
use Rattle.profile_check.specs.Check.{Checked}
use Rattle.profile.specs.declared.ControlSigns.TheVariants.{UDDU}
use Rattle.profile.specs.declared.ReachedLimits.{ReachedLimits}
use Rattle.profile.specs.declared.ReachedLimits.TheVariants.{Acc1, Acc0Acc1}
use Rattle.profile_check.proofs.Accepted.{each_phase}
use Rattle.replay.specs.Replay.{U, State, at_start, phase, zeroed_if, replaced_if, 1e50ᶠ, stored_rows, replayed}
use Rattle.replay.specs.Allowance.{sum_to, underflow, Sa, Sv, Sp, position_allowance}
use Rattle.replay.specs.Promise.{AtMostFrom, position_of, EndsAt}
use Rattle.replay.specs.StoredLimits.{at1e50, past1e50, wide_limits, nowhere, IsAccepted, Replayed, StoredIn}
use Rattle.replay.proofs.IntegerReplay.{taken_by}
use Rattle.replay.proofs.CheckedReplay.{ProfileFits, check_ends_at}
use Rattle.replay.proofs.ExampleProfiles.{zeros, of_numbers, from_rest, -1ᶠ}

-- ---- 1e50 is the double nearest to 10 ^ 50, which lies between the middles to its neighbours
abbrev before1e50 : Float
before1e50 = of_bits binary64 0x4a51_1b0e_c57e_6499

1e50_nearest : (exact_size before1e50 + exact_size at1e50 < 2 * 10 ^ 50 * U)
    × (2 * 10 ^ 50 * U < exact_size at1e50 + exact_size past1e50)
unfolding scale exact of_bits
1e50_nearest = (lit< tt, lit< tt)

-- ---- j_max and what was stored count only by the rows that are taken
same_taken : (start : Start) (q : Profile) (j k : Float) (stored other : ℕ → Bool)
    → ((i : ℕ) → taken_by j stored i ≡ taken_by k other i)
    → (i : ℕ) → replayed start j q stored i ≡ replayed start k q other i
unfolding replayed
same_taken start q j k stored other e zero = refl
same_taken start q j k stored other e (suc i) = rw (e (suc i), same_taken start q j k stored other e i) refl

-- so one j_max up to 1e50 is as good as another
not_above : false ≡ (1e50ᶠ <ᶠ at1e50)
unfolding of_bits lib.Ieee.lt
not_above = refl

up_to_1e50 : (start : Start) (q : Profile) (j-max : Float) (stored : ℕ → Bool) → (1e50ᶠ <ᶠ j-max) ≡ false
    → replayed start j-max q stored 7 ≡ replayed start at1e50 q stored 7
up_to_1e50 start q j-max stored e =
    same_taken start q j-max at1e50 stored stored (λ i. ap (λ (b : Bool). b && stored i) (e ∙ not_above)) 7

-- ---- two profiles from rest, with no jerk at all
wide_fits : Fits wide_limits.a_max × Fits wide_limits.a_min
unfolding wide_limits of_bits fits neg
wide_fits = (tt, tt)

module _ (q : Profile) (reached : ReachedLimits) (r : Profile) (end : State) where
  stored_in : ProfileFits q (λ i. 1ᶠ) → IsAccepted q reached r
      → Replayed q reached r at1e50 nowhere → Replayed q reached r past1e50 end
      → (AtMostFrom q.pf p_precision (position_allowance r) (position_of nowhere) → ⊥) → StoredIn q reached r end
  stored_in d h at_1e50 past_1e50 elsewhere =
      let stored = stored_rows true reached in
      record {
        is_accepted = h;
        at_1e50 = at_1e50;
        past_1e50 = past_1e50;
        ends_at = λ j-max above.
            subst (λ (c : Checked). EndsAt (start_of q) (target_of q) j-max c.profile stored) h
            (check_ends_at q UDDU reached true 1ᶠ wide_limits d wide_fits.0 wide_fits.1
            (ap (λ (c : Checked). c.ok) h) j-max (λ i s. above));
        ends_elsewhere = λ j-max e c.
            elsewhere
            (subst (λ (s : State). AtMostFrom q.pf p_precision (position_allowance r) (position_of s))
            (up_to_1e50 (start_of q) r j-max stored e ∙ at_1e50) c.position);
      }

-- ---- Acc0Acc1: a second with a_max, 3, stored in row 1, and three with a_min, -1, stored in row 5. The rows reach 6
abbrev outer_times : List Float
outer_times = 0ᶠ ∷ 1ᶠ ∷ 0ᶠ ∷ 0ᶠ ∷ 0ᶠ ∷ 3ᶠ ∷ 0ᶠ ∷ []

abbrev outer_target : Target
outer_target = record { pf = 6ᶠ; vf = 0ᶠ; af = -1ᶠ }

pub outer_profile : Profile
outer_profile =
    let 1½ᶠ = of_bits binary64 0x3ff8_0000_0000_0000 in
    of_numbers Acc0Acc1 outer_target outer_times
    (0ᶠ ∷ 1ᶠ ∷ 1ᶠ ∷ 1ᶠ ∷ 1ᶠ ∷ 4ᶠ ∷ 4ᶠ ∷ [])
    (zeros 7)
    (0ᶠ ∷ 3ᶠ ∷ 3ᶠ ∷ 0ᶠ ∷ 0ᶠ ∷ -1ᶠ ∷ -1ᶠ ∷ -1ᶠ ∷ [])
    (0ᶠ ∷ 0ᶠ ∷ 3ᶠ ∷ 3ᶠ ∷ 3ᶠ ∷ 3ᶠ ∷ 0ᶠ ∷ 0ᶠ ∷ [])
    (0ᶠ ∷ 0ᶠ ∷ 1½ᶠ ∷ 1½ᶠ ∷ 1½ᶠ ∷ 1½ᶠ ∷ 6ᶠ ∷ 6ᶠ ∷ [])

outer_accepted : IsAccepted (from_rest outer_times outer_target) Acc0Acc1 outer_profile
unfolding outer_profile of_numbers with_phases with_rows with_names with_boundary empty_profile from_rest wide_limits checked
    accepted times_pass phases_pass sum_passes zeros_pass zero_passes end_passes rows_pass filled rows_of outer_row middle_row
    stored_if row_after jerks jerk_if sums bounds_of direction_of absᶠ of_bits lib.Ieee.lt lib.Ieee.le lib.Ieee.add
    lib.Ieee.sub lib.Ieee.mul lib.Ieee.div neg
outer_accepted = refl

outer_fits : ProfileFits (from_rest outer_times outer_target) (λ i. 1ᶠ)
unfolding of_numbers with_phases with_rows with_names with_boundary empty_profile from_rest of_bits fits neg
outer_fits =
    record {
      start = record { p = tt; v = tt; a = tt };
      times = each_phase _ tt tt tt tt tt tt tt;
      jerks = λ i l. tt;
      pf = tt;
      vf = tt;
      af = tt;
    }

pub outer : StoredIn (from_rest outer_times outer_target) Acc0Acc1 outer_profile
    (record { x = pos (6 * (6 * (U * U * U * U))); y = pos 0; z = neg_ℤ (pos (U * U)) })
unfolding position_allowance underflow Rattle.replay.specs.Allowance.T Sa Sv Sp sum_to replayed at_start phase
    zeroed_if replaced_if stored_rows scale exact outer_profile of_numbers with_phases with_rows with_names with_boundary
    empty_profile from_rest of_bits fits lib.Ieee.lt neg
outer =
    stored_in _ Acc0Acc1 outer_profile _ outer_fits outer_accepted refl refl (not-le_of_lt (lit< tt))

-- ---- Acc1: two seconds, in phases 3 and 5, with a_min, -1, stored in row 3. The rows reach -2
abbrev middle_times : List Float
middle_times = 0ᶠ ∷ 0ᶠ ∷ 0ᶠ ∷ 1ᶠ ∷ 0ᶠ ∷ 1ᶠ ∷ 0ᶠ ∷ []

abbrev -2ᶠ : Float
-2ᶠ = neg 2ᶠ

abbrev middle_target : Target
middle_target = record { pf = -2ᶠ; vf = -2ᶠ; af = -1ᶠ }

pub middle_profile : Profile
middle_profile =
    let -½ᶠ = neg ½ᶠ in
    of_numbers Acc1 middle_target middle_times
    (0ᶠ ∷ 0ᶠ ∷ 0ᶠ ∷ 1ᶠ ∷ 1ᶠ ∷ 2ᶠ ∷ 2ᶠ ∷ [])
    (zeros 7)
    (0ᶠ ∷ 0ᶠ ∷ 0ᶠ ∷ -1ᶠ ∷ -1ᶠ ∷ -1ᶠ ∷ -1ᶠ ∷ -1ᶠ ∷ [])
    (0ᶠ ∷ 0ᶠ ∷ 0ᶠ ∷ 0ᶠ ∷ -1ᶠ ∷ -1ᶠ ∷ -2ᶠ ∷ -2ᶠ ∷ [])
    (0ᶠ ∷ 0ᶠ ∷ 0ᶠ ∷ 0ᶠ ∷ -½ᶠ ∷ -½ᶠ ∷ -2ᶠ ∷ -2ᶠ ∷ [])

middle_accepted : IsAccepted (from_rest middle_times middle_target) Acc1 middle_profile
unfolding middle_profile of_numbers with_phases with_rows with_names with_boundary empty_profile from_rest wide_limits checked
    accepted times_pass phases_pass sum_passes zeros_pass zero_passes end_passes rows_pass filled rows_of outer_row middle_row
    stored_if row_after jerks jerk_if sums bounds_of direction_of absᶠ of_bits lib.Ieee.lt lib.Ieee.le lib.Ieee.add
    lib.Ieee.sub lib.Ieee.mul lib.Ieee.div neg
middle_accepted = refl

middle_fits : ProfileFits (from_rest middle_times middle_target) (λ i. 1ᶠ)
unfolding of_numbers with_phases with_rows with_names with_boundary empty_profile from_rest of_bits fits neg
middle_fits =
    record {
      start = record { p = tt; v = tt; a = tt };
      times = each_phase _ tt tt tt tt tt tt tt;
      jerks = λ i l. tt;
      pf = tt;
      vf = tt;
      af = tt;
    }

pub middle : StoredIn (from_rest middle_times middle_target) Acc1 middle_profile
    (record {
      x = neg_ℤ (pos (2 * (6 * (U * U * U * U))));
      y = neg_ℤ (pos (2 * (2 * (U * U * U))));
      z = neg_ℤ (pos (U * U));
    })
unfolding position_allowance underflow Rattle.replay.specs.Allowance.T Sa Sv Sp sum_to replayed at_start phase
    zeroed_if replaced_if stored_rows scale exact middle_profile of_numbers with_phases with_rows with_names with_boundary
    empty_profile from_rest of_bits fits lib.Ieee.lt neg
middle =
    stored_in _ Acc1 middle_profile _ middle_fits middle_accepted refl refl (not-le_of_lt (lit< tt))
