-- The bound is about something: move 2 of document 01, from rest at 0 to rest at 4 with all limits 1, is accepted, and
-- both sides of its bound are computed. A profile that stays at the start is outside it. Assumes nothing.
use mathlib.Core.Path.{◌≡◌, refl, ap, subst}
use Prim.Native.Nat.{◌+◌, ◌*◌, ◌^◌, ◌≤◌}
use native.Mathlib.Nat.{not-le_of_lt}
use mathlib.Core.Bool.{true, false}
use mathlib.Core.List.{[], ◌∷◌}
use lib.IntN.{pos}
use lib.Dec.{lit<, lit≤}
use lib.Ieee.{binary64, neg, fits, of_bits}
use Rattle.doubles.specs.Constants.{0ᶠ, ½ᶠ, 1ᶠ, 2ᶠ, 3ᶠ, 4ᶠ, 5ᶠ, 6ᶠ}
use Rattle.doubles.specs.Functions.{absᶠ}
use Rattle.doubles.specs.Exact.{scale, exact, exact_size}
use Rattle.doubles.specs.Value.{Fits}
use Rattle.profile.specs.Tolerances.{p_precision, v_precision, a_precision}
use Rattle.profile.specs.Limits.{direction_of, bounds_of}
use Rattle.profile.specs.Boundary.{start_of, target_of, with_boundary, empty_profile}
use Rattle.profile.specs.With.{with_phases, with_rows, with_names}
use Rattle.profile_rows.specs.Rows.{sums, jerk_if, jerks, row_after, stored_if, outer_row, middle_row, rows_of}
use Rattle.profile_check.specs.Check.{times_pass, phases_pass, sum_passes, zero_passes, zeros_pass, end_passes}
use Rattle.profile_check.specs.Check.{rows_pass}
use Rattle.profile_check.specs.Check.{accepted, filled, checked}
use Rattle.profile.specs.declared.Profile.{Profile}
use Rattle.profile_check.specs.Check.{Checked}
use Rattle.profile.specs.declared.Target.{Target}
use Rattle.profile.specs.declared.Limits.{Limits}
use Rattle.profile.specs.declared.ControlSigns.TheVariants.{UDDU}
use Rattle.profile.specs.declared.ReachedLimits.TheVariants.{Vel}
use Rattle.profile_check.proofs.Accepted.{each_phase}
use Rattle.replay.specs.Replay.{U, at_start, phase, zeroed_if, replaced_if, stored_rows, replayed}
use Rattle.replay.specs.Allowance.{sum_to, underflow, T, Sa, Sv, Sp, position_allowance, velocity_allowance}
use Rattle.replay.specs.Allowance.{acceleration_allowance}
use Rattle.replay.specs.Promise.{from_exact, EndsAt}
use Rattle.replay.proofs.ExampleProfiles.{zeros, of_numbers, from_rest, -1ᶠ}
use Rattle.replay.proofs.CheckedReplay.{ProfileFits, none_stored, none_taken, check_ends_at}

-- ---- the scales are the paper's: what makes a state's x a whole number of the promise, a double, and 2 ^ -800
scales : (2 ^ 50 * (6 * (U * U * U * U)) ≡ 6 * 2 ^ 4346) × (from_exact * U ≡ 6 * 2 ^ 4346)
    × (underflow * 2 ^ 800 ≡ 6 * 2 ^ 4346)
unfolding scale underflow
scales = (refl, refl, refl)

-- ---- all limits 1
unfoldable pub unit_limits : Limits
unit_limits = record { v_max = 1ᶠ; v_min = -1ᶠ; a_max = 1ᶠ; a_min = -1ᶠ; j_max = 1ᶠ }

-- ---- move 2, with the times 1 0 1 2 1 0 1
abbrev pub to_four : Target
to_four = record { pf = 4ᶠ; vf = 0ᶠ; af = 0ᶠ }

abbrev pub given : Profile
given = from_rest (1ᶠ ∷ 0ᶠ ∷ 1ᶠ ∷ 2ᶠ ∷ 1ᶠ ∷ 0ᶠ ∷ 1ᶠ ∷ []) to_four

-- what the check makes of it. The rows 1 and 2, and 5 and 6, are at the doubles nearest 1/6 and 23/6
pub move2_profile : Profile
move2_profile =
    let sixth = of_bits binary64 0x3fc5_5555_5555_5555 in
    let sixths = of_bits binary64 0x400e_aaaa_aaaa_aaab in
    of_numbers Vel to_four
    (1ᶠ ∷ 0ᶠ ∷ 1ᶠ ∷ 2ᶠ ∷ 1ᶠ ∷ 0ᶠ ∷ 1ᶠ ∷ [])
    (1ᶠ ∷ 1ᶠ ∷ 2ᶠ ∷ 4ᶠ ∷ 5ᶠ ∷ 5ᶠ ∷ 6ᶠ ∷ [])
    (1ᶠ ∷ 0ᶠ ∷ -1ᶠ ∷ 0ᶠ ∷ -1ᶠ ∷ 0ᶠ ∷ 1ᶠ ∷ [])
    (0ᶠ ∷ 1ᶠ ∷ 1ᶠ ∷ 0ᶠ ∷ 0ᶠ ∷ -1ᶠ ∷ -1ᶠ ∷ 0ᶠ ∷ [])
    (0ᶠ ∷ ½ᶠ ∷ ½ᶠ ∷ 1ᶠ ∷ 1ᶠ ∷ ½ᶠ ∷ ½ᶠ ∷ 0ᶠ ∷ [])
    (0ᶠ ∷ sixth ∷ sixth ∷ 1ᶠ ∷ 3ᶠ ∷ sixths ∷ sixths ∷ 4ᶠ ∷ [])

pub move_2_checked : checked given UDDU Vel false 1ᶠ unit_limits ≡ record { ok = true; profile = move2_profile }
unfolding move2_profile of_numbers with_phases with_rows with_names with_boundary empty_profile from_rest unit_limits checked
    accepted times_pass phases_pass sum_passes zeros_pass zero_passes end_passes rows_pass filled rows_of outer_row middle_row
    stored_if row_after jerks jerk_if sums bounds_of direction_of absᶠ of_bits lib.Ieee.lt lib.Ieee.le lib.Ieee.add
    lib.Ieee.sub lib.Ieee.mul lib.Ieee.div neg
move_2_checked = refl

given_fits : ProfileFits given (λ i. 1ᶠ)
unfolding of_numbers with_phases with_rows with_names with_boundary empty_profile from_rest of_bits fits
given_fits =
    record {
      start = record { p = tt; v = tt; a = tt };
      times = each_phase _ tt tt tt tt tt tt tt;
      jerks = λ i l. tt;
      pf = tt;
      vf = tt;
      af = tt;
    }

pub unit_fits : Fits unit_limits.a_max × Fits unit_limits.a_min
unfolding unit_limits of_bits fits neg
unit_fits = (tt, tt)

-- the theorem, there
pub move_2_ends_at : EndsAt (start_of given) (target_of given) 1ᶠ move2_profile (stored_rows false Vel)
move_2_ends_at =
    subst (λ (c : Checked). EndsAt (start_of given) (target_of given) 1ᶠ c.profile (stored_rows false Vel))
    move_2_checked
    (check_ends_at given UDDU Vel false 1ᶠ unit_limits given_fits unit_fits.0 unit_fits.1
    (ap (λ (c : Checked). c.ok) move_2_checked) 1ᶠ (none_taken 1ᶠ (stored_rows false Vel) (none_stored Vel)))

-- the left sides are 0: the replay ends at 4, at rest
end_is : replayed (start_of given) 1ᶠ move2_profile (stored_rows false Vel) 7
    ≡ record { x = pos (4 * (6 * (U * U * U * U))); y = pos 0; z = pos 0 }
unfolding replayed at_start phase zeroed_if replaced_if stored_rows move2_profile of_numbers with_phases with_rows with_names
    with_boundary empty_profile from_rest scale exact of_bits lib.Ieee.lt neg
end_is = refl

-- the right sides: T is 6, Sa and Sv are 8, and Sp is 53/3 but for the rounding of four positions
sums_are : (T move2_profile ≡ 6 * U) × (Sa move2_profile ≡ 8 * (U * U)) × (Sv move2_profile ≡ 8 * (2 * (U * U * U)))
unfolding T Sa Sv sum_to move2_profile of_numbers with_phases with_rows with_names with_boundary empty_profile scale exact
    of_bits neg
sums_are = (refl, refl, refl)

Sp-near : (53 * (2 * (U * U * U * U)) * 2 ^ 50 ≤ Sp move2_profile * (2 ^ 50 + 1))
    × (Sp move2_profile * 2 ^ 50 ≤ 53 * (2 * (U * U * U * U)) * (2 ^ 50 + 1))
unfolding Sp sum_to move2_profile of_numbers with_phases with_rows with_names with_boundary empty_profile scale exact of_bits neg
Sp-near = (lit≤ tt, lit≤ tt)

-- so the bounds are at most 1.0001e-8, 1.0001e-8 and 1.0001e-10
bounds_are : (10 ^ 12 * (from_exact * exact_size p_precision + position_allowance move2_profile) ≤ 10001 * (6 * 2 ^ 4346))
    × (10 ^ 12 * (from_exact * exact_size v_precision + velocity_allowance move2_profile) ≤ 10001 * (6 * 2 ^ 4346))
    × (10 ^ 14 * (from_exact * exact_size a_precision + acceleration_allowance move2_profile) ≤ 10001 * (6 * 2 ^ 4346))
unfolding position_allowance velocity_allowance acceleration_allowance underflow T Sa Sv Sp sum_to move2_profile of_numbers
    with_phases with_rows with_names with_boundary empty_profile scale exact of_bits neg
bounds_are = (lit≤ tt, lit≤ tt, lit≤ tt)

-- ---- the boundary with zero times is 4 from the target, which no allowance of its own rows covers
abbrev pub still : Profile
still = from_rest (zeros 7) to_four

pub still_ends_elsewhere : EndsAt (start_of still) (target_of still) 1ᶠ still (stored_rows false Vel) → ⊥
unfolding of_numbers with_phases with_rows with_names with_boundary empty_profile from_rest position_allowance underflow T Sa Sv
    Sp sum_to replayed at_start phase zeroed_if replaced_if stored_rows scale exact of_bits lib.Ieee.lt
still_ends_elsewhere e = not-le_of_lt (lit< tt) e.position
