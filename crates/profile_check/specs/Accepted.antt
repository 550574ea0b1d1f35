-- What an accepted check tells of the profile that it gives back: each condition that it met, and how its rows are
-- made. Definitions only.
use Rattle.std.specs.Prelude.{ℕ, suc, ◌≤◌, ◌<◌, ◌≡◌, Bool, cond, not, ◌&&◌, T, eqb, Float}
use Rattle.doubles.specs.Operators.{◌-ᶠ◌, ◌<ᶠ◌, at}
use Rattle.doubles.specs.Constants.{0ᶠ}
use Rattle.doubles.specs.Functions.{absᶠ}
use Rattle.profile.specs.Tolerances.{p_precision, v_precision, a_precision, t_max}
use Rattle.profile.specs.Names.{is_acc1, is_acc0_acc1, clears_row3}
use Rattle.profile.specs.Limits.{direction_of, bounds_of}
use Rattle.profile.specs.Boundary.{start_of, target_of}
use Rattle.profile_rows.specs.Rows.{sums, jerks, row_after}
use Rattle.profile_check.specs.Check.{phases_pass, zero_passes, a_within, v_within}
use Rattle.profile.specs.declared.Profile.{Profile}
use Rattle.profile.specs.declared.Limits.{Limits}
use Rattle.profile_rows.specs.declared.Row.{Row}
use Rattle.profile.specs.declared.ReachedLimits.{ReachedLimits}

-- row i of a profile
abbrev pub row_at : Profile → ℕ → Row
row_at q i = record { a = at q.a i; v = at q.v i; p = at q.p i }

-- the row that the phases make after row i
abbrev pub next_row : Profile → ℕ → Row
next_row q i = row_after (row_at q i) (at q.t i) (at q.j i)

-- what the check keeps as row i + 1's acceleration, where the phases make it a
abbrev pub kept_a : ReachedLimits → Bool → Limits → ℕ → Float → Float
kept_a reached set-limits m i a =
    cond (eqb i 0 && (set-limits && is_acc0_acc1 reached)) m.a_max
    (cond (eqb i 4 && (set-limits && is_acc0_acc1 reached)) m.a_min
    (cond (eqb i 2 && (set-limits && is_acc1 reached)) m.a_min
    (cond (eqb i 2 && clears_row3 reached) 0ᶠ a)))

-- what an accepted check tells of r: all but the position at the end
pub record AcceptedMotion (r : Profile) (set-limits : Bool) (jf : Float) (m : Limits) : Type 0 where
  -- the conditions of the times
  pub times : (i : ℕ) → i < 7 → T (not (at r.t i <ᶠ 0ᶠ))
  pub phases : T (phases_pass r.limits r.t)
  pub sum : T (not (t_max <ᶠ at (sums r.t) 6))
  -- what was filled in
  pub t_sum : r.t_sum ≡ sums r.t
  pub j_made : r.j ≡ jerks r.control_signs r.t jf
  pub p_made : (i : ℕ) → i < 7 → at r.p (suc i) ≡ (next_row r i).p
  pub v_made : (i : ℕ) → i < 7 → at r.v (suc i) ≡ (next_row r i).v
  pub a_made : (i : ℕ) → i < 7 → at r.a (suc i) ≡ kept_a r.limits set-limits m i (next_row r i).a
  pub direction : r.direction ≡ direction_of m
  -- the conditions of the rows
  pub zeros : (i : ℕ) → 2 ≤ i → i < 7
      → T (zero_passes (at r.a i) (at r.a (suc i)) (at r.v i) (at r.j i) (bounds_of m))
  pub v_end : T (absᶠ (at r.v 7 -ᶠ r.vf) <ᶠ v_precision)
  pub a_end : T (absᶠ (at r.a 7 -ᶠ r.af) <ᶠ a_precision)
  pub a1 : T (a_within (bounds_of m) (at r.a 1))
  pub a3 : T (a_within (bounds_of m) (at r.a 3))
  pub a5 : T (a_within (bounds_of m) (at r.a 5))
  pub v_within_law : (i : ℕ) → 3 ≤ i → i < 7 → T (v_within (bounds_of m) (at r.v i))

-- and the position at the end
pub record Accepted (r : Profile) (set-limits : Bool) (jf : Float) (m : Limits) : Type 0 where
  pub motion : AcceptedMotion r set-limits jf m
  pub p_end : T (absᶠ (at r.p 7 -ᶠ r.pf) <ᶠ p_precision)

-- r has the start, the target and the durations of q
pub record SameBoundary (q r : Profile) : Type 0 where
  pub start : start_of r ≡ start_of q
  pub target : target_of r ≡ target_of q
  pub brake : r.brake ≡ q.brake
  pub accel : r.accel ≡ q.accel
