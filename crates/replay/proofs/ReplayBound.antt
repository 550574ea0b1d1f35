-- The replay's bound: every profile of which the check's conditions hold ends at its target, within tolerance and
-- allowance. Assumes nothing.
use mathlib.Core.Path.{◌≡◌, refl}
use Prim.Native.Nat.{ℕ, ◌+◌, ◌*◌, ◌^◌, ◌≤◌, ◌<◌}
use native.Mathlib.Nat.{le_refl, le_trans, le_of_eq, le_of_suc-le-suc, mul-le-mul_left}
use native.Mathlib.Omega.{arith}
use mathlib.Core.Bool.{Bool, false, not}
use lib.IntN.{pos}
use lib.Dec.{T, lit≤}
use lib.Ieee.{Float, fin, binary64, le, fits, of_bits}
use Rattle.doubles.specs.Operators.{◌-ᶠ◌, ◌<ᶠ◌, ◌≤ᶠ◌, at}
use Rattle.doubles.specs.Functions.{absᶠ}
use Rattle.doubles.specs.Exact.{scale}
use Rattle.doubles.specs.Signed.{size}
use Rattle.doubles.specs.Value.{value, val, Fits, Finite}
use Rattle.doubles.proofs.OrderLaws.{le→atmost}
use Rattle.doubles.specs.Value.{Close}
use Rattle.profile.specs.Tolerances.{p_precision, v_precision, a_precision, t_max}
use Rattle.profile.specs.Boundary.{start_of, target_of}
use Rattle.profile_rows.specs.Rows.{sums}
use Rattle.profile.specs.declared.Profile.{Profile}
use Rattle.profile_check.specs.Accepted.{row_at}
use Rattle.replay.specs.Replay.{U, replayed}
use Rattle.replay.specs.Allowance.{underflow, position_allowance, velocity_allowance, acceleration_allowance}
use Rattle.replay.specs.Promise.{EndsMoving, EndsAt}
use Rattle.replay.proofs.ExactMotion.{Phase, row_state, time_to, state_at, sum_a, sum_v, sum_p}
use Rattle.replay.proofs.PhaseErrors.{RowFits, MotionFinite, time_not_negative}
use Rattle.replay.proofs.AccumulatedErrors.{RowsMade, row_fits, motion_finite, phase_finite, position_finite}
use Rattle.replay.proofs.AccumulatedErrors.{motion_error, position_error_at}
use Rattle.replay.proofs.DurationBound.{Time, last_sum, duration_bound}
use Rattle.replay.proofs.Underflow.{total_underflow_x, total_underflow_y, total_underflow_z, error_x_total}
use Rattle.replay.proofs.Underflow.{error_y_total, error_z_total}
use Rattle.replay.proofs.IntegerReplay.{taken_by, phase_at, SameState, same_replay, T-is, Sa-is, Sv-is, Sp-is}
use Rattle.replay.proofs.TargetDistance.{close_1e_8, close_1e_10, at_most_from}

-- ---- the facts of an accepted check that the bound rests on. Any doubles: that they are finite is proved

-- all but the conditions on the position, for a longest duration up to 1e12
pub record VelocityChecked (longest : Float) (q : Profile) (taken : ℕ → Bool) : Type 0 where
  -- each row is made of the one before, an acceleration that is a stored limit is taken, and no time is below 0
  pub rows : RowsMade (row_at q) (phase_at q taken) 7
  -- the sum of the times is not above the longest duration
  pub longest_fits : Fits longest
  pub longest_finite : Finite longest
  pub longest_most : T (longest ≤ᶠ t_max)
  pub sum : T (not (longest <ᶠ at (sums q.t) 6))
  -- the last row's velocity and acceleration are near the target's
  pub vf_fits : Fits q.vf
  pub af_fits : Fits q.af
  pub v_ends : T (absᶠ (at q.v 7 -ᶠ q.vf) <ᶠ v_precision)
  pub a_ends : T (absᶠ (at q.a 7 -ᶠ q.af) <ᶠ a_precision)

pub record PositionChecked (longest : Float) (q : Profile) (taken : ℕ → Bool) : Type 0 where
  pub motion : VelocityChecked longest q taken
  pub pf_fits : Fits q.pf
  pub p_ends : T (absᶠ (at q.p 7 -ᶠ q.pf) <ᶠ p_precision)

-- ---- the longest duration
1e12_is : t_max ≡ fin false 244140625 (pos 12)
unfolding of_bits
1e12_is = refl

pub t_max_fits : Fits t_max
t_max_fits = rw 1e12_is (unfold fits in tt)

pub t_max_finite : Finite t_max
t_max_finite = rw 1e12_is tt

pub t_max_most : T (t_max ≤ᶠ t_max)
t_max_most = rw 1e12_is (unfold le in tt)

-- seven times that add up to at most 1e12 in doubles add up to at most 2 ^ 6 times that
abbrev span : ℕ
span = 64000000000000

span_is : 2 ^ 6 * size (val t_max) ≡ span * U
unfolding value scale of_bits
span_is = refl

-- what underflows in that time is below 2 ^ -800
below_x : total_underflow_x 7 span * (U * U * U) ≤ underflow
unfolding scale underflow
below_x = lit≤ tt

below_y : 3 * total_underflow_y 7 span * (U * U * U) ≤ underflow
unfolding scale underflow
below_y = lit≤ tt

below_z : 6 * total_underflow_z 7 * (U * U * U) ≤ underflow
unfolding scale underflow
below_z = lit≤ tt

-- ---- the errors are at most the allowances, where what underflows is at most 2 ^ -800
module _ (q : Profile) (taken : ℕ → Bool) (n : (i : ℕ) → i < 7 → (val (at q.t i)).less ≡ 0) where
  abbrev t₇ : ℕ
  t₇ = time_to (phase_at q taken) 7

  abbrev a₇ : ℕ
  a₇ = sum_a (row_at q) (phase_at q taken) 7

  abbrev v₇ : ℕ
  v₇ = sum_v (row_at q) (phase_at q taken) 7

  abbrev p₇ : ℕ
  p₇ = sum_p (row_at q) (phase_at q taken) 7

  module _ (e u : ℕ) where
    position_allowed : u * (U * U * U) ≤ underflow → e ≤ p₇ + 3 * t₇ * v₇ + 3 * (t₇ * t₇) * a₇ + u * (U * U * U)
        → 1 * e ≤ position_allowance q
    unfolding position_allowance
    position_allowed h l = rw (T-is q taken n, Sa-is q taken n, Sv-is q taken n, Sp-is q taken n) (omega arith)

    velocity_allowed : 3 * u * (U * U * U) ≤ underflow → e ≤ v₇ + 2 * t₇ * a₇ + u * (U * U)
        → 3 * U * e ≤ velocity_allowance q
    unfolding velocity_allowance
    velocity_allowed h l =
        rw (T-is q taken n, Sa-is q taken n, Sv-is q taken n) (omega (arith, mul-le-mul_left (3 * U) l))

    acceleration_allowed : 6 * u * (U * U * U) ≤ underflow → e ≤ a₇ + u * U → 6 * (U * U) * e ≤ acceleration_allowance q
    unfolding acceleration_allowance
    acceleration_allowed h l = rw (Sa-is q taken n) (omega (arith, mul-le-mul_left (6 * (U * U)) l))

-- ---- the theorems: for any j_max, and whatever `set_limits` stored that the replay takes
module _ (longest : Float) (q : Profile) (j-max : Float) (stored : ℕ → Bool) where
  abbrev taken : ℕ → Bool
  taken = taken_by j-max stored

  abbrev h : ℕ → Phase
  h = phase_at q taken

  module _ (c : VelocityChecked longest q taken) where
    last_fits : RowFits (row_at q 7)
    last_fits = row_fits (row_at q) h 7 c.rows 7 (le_refl 7)

    v_close : Close (at q.v 7) q.vf v_precision
    v_close = close_1e_8 (at q.v 7) q.vf last_fits.v c.vf_fits c.v_ends

    a_close : Close (at q.a 7) q.af a_precision
    a_close = close_1e_10 (at q.a 7) q.af last_fits.a c.af_fits c.a_ends

    last_finite : MotionFinite (row_at q 7)
    last_finite = record { v = v_close.x_finite; a = a_close.x_finite }

    is_time : (i : ℕ) → i < 7 → Time (at q.t i)
    is_time i l =
        let g = c.rows.phases i l in
        let f = (phase_finite (row_at q) h 7 c.rows last_finite i l).t in
        record { fits = g.t; finite = f; less = time_not_negative (h i) g f }

    no_less : (i : ℕ) → i < 7 → (val (at q.t i)).less ≡ 0
    no_less i l = (is_time i l).less

    lasts : time_to h 7 ≤ span * U
    unfolding time_to
    lasts =
        le_trans
        (duration_bound (λ i. at q.t i) 6 is_time longest t_max c.longest_fits c.longest_finite
        (rw (last_sum q.t) c.sum)
        (le→atmost binary64 longest t_max c.longest_fits t_max_fits c.longest_finite t_max_finite c.longest_most))
        (le_of_eq span_is)

    same : SameState (replayed (start_of q) j-max q stored 7) (state_at h (row_state (row_at q 0)) 7)
    same = same_replay j-max q stored 7 no_less 7 (le_refl 7)

    pub ends_moving : EndsMoving (start_of q) (target_of q) j-max q stored
    ends_moving =
        let r = row_at q in
        let end = replayed (start_of q) j-max q stored 7 in
        let e = motion_error r h 7 c.rows 7 (le_refl 7) last_finite in
        record {
          velocity =
              at_most_from (3 * U) (2 * (U * U)) end.y _ (at q.v 7) q.vf v_precision _ _ same.y
              (omega arith) v_close e.y
              (velocity_allowed q taken no_less _ (total_underflow_y 7 span) below_y (error_y_total r h 7 span lasts));
          acceleration =
              at_most_from (6 * (U * U)) U end.z _ (at q.a 7) q.af a_precision _ _ same.z
              (omega arith) a_close e.z
              (acceleration_allowed q taken no_less _ (total_underflow_z 7) below_z (error_z_total r h 7 span lasts));
          finite = record {
            t = λ i l. (is_time i l).finite;
            j = λ i l. (phase_finite r h 7 c.rows last_finite i l).j;
            a = λ i l. (motion_finite r h 7 c.rows last_finite i (le_of_suc-le-suc l)).a;
            v = λ i l. (motion_finite r h 7 c.rows last_finite i (le_of_suc-le-suc l)).v;
            vf = v_close.y_finite;
            af = a_close.y_finite;
          };
        }

  pub ends_at : PositionChecked longest q taken → EndsAt (start_of q) (target_of q) j-max q stored
  ends_at k =
      let c = k.motion in
      let r = row_at q in
      let end = replayed (start_of q) j-max q stored 7 in
      let p-close = close_1e_8 (at q.p 7) q.pf (last_fits c).p k.pf_fits k.p_ends in
      let e = position_error_at r h 7 c.rows 7 (le_refl 7) (last_finite c) p-close.x_finite in
      record {
        position =
            at_most_from 1 (6 * (U * U * U)) end.x _ (at q.p 7) q.pf p_precision _ _ (same c).x
            (omega arith) p-close e
            (position_allowed q taken (no_less c) _ (total_underflow_x 7 span) below_x
            (error_x_total r h 7 span (lasts c)));
        moving = ends_moving c;
        finite =
            record {
              p = λ i l. position_finite r h 7 c.rows p-close.x_finite i (le_of_suc-le-suc l);
              pf = p-close.y_finite;
            };
      }
