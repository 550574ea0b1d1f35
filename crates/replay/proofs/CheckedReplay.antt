-- The replay's bound for the check's own definition: whatever doubles are put in, a profile that the check accepts ends
-- at its target, if the replay takes each limit that the check stored. Assumes nothing.
use mathlib.Core.Path.{◌≡◌, refl, sym, ◌∙◌, subst}
use Prim.Native.Nat.{ℕ, suc, ◌<◌}
use mathlib.Core.Bool.{Bool, true, false, ◌&&◌, ◌||◌, cond}
use mathlib.Core.List.{List}
use lib.Dec.{T, eqb, lit<}
use lib.Ieee.{Float, binary64}
use lib.Ieee.Fits.{cond-fits, neg-fits}
use Rattle.doubles.specs.Operators.{◌<ᶠ◌, -ᶠ◌, at}
use Rattle.doubles.specs.Constants.{0ᶠ}
use Rattle.doubles.specs.Value.{Fits}
use Rattle.profile.specs.Tolerances.{t_max}
use Rattle.profile.specs.Names.{clears_row3}
use Rattle.profile.specs.Boundary.{start_of, target_of}
use Rattle.profile_rows.specs.Rows.{jerk_if, jerks, rows_of, stored_if}
use Rattle.profile_check.specs.Check.{accepted, filled, checked}
use Rattle.profile.specs.declared.Profile.{Profile}
use Rattle.profile_check.specs.Check.{Checked}
use Rattle.profile.specs.declared.Limits.{Limits}
use Rattle.profile.specs.declared.ControlSigns.{ControlSigns}
use Rattle.profile.specs.declared.ControlSigns.TheVariants.{UDDU, UDUD}
use Rattle.profile.specs.declared.ReachedLimits.{ReachedLimits}
use Rattle.profile.specs.declared.ReachedLimits.TheVariants.{Acc0Acc1Vel, Vel, Acc0, Acc1, Acc0Acc1, Acc0Vel, Acc1Vel}
use Rattle.profile.specs.declared.ReachedLimits.TheVariants.{None}
use Rattle.profile_check.specs.Accepted.{AcceptedMotion, Accepted, row_at, kept_a}
use Rattle.profile_check.proofs.Accepted.{each_phase, accepts_tells}
use Rattle.replay.specs.Replay.{1e50ᶠ, stored_rows}
use Rattle.replay.specs.Promise.{EndsMoving, EndsAt, Taken, CheckEndsAt}
use Rattle.replay.proofs.ExactMotion.{next_row}
use Rattle.replay.proofs.PhaseErrors.{RowFits, zero_fits}
use Rattle.replay.proofs.AccumulatedErrors.{RowsMade}
use Rattle.replay.proofs.IntegerReplay.{taken_by, phase_at}
use Rattle.replay.proofs.ReplayBound.{VelocityChecked, t_max_fits, t_max_finite, t_max_most, ends_moving, ends_at}

-- ---- what is read of a profile is of doubles, any, and so are its jerks j
pub record ProfileFits (q : Profile) (j : ℕ → Float) : Type 0 where
  pub start : RowFits (row_at q 0)
  pub times : (i : ℕ) → i < 7 → Fits (at q.t i)
  pub jerks : (i : ℕ) → i < 7 → Fits (j i)
  pub pf : Fits q.pf
  pub vf : Fits q.vf
  pub af : Fits q.af

-- ---- what the check keeps as row i + 1's acceleration, where the phases make it a
module _ (m : Limits) (a : Float) where
  -- where no limit is stored: a, but for row 3's zero
  kept : (set-limits : Bool) (reached : ReachedLimits) (i : ℕ) → i < 7 → (T (stored_rows set-limits reached (suc i)) → ⊥)
      → kept_a reached set-limits m i a ≡ cond (eqb i 2 && clears_row3 reached) 0ᶠ a
  unfolding stored_rows
  kept false reached = each_phase _ (λ n. refl) (λ n. refl) (λ n. refl) (λ n. refl) (λ n. refl) (λ n. refl) (λ n. refl)
  kept true Acc0Acc1Vel =
      each_phase _ (λ n. refl) (λ n. refl) (λ n. refl) (λ n. refl) (λ n. refl) (λ n. refl) (λ n. refl)
  kept true Vel = each_phase _ (λ n. refl) (λ n. refl) (λ n. refl) (λ n. refl) (λ n. refl) (λ n. refl) (λ n. refl)
  kept true Acc0 = each_phase _ (λ n. refl) (λ n. refl) (λ n. refl) (λ n. refl) (λ n. refl) (λ n. refl) (λ n. refl)
  kept true Acc1 =
      each_phase _ (λ n. refl) (λ n. refl) (λ n. absurd (n tt)) (λ n. refl) (λ n. refl) (λ n. refl) (λ n. refl)
  kept true Acc0Acc1 =
      each_phase _ (λ n. absurd (n tt)) (λ n. refl) (λ n. refl) (λ n. refl) (λ n. absurd (n tt)) (λ n. refl) (λ n. refl)
  kept true Acc0Vel = each_phase _ (λ n. refl) (λ n. refl) (λ n. refl) (λ n. refl) (λ n. refl) (λ n. refl) (λ n. refl)
  kept true Acc1Vel = each_phase _ (λ n. refl) (λ n. refl) (λ n. refl) (λ n. refl) (λ n. refl) (λ n. refl) (λ n. refl)
  kept true None = each_phase _ (λ n. refl) (λ n. refl) (λ n. refl) (λ n. refl) (λ n. refl) (λ n. refl) (λ n. refl)

  -- where one is stored: a_max in row 1, a_min in rows 3 and 5
  kept_limit : (set-limits : Bool) (reached : ReachedLimits) (i : ℕ) → i < 7 → T (stored_rows set-limits reached (suc i))
      → kept_a reached set-limits m i a ≡ cond (eqb i 0) m.a_max m.a_min
  unfolding stored_rows
  kept_limit true Acc1 =
      each_phase _ (λ s. absurd s) (λ s. absurd s) (λ s. refl) (λ s. absurd s) (λ s. absurd s) (λ s. absurd s)
      (λ s. absurd s)
  kept_limit true Acc0Acc1 =
      each_phase _ (λ s. refl) (λ s. absurd s) (λ s. absurd s) (λ s. absurd s) (λ s. refl) (λ s. absurd s)
      (λ s. absurd s)
  kept_limit false reached = λ i l s. absurd s
  kept_limit true Acc0Acc1Vel = λ i l s. absurd s
  kept_limit true Vel = λ i l s. absurd s
  kept_limit true Acc0 = λ i l s. absurd s
  kept_limit true Acc0Vel = λ i l s. absurd s
  kept_limit true Acc1Vel = λ i l s. absurd s
  kept_limit true None = λ i l s. absurd s

-- ---- the stored limits: each is taken by the replay, and a double
pub record StoredTaken (q : Profile) (j-max : Float) (stored : ℕ → Bool) : Type 0 where
  pub taken : Taken j-max stored
  pub fits : (i : ℕ) → i < 7 → T (stored (suc i)) → Fits (at q.a (suc i))

-- where there is none
pub none_stored : (reached : ReachedLimits) (i : ℕ) → stored_rows false reached i ≡ false
unfolding stored_rows
none_stored reached i = refl

module _ (j-max : Float) (stored : ℕ → Bool) (none : (i : ℕ) → stored i ≡ false) where
  pub none_taken : Taken j-max stored
  none_taken i s = absurd (subst T (none i) s)

  none_to_take : (q : Profile) → StoredTaken q j-max stored
  none_to_take q = record { taken = none_taken; fits = λ i l s. absurd (subst T (none (suc i)) s) }

-- with b for j_max above 1e50, s for a limit stored in a row and z for its zero: the row's acceleration x is as a phase
-- sets it
set_as : (b s z : Bool) (x a : Float) → (T s → T b) → ((T s → ⊥) → x ≡ cond z 0ᶠ a)
    → x ≡ cond (b && s || z) (cond (b && s) x 0ᶠ) a
set_as true true z x a above n = refl
set_as false true z x a above n = absurd (above tt)
set_as true false z x a above n = n (λ s. s)
set_as false false z x a above n = n (λ s. s)

set_fits : (b s : Bool) (x : Float) → (T s → Fits x) → Fits (cond (b && s) x 0ᶠ)
set_fits true true x f = f tt
set_fits true false x f = zero_fits
set_fits false s x f = zero_fits

-- ---- a profile that was accepted
module _ (q : Profile) (set-limits : Bool) (jf : Float) (m : Limits) (d : ProfileFits q (λ i. at q.j i)) where
  abbrev stored : ℕ → Bool
  stored = stored_rows set-limits q.limits

  module _ (j-max : Float) (k : StoredTaken q j-max stored) where
    rows_made : AcceptedMotion q set-limits jf m → RowsMade (row_at q) (phase_at q (taken_by j-max stored)) 7
    unfolding next_row stored_if
    rows_made s =
        record {
          first = d.start;
          phases =
              λ i l. record {
                t = d.times i l;
                j = d.jerks i l;
                a = set_fits (1e50ᶠ <ᶠ j-max) (stored (suc i)) (at q.a (suc i)) (k.fits i l);
                not_negative = s.times i l;
              };
          made = λ i l x. record { a = a_as_set s i l x; v = s.v_made i l x; p = s.p_made i l x };
        }
      where
        a_as_set : AcceptedMotion q set-limits jf m → (i : ℕ) → i < 7
            → at q.a (suc i) ≡ (next_row (phase_at q (taken_by j-max stored) i) (row_at q i)).a
        a_as_set s i l =
            set_as (1e50ᶠ <ᶠ j-max) (stored (suc i)) (eqb i 2 && clears_row3 q.limits) (at q.a (suc i)) _
            (k.taken (suc i)) (λ n. s.a_made i l ∙ kept m _ set-limits q.limits i l n)

    velocity_checked : AcceptedMotion q set-limits jf m → VelocityChecked t_max q (taken_by j-max stored)
    velocity_checked s =
        record {
          rows = rows_made s;
          longest_fits = t_max_fits;
          longest_finite = t_max_finite;
          longest_most = t_max_most;
          sum = s.sum;
          vf_fits = d.vf;
          af_fits = d.af;
          v_ends = s.v_end;
          a_ends = s.a_end;
        }

    pub taken_ends_at : Accepted q set-limits jf m → EndsAt (start_of q) (target_of q) j-max q stored
    taken_ends_at s =
        ends_at t_max q j-max stored (record {
          motion = velocity_checked s.motion;
          pf_fits = d.pf;
          p_ends = s.p_end;
        })

  -- and in which no limit is stored
  module _ (none : (i : ℕ) → stored i ≡ false) where
    pub accepted_ends_moving : AcceptedMotion q set-limits jf m → (j-max : Float)
        → EndsMoving (start_of q) (target_of q) j-max q stored
    accepted_ends_moving s j-max =
        ends_moving t_max q j-max stored (velocity_checked j-max (none_to_take j-max stored none q) s)

    pub accepted_ends_at : Accepted q set-limits jf m → (j-max : Float) → EndsAt (start_of q) (target_of q) j-max q stored
    accepted_ends_at s j-max = taken_ends_at j-max (none_to_take j-max stored none q) s

-- ---- the check: what it fills in is of doubles too
jerk_fits : (t j : Float) → Fits j → Fits (jerk_if t j)
unfolding jerk_if
jerk_fits t j f = cond-fits binary64 (0ᶠ <ᶠ t) j 0ᶠ f zero_fits

jerks_fit : (signs : ControlSigns) (t : List Float) (jf : Float) → Fits jf → (i : ℕ) → i < 7
    → Fits (at (jerks signs t jf) i)
unfolding jerks
jerks_fit UDDU t jf f =
    let g = neg-fits binary64 jf f in
    each_phase (λ i. Fits (at (jerks UDDU t jf) i)) (jerk_fits (at t 0) jf f) zero_fits
    (jerk_fits (at t 2) (-ᶠ jf) g) zero_fits (jerk_fits (at t 4) (-ᶠ jf) g) zero_fits (jerk_fits (at t 6) jf f)
jerks_fit UDUD t jf f =
    let g = neg-fits binary64 jf f in
    each_phase (λ i. Fits (at (jerks UDUD t jf) i)) (jerk_fits (at t 0) jf f) zero_fits
    (jerk_fits (at t 2) (-ᶠ jf) g) zero_fits (jerk_fits (at t 4) jf f) zero_fits (jerk_fits (at t 6) (-ᶠ jf) g)

-- a check that says yes gives the filled profile
answer : (b : Bool) (x y : Profile)
    → (cond {A = Checked} b (record { ok = true; profile = x }) (record { ok = false; profile = y })).ok ≡ true
    → b ≡ true
answer true x y h = refl
answer false x y h = h

-- the bound: for any start, target, times, limits and jerk, and any j_max given to the replay, if the replay takes what
-- was stored
module _ (q : Profile) (signs : ControlSigns) (reached : ReachedLimits) (set-limits : Bool) (jf : Float) (m : Limits)
    (d : ProfileFits q (λ i. jf)) where
  abbrev F : Profile
  F = filled q q.t signs reached set-limits jf m

  filled_fits : ProfileFits F (λ i. at F.j i)
  unfolding filled rows_of
  filled_fits =
      record {
        start = d.start;
        times = d.times;
        jerks = jerks_fit signs q.t jf (d.jerks 0 (lit< tt));
        pf = d.pf;
        vf = d.vf;
        af = d.af;
      }

  module _ (upper : Fits m.a_max) (lower : Fits m.a_min) where
    stored_fits : AcceptedMotion F set-limits jf m → (i : ℕ) → i < 7 → T (stored_rows set-limits reached (suc i))
        → Fits (at F.a (suc i))
    unfolding filled
    stored_fits s i l t =
        subst (λ (x : Float). Fits x) (sym (s.a_made i l ∙ kept_limit m _ set-limits reached i l t))
        (cond-fits binary64 (eqb i 0) m.a_max m.a_min upper lower)

    pub check_ends_at : CheckEndsAt q signs reached set-limits jf m
    unfolding checked filled rows_of
    check_ends_at h j-max taken =
        let e = answer (accepted (start_of q) (target_of q) q.t signs reached set-limits jf m) F q h in
        let s = accepts_tells q q.t signs reached set-limits jf m (rw e tt) in
        rw e (taken_ends_at F set-limits jf m filled_fits j-max
        (record { taken = taken; fits = stored_fits s.motion }) s)
