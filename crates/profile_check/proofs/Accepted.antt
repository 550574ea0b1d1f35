-- What an accepted check tells of the profile that it gives back. Assumes nothing.
use Prim.Native.Nat.{ℕ, zero, suc, ◌+◌, ◌≤◌, ◌<◌, zero-le}
use mathlib.Core.Logic.{inl, inr}
use native.Mathlib.Nat.{le_of_suc-le-suc, eq-or-lt_of_le}
use mathlib.Core.Path.{◌≡◌, refl, sym, subst}
use mathlib.Core.Bool.{Bool, true, false, cond, not, ◌&&◌}
use mathlib.Core.List.{List}
use native.Mathlib.Omega.{arith}
use lib.Dec.{T}
use lib.Ieee.{Float}
use lib.Ieee.Fits.{and_l, and_r}
use Rattle.doubles.specs.Operators.{◌-ᶠ◌, ◌<ᶠ◌, at}
use Rattle.doubles.specs.Constants.{0ᶠ}
use Rattle.doubles.specs.Functions.{absᶠ}
use Rattle.profile.specs.Tolerances.{p_precision, v_precision, a_precision, t_max}
use Rattle.profile.specs.Limits.{bounds_of}
use Rattle.profile.specs.Boundary.{start_of, target_of}
use Rattle.profile_rows.specs.Rows.{jerks, stored_if, outer_row, middle_row, rows_of}
use Rattle.profile_check.specs.Accepted.{Accepted, SameBoundary}
use Rattle.profile_check.specs.Check.{each, times_pass, phases_pass, sum_passes, zero_passes, zeros_pass, end_passes}
use Rattle.profile_check.specs.Check.{a_within, v_within, a_rows_pass, v_rows_pass, rows_pass, accepted, filled}
use Rattle.profile_check.specs.Check.{checked}
use Rattle.profile.specs.declared.Profile.{Profile}
use Rattle.profile.specs.declared.Limits.{Limits}
use Rattle.profile_check.specs.Check.{Checked}
use Rattle.profile.specs.declared.ReachedLimits.{ReachedLimits}
use Rattle.profile.specs.declared.ControlSigns.{ControlSigns}

-- a fact of the seven phases, one by one
pub each_phase : (P : ℕ → Type 0) → P 0 → P 1 → P 2 → P 3 → P 4 → P 5 → P 6 → (i : ℕ) → i < 7 → P i
each_phase P a b c d e f g zero l = a
each_phase P a b c d e f g (suc zero) l = b
each_phase P a b c d e f g (suc (suc zero)) l = c
each_phase P a b c d e f g (suc (suc (suc zero))) l = d
each_phase P a b c d e f g (suc (suc (suc (suc zero)))) l = e
each_phase P a b c d e f g (suc (suc (suc (suc (suc zero))))) l = f
each_phase P a b c d e f g (suc (suc (suc (suc (suc (suc zero)))))) l = g
each_phase P a b c d e f g (suc (suc (suc (suc (suc (suc (suc i))))))) l = absurd (none i l)
  where
    none : (i : ℕ) → suc (suc (suc (suc (suc (suc (suc i)))))) < 7 → ⊥
    none i l = omega arith

-- six conditions, one by one; for fewer, those in front are true
six : (a b c d e f : Bool) → T (a && b && c && d && e && f) → T a × T b × T c × T d × T e × T f
six a b c d e f h =
    let h5 = and_l (a && b && c && d && e) f h in
    let h4 = and_l (a && b && c && d) e h5 in
    let h3 = and_l (a && b && c) d h4 in
    let h2 = and_l (a && b) c h3 in
    (and_l a b h2, and_r a b h2, and_r (a && b) c h3, and_r (a && b && c) d h4, and_r (a && b && c && d) e h5, and_r (a && b && c && d && e) f h)

-- each of the numbers that were tested
each_of : (i n : ℕ) (f : ℕ → Bool) → T (each i n f) → (k : ℕ) → i ≤ k → k < i + n → T (f k)
each_of i zero f h k l m = absurd (omega arith)
each_of i (suc n) f h k l m =
    elim (eq-or-lt_of_le (le_of_suc-le-suc m')) [
      | inl e ↦ subst (λ (x : ℕ). T (f x)) (sym e) (and_r (each i n f) (f (i + n)) h)
      | inr g ↦ each_of i n f (and_l (each i n f) (f (i + n)) h) k l g
    ]
  where
    m' : suc k ≤ suc (i + n)
    m' = omega arith

module _ (q : Profile) (t : List Float) (signs : ControlSigns) (reached : ReachedLimits) (set-limits : Bool)
    (jf : Float) (m : Limits) where
  pub filled_keeps : SameBoundary q (filled q t signs reached set-limits jf m)
  unfolding filled rows_of
  filled_keeps = record { start = refl; target = refl; brake = refl; accel = refl }

  pub accepts_tells : T (accepted (start_of q) (target_of q) t signs reached set-limits jf m)
      → Accepted (filled q t signs reached set-limits jf m) set-limits jf m
  unfolding accepted filled rows_of outer_row middle_row stored_if times_pass sum_passes zeros_pass end_passes rows_pass
  accepts_tells h =
      let r = rows_of (start_of q) t (jerks signs t jf) reached set-limits m in
      let b = bounds_of m in
      let k = six (times_pass t) (phases_pass reached t) (sum_passes t_max t) (zeros_pass r (jerks signs t jf) b) (end_passes r (target_of q)) (rows_pass r b) h in
      let ends = six true true true (absᶠ (at r.p 7 -ᶠ q.pf) <ᶠ p_precision) (absᶠ (at r.v 7 -ᶠ q.vf) <ᶠ v_precision) (absᶠ (at r.a 7 -ᶠ q.af) <ᶠ a_precision) k.4 in
      let accelerations = six true true true (a_within b (at r.a 1)) (a_within b (at r.a 3)) (a_within b (at r.a 5)) (and_l (a_rows_pass r b) (v_rows_pass r b) k.5) in
      record {
        motion = record {
          times = λ i l. each_of 0 7 (λ i. not (at t i <ᶠ 0ᶠ)) k.0 i zero-le l;
          phases = k.1;
          sum = k.2;
          t_sum = refl;
          j_made = refl;
          p_made = each_phase _ refl refl refl refl refl refl refl;
          v_made = each_phase _ refl refl refl refl refl refl refl;
          a_made = each_phase _ refl refl refl refl refl refl refl;
          direction = refl;
          zeros = each_of 2 5 (λ i. zero_passes (at r.a i) (at r.a (suc i)) (at r.v i) (at (jerks signs t jf) i) b) k.3;
          v_end = ends.4;
          a_end = ends.5;
          a1 = accelerations.3;
          a3 = accelerations.4;
          a5 = accelerations.5;
          v_within_law = each_of 3 4 (λ i. v_within b (at r.v i)) (and_r (a_rows_pass r b) (v_rows_pass r b) k.5);
        };
        p_end = ends.3;
      }

-- a check gives the filled profile or the given one
abbrev answer : Bool → Profile → Profile → Checked
answer b f q = cond b (record { ok = true; profile = f }) (record { ok = false; profile = q })

answer_keeps : (b : Bool) (f q : Profile) → SameBoundary q f → SameBoundary q (answer b f q).profile
answer_keeps true f q k = k
answer_keeps false f q k = record { start = refl; target = refl; brake = refl; accel = refl }

answer_tells : (b : Bool) (f q : Profile) (P : Profile → Type 0) → (T b → P f) → (answer b f q).ok ≡ true
    → P (answer b f q).profile
answer_tells true f q P h e = h tt
answer_tells false f q P h e = absurd (subst T (sym e) tt)

module _ (q : Profile) (signs : ControlSigns) (reached : ReachedLimits) (set-limits : Bool) (jf : Float)
    (m : Limits) where
  pub check_keeps : SameBoundary q (checked q signs reached set-limits jf m).profile
  unfolding checked
  check_keeps = answer_keeps (accepted (start_of q) (target_of q) q.t signs reached set-limits jf m) _ q (filled_keeps q q.t signs reached set-limits jf m)

  pub check_tells : (checked q signs reached set-limits jf m).ok ≡ true
      → Accepted (checked q signs reached set-limits jf m).profile set-limits jf m
  unfolding checked
  check_tells e = answer_tells (accepted (start_of q) (target_of q) q.t signs reached set-limits jf m) _ q (λ r. Accepted r set-limits jf m) (accepts_tells q q.t signs reached set-limits jf m) e
