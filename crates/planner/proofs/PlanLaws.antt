-- What holds of the plan of every accepted move. Of its replay and its duration this asks that numbers are doubles, and
-- `plan` brings it to all that the machine can hold. Assumes nothing.
use mathlib.Core.Path.{◌≡◌, ◌∙◌}
use mathlib.Core.Bool.{Bool, true, false, not, ◌&&◌, ◌||◌, true≢false}
use mathlib.Core.Logic.{inl}
use lib.Dec.{T}
use lib.Ieee.{Float}
use lib.Ieee.Bits.{is_false}
use lib.Ieee.Fits.{and_l, and_r}
use lib.Ieee.Scale.{finite}
use Rattle.doubles.specs.Operators.{◌+ᶠ◌, ◌<ᶠ◌, ◌≤ᶠ◌, at}
use Rattle.profile_rows.specs.Rows.{sums}
use Rattle.doubles.specs.Constants.{0ᶠ}
use Rattle.doubles.specs.Value.{Fits, Finite}
use Rattle.doubles.proofs.FunctionLaws.{holds}
use Rattle.doubles.proofs.SumOrderLaws.{not_below_zero}
use Rattle.profile.specs.declared.Profile.{Profile}
use Rattle.refusals.specs.Numbers.{number_of}
use Rattle.block.specs.Blocks.{total, duration, Answer, plan_in}
use Rattle.block.specs.Plans.{Beside, Each}
use Rattle.block.specs.declared.Stretch.{Stretch}
use Rattle.block.specs.declared.Stretch.TheVariants.{Nothing, Between, From}
use Rattle.block.specs.declared.Block.{Block}
use Rattle.arrival.specs.Axes.{wrong_axis}
use Rattle.get_profile.specs.GetProfile.{get_profile_answer}
use Rattle.get_profile.specs.Answered.{AcceptedFor}
use Rattle.get_profile.proofs.AnswerLaws.{answered, answered_after}
use Rattle.profile.specs.Tolerances.{t_max}
use Rattle.planner.specs.Answers.{finite_start, finite_target, finite_limits, finite_move, wrong_duration, input_of}
use Rattle.planner.specs.Answers.{answer_of, Admitted}
use Rattle.planner.specs.Promise.{Arrives, Promise, FiniteDuration, OfMove, CheckedFor}
use Rattle.planner.specs.Arrival.{axis_of_plan, Joinable}
use Rattle.planner.specs.declared.Move.{Move}
use Rattle.planner.proofs.RefusalLaws.{admitted, admitted_answer}
use Rattle.planner.proofs.AcceptedLaws.{OfDoubles, accepted_tells, of_move, checked_for, arrives}
use Rattle.planner.proofs.DurationLaws.{time, with_durations}
use Rattle.planner.proofs.PartLaws.{Part, duration_finite, duration_at_least_zero}
use Rattle.planner.proofs.TotalLaws.{accepted_total}
use Rattle.planner.proofs.AxisLaws.{Lasting, plan_right}

-- ---- from one fact of a plan's profiles to another
module _ {P Q R : Profile → Type 0} (f : (q : Profile) → P q → Q q → R q) where
  beside_with : (s : Stretch) (q : Profile) → P q → Beside Q s q → Beside R s q
  beside_with Nothing q p h = h
  beside_with (Between left right) q p h = f q p h
  beside_with (From left) q p h = h

  each_with : (b : Block) → P b.p_min → P b.a.profile → P b.b.profile → Each Q b → Each R b
  each_with b p pa pb h =
      record {
        shortest = f b.p_min p h.shortest;
        beside_a = beside_with b.a.stretch b.a.profile pa h.beside_a;
        beside_b = beside_with b.b.stretch b.b.profile pb h.beside_b;
      }

-- the profiles of a plan are of doubles
pub record PlanOfDoubles (b : Block) : Type 0 where
  pub shortest : OfDoubles b.p_min
  pub beside_a : OfDoubles b.a.profile
  pub beside_b : OfDoubles b.b.profile

-- ---- four conditions that say no
four_no : (a b c d : Bool) → (a || b || c || d) ≡ false → T (not a) × T (not b) × T (not c) × T (not d)
four_no true b c d e = absurd (true≢false e)
four_no false true c d e = absurd (true≢false e)
four_no false false true d e = absurd (true≢false e)
four_no false false false true e = absurd (true≢false e)
four_no false false false false e = (tt, tt, tt, tt)

-- ---- a finite double from 0 to 1e12
part : (t : Float) → Fits t → Finite t → T (not (t <ᶠ 0ᶠ)) → T (not (t_max <ᶠ t)) → Part t
part t f i h k =
    record {
      fits = f;
      at_least_zero = not_below_zero t i (is_false (t <ᶠ 0ᶠ) h);
      within = is_false (t_max <ᶠ t) k;
    }

module _ (x : Move) (accepted : number_of (answer_of x) ≡ 0) where
  is_admitted : Admitted x
  is_admitted = (admitted x).0 (inl accepted)

  answer_is : answer_of x ≡ get_profile_answer (input_of x) x.limits
  answer_is = admitted_answer x is_admitted

  accepted_each : Each (AcceptedFor (input_of x) x.limits) (plan_in (answer_of x))
  accepted_each = rw answer_is ((answered (input_of x) x.limits).each (rw answer_is at accepted))

  -- its profile, and the far profile of each stretch, has the move's start and target, and its durations
  pub plan_of_move : Each (OfMove x) (plan_in (answer_of x))
  plan_of_move = each_with {P = λ q. Unit {0}} (λ q _ h. of_move x q h) (plan_in (answer_of x)) tt tt tt accepted_each

  -- it is what the check makes of its times, with the move's limits in either direction
  pub plan_checked : Each (CheckedFor x) (plan_in (answer_of x))
  plan_checked = each_with {P = λ q. Unit {0}} (λ q _ h. checked_for x q h) (plan_in (answer_of x)) tt tt tt accepted_each

  -- and ends at the target
  pub plan_arrives : PlanOfDoubles (plan_in (answer_of x)) → Each (Arrives x) (plan_in (answer_of x))
  plan_arrives d =
      each_with (λ q e h. arrives x q h e) (plan_in (answer_of x)) d.shortest d.beside_a d.beside_b accepted_each

  -- ---- its duration
  durations_finite : Finite x.brake × Finite x.accel
  unfolding finite_move
  durations_finite =
      let others = finite_start x.start && finite_target x.target && finite_limits x.limits in
      let all : T (finite_move x) = rw is_admitted.finite tt in (
        and_r others (finite x.brake) (and_l (others && finite x.brake) (finite x.accel) all),
        and_r (others && finite x.brake) (finite x.accel) all,
      )

  durations_within : T (not (x.brake <ᶠ 0ᶠ)) × T (not (t_max <ᶠ x.brake)) × T (not (x.accel <ᶠ 0ᶠ))
      × T (not (t_max <ᶠ x.accel))
  unfolding wrong_duration
  durations_within =
      four_no (x.brake <ᶠ 0ᶠ) (t_max <ᶠ x.brake) (x.accel <ᶠ 0ᶠ) (t_max <ᶠ x.accel) is_admitted.durations

  -- which are parts of one, and so is the total of each profile that was accepted
  brake_part : Fits x.brake → Part x.brake
  brake_part f =
      let w = durations_within in
      part x.brake f durations_finite.0 w.0 w.1

  accel_part : Fits x.accel → Part x.accel
  accel_part f =
      let w = durations_within in
      part x.accel f durations_finite.1 w.2 w.3

  lasting : (q : Profile) → AcceptedFor (input_of x) x.limits q → Lasting x.brake x.accel q
  lasting q h =
      record {
        total_is = accepted_total q false h.x.jf h.x.limits (accepted_tells x q h).motion;
        duration_is = unfold duration in (rw ((of_move x q h).brake_is, (of_move x q h).accel_is));
      }

  t_min_is : (plan_in (answer_of x)).t_min ≡ at (sums (plan_in (answer_of x)).p_min.t) 6 +ᶠ x.brake +ᶠ x.accel
  unfolding duration total
  t_min_is =
      let q = (plan_in (answer_of x)).p_min in
      let t : (plan_in (answer_of x)).t_min ≡ duration q = rw answer_is
      ((answered (input_of x) x.limits).lasts (rw answer_is at accepted)) in
      let s = (accepted_tells x q accepted_each.shortest).motion.t_sum in
      let m = plan_of_move.shortest in
      t ∙ rw (s, m.brake_is, m.accel_is)

  t_min_lasts : (plan_in (answer_of x)).t_min ≡ duration (plan_in (answer_of x)).p_min
  t_min_lasts = rw answer_is ((answered (input_of x) x.limits).lasts (rw answer_is at accepted))

  pub plan_lasts : Fits x.brake → Fits x.accel
      → Finite (plan_in (answer_of x)).t_min × T (0ᶠ ≤ᶠ (plan_in (answer_of x)).t_min)
  plan_lasts b a =
      let q = (plan_in (answer_of x)).p_min in
      let k = lasting q accepted_each.shortest in
      let hb = brake_part b in
      let ha = accel_part a in
      rw (t_min_lasts, k.duration_is) (
        duration_finite (total q) x.brake x.accel k.total_is hb ha,
        holds _ (duration_at_least_zero (total q) x.brake x.accel k.total_is hb ha),
      )

  pub plan_duration : Fits x.brake → Fits x.accel → OfDoubles (plan_in (answer_of x)).p_min
      → Finite (plan_in (answer_of x)).t_min × T (0ᶠ ≤ᶠ (plan_in (answer_of x)).t_min)
  plan_duration b a d =
      let q = (plan_in (answer_of x)).p_min in
      let h = accepted_each.shortest in
      let s = (accepted_tells x q h).motion in
      let w = durations_within in
      rw t_min_is
      (with_durations q.t x.brake x.accel
      (λ i l. time (at q.t i) (d.times i l) ((arrives x q h d).moving.finite.t i l) (s.times i l)) s.sum
      (time x.brake b durations_finite.0 w.0) w.1 (time x.accel a durations_finite.1 w.2) w.3)

  -- and as an axis number 9 doesn't turn it back
  pub plan_joinable : Fits x.brake → Fits x.accel → wrong_axis (axis_of_plan (plan_in (answer_of x))) ≡ false
  plan_joinable b a =
      plan_right x.brake x.accel (brake_part b) (accel_part a) (AcceptedFor (input_of x) x.limits) lasting
      (plan_in (answer_of x)) t_min_lasts accepted_each.shortest
      (rw answer_is (answered_after (input_of x) x.limits (rw answer_is at accepted)))

-- ---- what is promised of an answer
pub promised : (x : Move) (r : Answer) → Fits x.brake → Fits x.accel → (number_of r ≡ 0 → PlanOfDoubles (plan_in r))
    → r ≡ answer_of x → (r ≡ answer_of x) × Promise x r × FiniteDuration r
promised x r b a d e =
    let d' : number_of (answer_of x) ≡ 0 → PlanOfDoubles (plan_in (answer_of x)) = rw e at d in
    (e, rw e (λ h. plan_arrives x h (d' h)), rw e (λ h. plan_duration x h b a (d' h).shortest))

pub joinable : (x : Move) (r : Answer) → Fits x.brake → Fits x.accel → r ≡ answer_of x → Joinable r
joinable x r b a e = rw e (λ h. plan_joinable x h b a)
