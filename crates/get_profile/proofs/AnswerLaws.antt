-- What an answer of `get_profile` consists of: profiles that the check accepted, with the move's start and target.
-- Assumes nothing.
use Prim.Native.Nat.{ℕ, zero, ◌≤◌}
use mathlib.Core.Path.{◌≡◌, refl, sym, ap, ◌∙◌, subst}
use mathlib.Core.Bool.{Bool, true, false, cond, ◌&&◌, ◌||◌, true≢false}
use mathlib.Core.List.{List}
use Rattle.std.proofs.Common.{is_none, Ok, Err}
use mathlib.Core.Logic.{◌⊎◌, inl, inr}
use native.Mathlib.Omega.{arith}
use lib.Dec.{eqb, ltb}
use lib.Ieee.{Float}
use borrow.Author.Tests.{le-ltb}
use Rattle.doubles.specs.Constants.{0ᶠ}
use Rattle.profile.specs.Boundary.{start_of, target_of, empty_profile, boundary_from}
use Rattle.profile.specs.declared.Profile.{Profile}
use Rattle.profile.specs.declared.Start.{Start}
use Rattle.profile.specs.declared.Target.{Target}
use Rattle.profile.specs.declared.Limits.{Limits}
use Rattle.profile_check.specs.Check.{Checked}
use Rattle.phase_times.specs.Constants.{constants_of}
use Rattle.search.specs.Choices.{has_zero_limit, ends_at_rest, rests_at_target, towards_target}
use Rattle.phase_times.specs.TimeAllSingleStep.{starts_moving, starts_accelerated}
use Rattle.phase_times.specs.declared.constants.Constants.{Constants}
use Rattle.trees.specs.Tree.{run}
use Rattle.candidates.specs.Try.{passes}
use Rattle.candidates.specs.List.{slot, fresh_list}
use Rattle.candidates.specs.Counted.{AcceptedOf, Sound}
use Rattle.candidates.specs.declared.Candidates.{Candidates}
use Rattle.candidates.proofs.CountLaws.{from_brake, from_accel}
use Rattle.candidates.proofs.BoundaryLaws.{fresh_sound}
use Rattle.position_third_step1.specs.CheckTree.{TryWith}
use Rattle.position_third_step1.specs.TimeAllSingleStep.{time_all_single_step}
use Rattle.position_third_step1.proofs.FamilyLaws.{found_sound, single_step_accepted}
use Rattle.block.specs.Blocks.{duration, no_interval, interval_from, block_of, Answer}
use Rattle.refusals.specs.declared.Refusal.TheVariants.{NoProfile}
use Rattle.refusals.specs.Numbers.{number_of}
use Rattle.block.specs.Selection.{removal, selected}
use Rattle.block.specs.Plans.{Each, EachAfter}
use Rattle.block.proofs.MemberLaws.{alone_each, from_each, selected_each, selected_duration, refused_empty}
use Rattle.block.proofs.AfterLaws.{alone_after, from_after, selected_after}
use Rattle.block.proofs.RefusalLaws.{selected_refusal}
use Rattle.get_profile.specs.Calls.{Call, limits_of, itself_order, resting_order, moving_order, two_step_order}
use Rattle.get_profile.specs.Calls.{stops_of, call_of, calls_of}
use Rattle.get_profile.specs.Answered.{AcceptedFor, Answered, AnsweredAfter}
use Rattle.get_profile.specs.GetProfile.{EitherWay, TryBetween, resting, moving, two_step}
use Rattle.get_profile.specs.GetProfile.{first_search}
use Rattle.get_profile.specs.GetProfile.{try_families, after_passing, single_step_answer, selected_from}
use Rattle.get_profile.specs.GetProfile.{get_profile_answer, found_for}
use Rattle.get_profile.proofs.WayLaws.{way_of, towards}
use Rattle.get_profile.proofs.FamiliesLaws.{Keeps, Every, none, also, first_keeps, each_keeps}
use Rattle.get_profile.proofs.CallLaws.{tries_bounded, every_call}
use Rattle.get_profile.proofs.SearchLaws.{single_step_is, searched_is}

-- ---- every family keeps the list sound
module _ (start : Start) (target : Target) (M : Limits) (z : has_zero_limit M ≡ false) (k : Constants)
    (brake accel : Float) where
  abbrev SoundList : Candidates → Type 0
  SoundList = Sound (TryBetween start target M) start target brake accel

  call_kept : (stop : Bool) (m : Limits) → EitherWay M m → (s : Call)
      → Keeps SoundList (call_of start target k stop m s)
  call_kept stop m d s c p =
      let n = limits_of s.1 m in
      let e : EitherWay M n = way_of M m s.1 d in
      found_sound (stops_of stop s.0) c
      (λ x (w : TryWith start target n.j_max n x).
      record {
        start_is = w.start_is;
        target_is = w.target_is;
        limits_are = subst (EitherWay M) (sym w.limits_is) e;
        jerk_is = inl (z, w.jerk_is ∙ ap (λ (l : Limits). l.j_max) (sym w.limits_is));
      })
      (tries_bounded start target k s.0 n)
      p

  calls_kept : (stop : Bool) (m : Limits) → EitherWay M m → (order : List Call)
      → Every (Keeps SoundList) (calls_of start target k stop m order)
  calls_kept stop m d = every_call start target k stop m (Keeps SoundList) (call_kept stop m d)

  search_kept : (at_rest at_Target : Bool) → Keeps SoundList (first_search start target k at_rest at_Target M)
  unfolding first_search resting moving
  search_kept true true = first_keeps SoundList (calls_kept true (towards_target k M) (towards M k) itself_order)
  search_kept true false = first_keeps SoundList (calls_kept true (towards_target k M) (towards M k) resting_order)
  search_kept false at_Target = each_keeps SoundList (calls_kept false M (inl refl) moving_order)

  two_step_kept : Keeps SoundList (two_step start target k M)
  unfolding two_step
  two_step_kept = first_keeps SoundList (calls_kept true M (inl refl) two_step_order)

  families_kept : Keeps SoundList (try_families start target k M)
  unfolding try_families
  families_kept =
      first_keeps SoundList (also (search_kept (ends_at_rest target) (rests_at_target start k)) (also two_step_kept none))

-- ---- an answer
module _ (input : Profile) (m : Limits) where
  abbrev Told : Answer → Type 0
  Told r = Answered input m r × AnsweredAfter input m r

  -- ---- selection
  selected_number : (s : ℕ → Profile) (n : ℕ) → n ≤ 5
      → (number_of (selected s n) ≡ 0) ⊎ ((number_of (selected s n) ≡ 4) ⊎ (number_of (selected s n) ≡ 5))
  selected_number s n h =
      rw (selected_refusal s n) (go (eqb n 0) (ltb 5 n) (eqb n 4 && is_none (removal s)) (le-ltb 5 n h))
    where
      go : (a b c : Bool) → b ≡ false
          → (cond a 4 (cond b 7 (cond c 5 (zero))) ≡ 0)
          ⊎ ((cond a 4 (cond b 7 (cond c 5 (zero))) ≡ 4) ⊎ (cond a 4 (cond b 7 (cond c 5 (zero))) ≡ 5))
      go true b c e = inr (inl refl)
      go false true c e = absurd (true≢false e)
      go false false true e = inr (inr refl)
      go false false false e = inl refl

  selection_answered : (c : Candidates)
      → Sound (TryBetween (start_of input) (target_of input) m) (start_of input) (target_of input)
      input.brake input.accel c
      → Told (selected_from c)
  selection_answered c h = (
    record {
      number = selected_number (slot c) c.current_index h.ready.sized.at_most_five;
      each = selected_each (AcceptedFor input m) (slot c) c.current_index h.counted;
      lasts = selected_duration (slot c) c.current_index;
      empty = refused_empty (slot c) c.current_index;
    },
    selected_after (AcceptedFor input m) (slot c) c.current_index h.counted,
  )

  -- ---- the single-step path
  passing_each : (start : Start) (q : Profile) → AcceptedFor input m q
      → Each (AcceptedFor input m) (block_of q (after_passing start q) no_interval)
  unfolding after_passing
  passing_each start q h = go (starts_moving start || starts_accelerated start)
    where
      go : (b : Bool)
          → Each (AcceptedFor input m) (block_of q (cond b (interval_from (duration q)) no_interval) no_interval)
      go true = from_each (AcceptedFor input m) q (duration q) h
      go false = alone_each (AcceptedFor input m) q h

  passing_after : (start : Start) (q : Profile)
      → EachAfter (AcceptedFor input m) (block_of q (after_passing start q) no_interval)
  unfolding after_passing
  passing_after start q = go (starts_moving start || starts_accelerated start)
    where
      go : (b : Bool)
          → EachAfter (AcceptedFor input m) (block_of q (cond b (interval_from (duration q)) no_interval) no_interval)
      go true = from_after (AcceptedFor input m) q
      go false = alone_after (AcceptedFor input m) q

  single_step_answered : (start : Start) (d : Checked) → (d.ok ≡ true → AcceptedFor input m d.profile)
      → Told (single_step_answer start d)
  unfolding single_step_answer
  single_step_answered start d h = go d.ok h
    where
      go : (ok : Bool) → (ok ≡ true → AcceptedFor input m d.profile)
          → Told
          (cond ok (Ok (block_of d.profile (after_passing start d.profile) no_interval)) (Err NoProfile))
      go true h = (
        record {
          number = inl refl;
          each = λ e. passing_each start d.profile (h refl);
          lasts = λ e. unfold block_of in refl;
          empty = λ e. absurd (e refl);
        },
        λ e. passing_after start d.profile,
      )
      go false h = (
        record {
          number = inr (inl refl);
          each = λ e. absurd (not_zero e);
          lasts = λ e. absurd (not_zero e);
          empty = λ e. refl;
        },
        λ e. absurd (not_zero e),
      )
        where
          not_zero : ◌≡◌ {A = ℕ} 4 0 → ⊥
          not_zero e = omega arith

-- ---- every answer
module _ (input : Profile) (m : Limits) where
  abbrev k : Constants
  k = constants_of (start_of input) (target_of input) m

  searched : has_zero_limit m ≡ false → Told input m (selected_from (found_for input m))
  searched z =
      selection_answered input m _
      (families_kept (start_of input) (target_of input) m z k input.brake input.accel (fresh_list input)
      (fresh_sound input _))

  -- the path works on the input's boundary
  jerkless : has_zero_limit m ≡ true → (q : Profile) → q.brake ≡ input.brake → q.accel ≡ input.accel → {r : Profile}
      → AcceptedOf (TryWith (start_of input) (target_of input) 0ᶠ m) q.brake q.accel r → AcceptedFor input m r
  jerkless z q eb ea h =
      record {
        x = h.x;
        is_of =
            record {
              start_is = h.is_of.start_is;
              target_is = h.is_of.target_is;
              limits_are = inl h.is_of.limits_is;
              jerk_is = inr (z, h.is_of.jerk_is);
            };
        passed = h.passed;
        profile_is = rw (← eb, ← ea) h.profile_is;
      }

  jerkless_step : has_zero_limit m ≡ true
      → let path = time_all_single_step (boundary_from empty_profile input) (start_of input) (target_of input) k m in
      Told input m (single_step_answer (start_of input) (run passes path))
  jerkless_step z =
      let q = boundary_from empty_profile input in
      single_step_answered input m (start_of input) _
      (λ e. jerkless z q (from_brake empty_profile input) (from_accel empty_profile input)
      (single_step_accepted q (start_of input) (target_of input) k m e))

  told : Told input m (get_profile_answer input m)
  told = go (has_zero_limit m) refl
    where
      go : (zero : Bool) → has_zero_limit m ≡ zero → Told input m (get_profile_answer input m)
      go true e = subst (Told input m) (sym (single_step_is input m e)) (jerkless_step e)
      go false e = subst (Told input m) (sym (searched_is input m e)) (searched e)

  pub answered : Answered input m (get_profile_answer input m)
  answered = told.0

  pub answered_after : AnsweredAfter input m (get_profile_answer input m)
  answered_after = told.1
