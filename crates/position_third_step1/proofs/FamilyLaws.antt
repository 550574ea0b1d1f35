-- What every family keeps, and how many checks it makes at most. Assumes nothing.
use Prim.Native.Nat.{ℕ, suc, ◌+◌, ◌≤◌, ◌<◌}
use mathlib.Core.Path.{◌≡◌, refl, ap, ◌∙◌}
use mathlib.Core.Bool.{Bool, true, false, cond, true≢false, false≢true}
use mathlib.Core.List.{List, [], ◌∷◌, ◌++◌}
use mathlib.Core.Logic.{◌↔◌}
use native.Mathlib.Nat.{suc-add}
use native.Mathlib.Omega.{arith}
use lib.Ieee.{Float}
use lib.ListN.{length}
use Rattle.doubles.specs.Operators.{◌≤ᶠ◌}
use Rattle.doubles.specs.Constants.{0ᶠ}
use Rattle.profile.specs.declared.Profile.{Profile}
use Rattle.profile.specs.declared.Start.{Start}
use Rattle.profile.specs.declared.Target.{Target}
use Rattle.profile.specs.declared.Limits.{Limits}
use Rattle.profile.specs.declared.ReachedLimits.{ReachedLimits}
use Rattle.profile_check.specs.Check.{Checked}
use Rattle.trees.specs.Tree.{run, AtMost, AllNo, StopsAtYes}
use Rattle.trees.specs.InTurn.{Bounded, none, one}
use Rattle.trees.proofs.InTurnLaws.{finish_keeps, holds_after_no, finish_related, in_turn_at_most, in_turn_stops}
use Rattle.trees.proofs.InTurnLaws.{bounded_more, bounded_le}
use Rattle.candidates.specs.Try.{passes}
use Rattle.candidates.specs.declared.Try.{Try}
use Rattle.candidates.specs.List.{added}
use Rattle.candidates.specs.Counted.{AcceptedOf, SameCounted, Sound}
use Rattle.candidates.specs.declared.Candidates.{Candidates}
use Rattle.candidates.proofs.CheckLaws.{brake_of, accel_of}
use Rattle.candidates.proofs.CountLaws.{added_counts, added_same}
use Rattle.candidates.proofs.BoundaryLaws.{added_sound}
use Rattle.phase_times.specs.TimeAllSingleStep.{changes_acceleration, starts_accelerated, starts_moving}
use Rattle.phase_times.specs.declared.constants.Constants.{Constants}
use Rattle.phase_times_quartic.specs.declared.root_range.RootRange.{RootRange}
use Rattle.position_third_step1.specs.CheckTree.{found, tries, try_of, TryWith, only_if}
use Rattle.position_third_step1.specs.Slots.{Slot, always, held}
use Rattle.position_third_step1.specs.TimeAllVel.{all_vel_tries}
use Rattle.position_third_step1.specs.TimeAcc0Acc1.{acc0_acc1_shared, acc0_acc1_slots, acc0_acc1_tries}
use Rattle.position_third_step1.specs.TimeAllNoneAcc0Acc1.{none_shared, acc0_shared, acc1_shared, root_slots}
use Rattle.position_third_step1.specs.TimeAllNoneAcc0Acc1.{none_tries, acc0_tries, acc1_tries, none_acc0_acc1_tries}
use Rattle.position_third_step1.specs.TwoStep.{acc1_vel_two_step_tries, acc0_two_step_tries}
use Rattle.position_third_step1.specs.TwoStep.{vel_two_step_tries, none_two_step_tries}
use Rattle.position_third_step1.specs.TimeAllSingleStep.{jerkless_try, single_step_slots, single_step_tries}
use Rattle.position_third_step1.specs.TimeAllSingleStep.{refusal, acceptance, time_all_single_step}
use Rattle.position_third_step1.proofs.RootLaws.{four_roots}

-- ---- from the list of a family's tries to its tree of checks

-- it makes at most as many checks as there are tries
pub checks_at_most : {G : Try → Type 0} {n : ℕ} {xs : List Try} (stop : Bool) (c : Candidates) → Bounded G n xs
    → AtMost n (tries stop c xs)
checks_at_most stop c b = in_turn_at_most added stop c b

-- whatever it adds was accepted with the boundary of the slot it was written to
pub found_sound :
    {G : Try → Type 0} {start : Start} {target : Target} {brake accel : Float} {jf : Float} {m : Limits} {n : ℕ}
    {xs : List Try} (stop : Bool) (c : Candidates) → ((x : Try) → TryWith start target jf m x → G x)
    → Bounded (TryWith start target jf m) n xs → Sound G start target brake accel c
    → Sound G start target brake accel (found (tries stop c xs))
found_sound {G} {start} {target} {brake} {accel} stop c of b s =
    finish_keeps passes added
    (λ d x w yes (h : Sound G start target brake accel d).
    added_sound d x h.ready w.start_is w.target_is h.counted (of x w) yes)
    stop c b s

-- nothing counts at its end exactly where nothing did before it and no try is accepted
pub none_found : (stop : Bool) (c : Candidates) (xs : List Try)
    → ((found (tries stop c xs)).current_index ≡ 0) ↔ ((c.current_index ≡ 0) × AllNo passes (tries stop c xs))
none_found stop c xs =
    holds_after_no passes added (λ d. d.current_index ≡ 0) (λ d x e. omega (arith, added_counts d x)) stop c xs

-- with `return_after_found` nothing more is asked after the first success, and a profile counts then
pub stops_at_first : (c : Candidates) (xs : List Try)
    → StopsAtYes (λ (d : Candidates). 0 < d.current_index) (tries true c xs)
stops_at_first c xs = in_turn_stops added (λ d. 0 < d.current_index) added_counts c xs

-- what it adds depends on no slot that doesn't count
pub found_same : (stop : Bool) (c d : Candidates) (xs : List Try) → SameCounted c d
    → SameCounted (found (tries stop c xs)) (found (tries stop d xs))
found_same stop c d xs h = finish_related passes added SameCounted added_same stop c d xs h

-- ---- the tries of each family: as many as it has slots, or fewer
only_if_bounded : {G : Try → Type 0} {n : ℕ} (b : Bool) (x : Try) {xs : List Try} → G x → Bounded G n xs
    → Bounded G (suc n) (only_if b x xs)
unfolding only_if
only_if_bounded true x g gs = one g gs
only_if_bounded false x g gs = bounded_more gs

module _ {G : Try → Type 0} (of : List Float → Try) (each : (t : List Float) → G (of t)) where
  all_bounded : (ss : List Slot) → Bounded G (length ss) (held of ss)
  unfolding held
  all_bounded [] = none
  all_bounded (s ∷ ss) = only_if_bounded s.0 (of s.1) (each s.1) (all_bounded ss)

  held_bounded : {n : ℕ} (ss : List Slot) → length ss ≤ n → Bounded G n (held of ss)
  held_bounded ss h = bounded_le (all_bounded ss) h

cond_length : {n : ℕ} (b : Bool) (xs ys : List Slot) → length xs ≤ n → length ys ≤ n → length (cond b xs ys) ≤ n
cond_length true xs ys p q = p
cond_length false xs ys p q = q

root_slots_length : (range : RootRange) (times : Float → List Float) (ts : List Float)
    → length (root_slots range times ts) ≡ length ts
unfolding root_slots
root_slots_length range times [] = refl
root_slots_length range times (t ∷ ts) = ap suc (root_slots_length range times ts)

bounded_append : {G : Try → Type 0} {n l : ℕ} {xs ys : List Try} → Bounded G n xs → Bounded G l ys
    → Bounded G (n + l) (xs ++ ys)
bounded_append none b = bounded_le b (omega arith)
bounded_append (one g gs) b = rw suc-add (one g (bounded_append gs b))

module _ (start : Start) (target : Target) (k : Constants) (m : Limits) where
  slots_bounded : {n : ℕ} (reached : ReachedLimits) (ss : List Slot) → length ss ≤ n
      → Bounded (TryWith start target m.j_max m) n (held (try_of start target m reached) ss)
  slots_bounded reached ss h =
      held_bounded (try_of start target m reached)
      (λ t. record { start_is = refl; target_is = refl; jerk_is = refl; limits_is = refl }) ss h

  pub all_vel_bounded : Bounded (TryWith start target m.j_max m) 4 (all_vel_tries start target k m)
  unfolding all_vel_tries always
  all_vel_bounded = slots_bounded _ _ (omega arith)

  pub acc1_vel_two_step_bounded : Bounded (TryWith start target m.j_max m) 1 (acc1_vel_two_step_tries start target k m)
  unfolding acc1_vel_two_step_tries always
  acc1_vel_two_step_bounded = slots_bounded _ _ (omega arith)

  pub acc0_two_step_bounded : Bounded (TryWith start target m.j_max m) 4 (acc0_two_step_tries start target k m)
  unfolding acc0_two_step_tries always
  acc0_two_step_bounded = slots_bounded _ _ (omega arith)

  pub vel_two_step_bounded : Bounded (TryWith start target m.j_max m) 2 (vel_two_step_tries start target k m)
  unfolding vel_two_step_tries always
  vel_two_step_bounded = slots_bounded _ _ (omega arith)

  pub none_two_step_bounded : Bounded (TryWith start target m.j_max m) 2 (none_two_step_tries start target k m)
  unfolding none_two_step_tries always
  none_two_step_bounded = slots_bounded _ _ (omega arith)

  pub acc0_acc1_bounded : Bounded (TryWith start target m.j_max m) 2 (acc0_acc1_tries start target k m)
  unfolding acc0_acc1_tries acc0_acc1_slots
  acc0_acc1_bounded =
      slots_bounded _ _
      (cond_length (0ᶠ ≤ᶠ (acc0_acc1_shared start target k m).h0) _ _ (omega arith) (omega arith))

  roots_bounded : (reached : ReachedLimits) (range : RootRange) (times : Float → List Float) (ts : List Float)
      → length ts ≤ 4
      → Bounded (TryWith start target m.j_max m) 4 (held (try_of start target m reached) (root_slots range times ts))
  roots_bounded reached range times ts h = slots_bounded reached _ (rw (root_slots_length range times ts) h)

  pub none_bounded : Bounded (TryWith start target m.j_max m) 4 (none_tries start target k m)
  unfolding none_tries none_shared
  none_bounded = roots_bounded _ _ _ _ (four_roots _ _)

  pub acc0_bounded : Bounded (TryWith start target m.j_max m) 4 (acc0_tries start target k m)
  unfolding acc0_tries acc0_shared
  acc0_bounded = roots_bounded _ _ _ _ (four_roots _ _)

  pub acc1_bounded : Bounded (TryWith start target m.j_max m) 4 (acc1_tries start target k m)
  unfolding acc1_tries acc1_shared
  acc1_bounded = roots_bounded _ _ _ _ (four_roots _ _)

  pub none_acc0_acc1_bounded : Bounded (TryWith start target m.j_max m) 12 (none_acc0_acc1_tries start target k m)
  unfolding none_acc0_acc1_tries
  none_acc0_acc1_bounded = bounded_append none_bounded (bounded_append acc0_bounded acc1_bounded)

-- ---- time_all_single_step
module _ (q : Profile) (start : Start) (target : Target) (k : Constants) (m : Limits) where
  pub single_step_bounded : Bounded (TryWith start target 0ᶠ m) 2 (single_step_tries start target k m)
  unfolding single_step_tries single_step_slots
  single_step_bounded =
      held_bounded (jerkless_try start target m)
      (λ t. record { start_is = refl; target_is = refl; jerk_is = refl; limits_is = refl }) _
      (cond_length (changes_acceleration start target) _ _ (omega arith)
      (cond_length (starts_accelerated start) _ _ (omega arith)
      (cond_length (starts_moving start) _ _ (omega arith) (omega arith))))

  pub single_step_at_most : AtMost 2 (time_all_single_step q start target k m)
  single_step_at_most = in_turn_at_most acceptance true (refusal q) single_step_bounded

  -- a yes gives a profile that was accepted, a no the profile as it came
  record Answered (d : Checked) : Type 0 where
    brake_is : d.profile.brake ≡ q.brake
    accel_is : d.profile.accel ≡ q.accel
    yes : d.ok ≡ true → AcceptedOf (TryWith start target 0ᶠ m) q.brake q.accel d.profile
    no : d.ok ≡ false → d.profile ≡ q

  refused_answered : Answered (refusal q)
  refused_answered = record { brake_is = refl; accel_is = refl; yes = λ h. absurd (false≢true h); no = λ h. refl }

  accepted_answered : (d : Checked) (x : Try) → TryWith start target 0ᶠ m x → passes x ≡ true → Answered d
      → Answered (acceptance d x)
  unfolding acceptance
  accepted_answered d x w p a =
      record {
        brake_is = brake_of _ _ x ∙ a.brake_is;
        accel_is = accel_of _ _ x ∙ a.accel_is;
        yes = λ h. record { x = x; is_of = w; passed = p; profile_is = rw (a.brake_is, a.accel_is) };
        no = λ h. absurd (true≢false h);
      }

  end_answered : Answered (run passes (time_all_single_step q start target k m))
  end_answered =
      finish_keeps passes acceptance accepted_answered true (refusal q) single_step_bounded refused_answered

  pub single_step_accepted : (run passes (time_all_single_step q start target k m)).ok ≡ true
      → AcceptedOf (TryWith start target 0ᶠ m) q.brake q.accel
      (run passes (time_all_single_step q start target k m)).profile
  single_step_accepted = end_answered.yes

  -- it stops at its first success
  pub single_step_stops : StopsAtYes (λ (d : Checked). d.ok ≡ true) (time_all_single_step q start target k m)
  single_step_stops =
      in_turn_stops acceptance (λ d. d.ok ≡ true) (λ d x. unfold acceptance in refl) (refusal q)
      (single_step_tries start target k m)

  -- it says no exactly where no try is accepted
  pub single_step_none : ((run passes (time_all_single_step q start target k m)).ok ≡ false)
      ↔ AllNo passes (time_all_single_step q start target k m)
  single_step_none =
      let xs = single_step_tries start target k m in
      let e = holds_after_no passes acceptance (λ d. d.ok ≡ false) accepts true (refusal q) xs in
      (λ h. (e.0 h).1, λ h. e.1 (refl, h))
    where
      accepts : (d : Checked) (x : Try) → (acceptance d x).ok ≡ false → ⊥
      accepts d x = unfold acceptance in true≢false
