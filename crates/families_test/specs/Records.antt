-- What the bytes of a record mean: a move's 13 doubles, then a byte each for the family, the direction,
-- `return_after_found` and how many profiles the list counts already. Definitions only.
use Rattle.std.specs.Prelude.{ℕ, Bool, true, cond, ◌&&◌, List, eqb, get_or, set, replicate}
use Rattle.encoding.specs.Encoding.{double_at}
use Rattle.profile.specs.Limits.{swapped_limits}
use Rattle.profile.specs.Boundary.{empty_profile, with_boundary}
use Rattle.profile.specs.declared.Profile.{Profile}
use Rattle.profile.specs.declared.Start.{Start}
use Rattle.profile.specs.declared.Target.{Target}
use Rattle.profile.specs.declared.Limits.{Limits}
use Rattle.profile_check.specs.Check.{Checked}
use Rattle.phase_times.specs.Constants.{constants_of}
use Rattle.phase_times.specs.declared.constants.Constants.{Constants}
use Rattle.trees.specs.Tree.{run}
use Rattle.candidates.specs.Try.{passes}
use Rattle.candidates.specs.List.{slot}
use Rattle.candidates.specs.declared.Candidates.{Candidates}
use Rattle.position_third_step1.specs.CheckTree.{CheckTree, found}
use Rattle.position_third_step1.specs.TimeAllVel.{time_all_vel}
use Rattle.position_third_step1.specs.TimeAcc0Acc1.{time_acc0_acc1}
use Rattle.position_third_step1.specs.TimeAllNoneAcc0Acc1.{time_all_none_acc0_acc1}
use Rattle.position_third_step1.specs.TwoStep.{time_acc1_vel_two_step, time_acc0_two_step, time_vel_two_step}
use Rattle.position_third_step1.specs.TwoStep.{time_none_two_step}
use Rattle.position_third_step1.specs.TimeAllSingleStep.{time_all_single_step}
use Rattle.search.specs.Choices.{towards_target}
use Rattle.search.specs.Stages.{is_found}
use Rattle.search.specs.declared.stages.Kind.{Kind}
use Rattle.search.specs.declared.stages.Kind.TheVariants.{SingleStep, Itself, Resting, Moving}
use Rattle.families_test.specs.declared.records.Stages.{Stages}

-- ---- p0 v0 a0 pf vf af v_max v_min a_max a_min j_max brake accel
unfoldable pub start_of : List ℕ → Start
start_of b = record { p0 = double_at b 0; v0 = double_at b 8; a0 = double_at b 16 }

unfoldable pub target_of : List ℕ → Target
target_of b = record { pf = double_at b 24; vf = double_at b 32; af = double_at b 40 }

unfoldable pub limits_of : List ℕ → Limits
limits_of b = record {
  v_max = double_at b 48;
  v_min = double_at b 56;
  a_max = double_at b 64;
  a_min = double_at b 72;
  j_max = double_at b 80;
}

-- an empty profile with the record's boundary
unfoldable pub boundary_of : List ℕ → Profile
boundary_of b = with_boundary empty_profile (start_of b) (target_of b) (double_at b 88) (double_at b 96)

-- the limits for the record's direction
unfoldable pub directed : List ℕ → Limits
directed b = cond (eqb (get_or b 105 0) 1) (swapped_limits (limits_of b)) (limits_of b)

-- a list of which n empty profiles count, and the record's boundary behind them
unfoldable pub list_of : List ℕ → ℕ → Candidates
list_of b n = record { valid_profiles = set (replicate 6 empty_profile) n (boundary_of b); current_index = n }

-- ---- the stages of a search that are a family
abbrev pub stages : Kind → (from to : ℕ) → Stages
stages kind from to = record { kind = kind; numbers = record { start = from; end = to } }

unfoldable pub stages_of : ℕ → (return-after-found : Bool) → Stages
stages_of family return-after-found =
    cond (eqb family 0) (stages Moving 8 9)
    (cond (eqb family 1) (cond return-after-found (stages Resting 4 5) (stages Moving 6 7))
    (cond (eqb family 2) (cond return-after-found (stages Resting 1 4) (stages Moving 0 3))
    (cond (eqb family 3) (stages Moving 16 17)
    (cond (eqb family 4) (stages Moving 12 13)
    (cond (eqb family 5) (stages Moving 14 15)
    (stages Moving 10 11))))))

-- what stages of these two kinds make of the limits
abbrev pub turned : Kind → Constants → Limits → Limits
turned Resting k m = towards_target k m
turned SingleStep k m = m
turned Itself k m = m
turned Moving k m = m

-- ---- what the family gives

-- the list after a call. A guarded one is made only where no profile counts; else the list stays as it came
abbrev pub called : (guarded : Bool) → Candidates → CheckTree → Candidates
called guarded c t = cond (guarded && is_found c) c (found t)

-- the list after the family of this number. A search that ends with the first profile found calls families where none
-- counts: those with `return_after_found`, and the two-step families
unfoldable pub after_family : List ℕ → Candidates → Candidates
after_family b c =
    let start = start_of b in
    let target = target_of b in
    let k = constants_of start target (limits_of b) in
    let m = directed b in
    let family = get_or b 104 0 in
    let return-after-found = eqb (get_or b 106 0) 1 in
    cond (eqb family 0) (found (time_all_vel c start target k m))
    (cond (eqb family 1) (called return-after-found c (time_acc0_acc1 c start target k m return-after-found))
    (cond (eqb family 2) (called return-after-found c (time_all_none_acc0_acc1 c start target k m return-after-found))
    (cond (eqb family 3) (called true c (time_acc1_vel_two_step c start target k m))
    (cond (eqb family 4) (called true c (time_acc0_two_step c start target k m))
    (cond (eqb family 5) (called true c (time_vel_two_step c start target k m))
    (called true c (time_none_two_step c start target k m)))))))

-- the single-step path, which works on one profile
unfoldable pub single_step : List ℕ → Checked
single_step b = run passes (time_all_single_step (boundary_of b) (start_of b) (target_of b) (constants_of (start_of b) (target_of b) (limits_of b)) (directed b))

-- a list's first profile, and whether it counts
abbrev pub first_found : Candidates → Checked
first_found c = record { ok = is_found c; profile = slot c 0 }
