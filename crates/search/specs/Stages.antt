-- The stages of a move: which families are tried, with which limits, in which order. Definitions only.
use Rattle.std.specs.Prelude.{ℕ, zero, suc, ◌+◌, ◌-◌, ◌%◌, Bool, true, false, cond, List, [], ◌∷◌, map, eqb, ltb}
use Rattle.profile.specs.Limits.{swapped_limits}
use Rattle.profile.specs.declared.Start.{Start}
use Rattle.profile.specs.declared.Target.{Target}
use Rattle.profile.specs.declared.Limits.{Limits}
use Rattle.phase_times.specs.declared.constants.Constants.{Constants}
use Rattle.trees.specs.Stages.{in_stages}
use Rattle.trees.specs.Stages as in-trees
use Rattle.candidates.specs.declared.Try.{Try}
use Rattle.candidates.specs.List.{added}
use Rattle.candidates.specs.declared.Candidates.{Candidates}
use Rattle.position_third_step1.specs.CheckTree.{CheckTree}
use Rattle.position_third_step1.specs.Families.{tries_of}
use Rattle.position_third_step1.specs.declared.families.Family.{Family}
use Rattle.position_third_step1.specs.declared.families.Family.TheVariants.{AllVel, None, Acc0, Acc1, Acc0Acc1}
use Rattle.position_third_step1.specs.declared.families.Family.TheVariants.{NoneTwoStep, Acc0TwoStep, VelTwoStep}
use Rattle.position_third_step1.specs.declared.families.Family.TheVariants.{Acc1VelTwoStep, SingleStep as Single}
use Rattle.search.specs.Choices.{has_zero_limit, ends_at_rest, rests_at_target, towards_target}
use Rattle.search.specs.declared.stages.Kind.{Kind}
use Rattle.search.specs.declared.stages.Kind.TheVariants.{SingleStep, Itself, Resting, Moving}
use Rattle.search.specs.declared.stages.Way.{Way}
use Rattle.search.specs.declared.stages.Way.TheVariants.{Given, Swapped, Towards, Away}
use Rattle.search.specs.declared.stages.Stage.{Stage}

-- ---- which stages a move has
unfoldable pub kind_by : (has-zero-limit ends-at-rest rests-at-target : Bool) → Kind
kind_by true ends-at-rest rests-at-target = SingleStep
kind_by false true true = Itself
kind_by false true false = Resting
kind_by false false rests-at-target = Moving

unfoldable pub kind_of : Start → Target → Constants → Limits → Kind
kind_of start target k m = kind_by (has_zero_limit m) (ends_at_rest target) (rests_at_target start k)

-- the limits of a stage
unfoldable pub limits_for : Constants → Limits → Way → Limits
limits_for k m Given = m
limits_for k m Swapped = swapped_limits m
limits_for k m Towards = towards_target k m
limits_for k m Away = swapped_limits (towards_target k m)

-- ---- the families by place: the three polynomials; those of a resting target in one direction; two-step
unfoldable pub polynom_family : ℕ → Family
polynom_family n = cond (eqb n 0) None (cond (eqb n 1) Acc0 Acc1)

unfoldable pub resting_family : ℕ → Family
resting_family n = cond (eqb n 0) AllVel (cond (ltb n 4) (polynom_family (n - 1)) Acc0Acc1)

unfoldable pub two_step_family : ℕ → Family
two_step_family n = cond (ltb n 2) NoneTwoStep (cond (ltb n 4) Acc0TwoStep (cond (ltb n 6) VelTwoStep Acc1VelTwoStep))

-- ---- the stages by place
abbrev pub stage : Family → Way → (guarded stops : Bool) → Stage
stage family way guarded stops = record { family = family; way = way; guarded = guarded; stops = stops }

-- a resting target
unfoldable pub resting_stage : ℕ → Stage
resting_stage n =
    cond (ltb n 5) (stage (resting_family n) Towards true true) (stage (resting_family (n - 5)) Away true true)

-- any other target
unfoldable pub moving_stage : ℕ → Stage
moving_stage n =
    cond (ltb n 3) (stage (polynom_family n) Given false false)
    (cond (ltb n 6) (stage (polynom_family (n - 3)) Swapped false false)
    (cond (eqb n 6) (stage Acc0Acc1 Given false false)
    (cond (eqb n 7) (stage Acc0Acc1 Swapped false false)
    (cond (eqb n 8) (stage AllVel Given false true) (stage AllVel Swapped false true)))))

-- with none found
unfoldable pub two_step_stage : ℕ → Stage
two_step_stage n =
    cond (eqb (n % 2) 0) (stage (two_step_family n) Given true true) (stage (two_step_family n) Swapped true true)

unfoldable pub stage_at : Kind → ℕ → Stage
stage_at SingleStep n = stage Single Given true true
stage_at Itself n = cond (ltb n 3) (stage (polynom_family n) Towards true true) (two_step_stage (n - 3))
stage_at Resting n = cond (ltb n 10) (resting_stage n) (two_step_stage (n - 10))
stage_at Moving n = cond (ltb n 10) (moving_stage n) (two_step_stage (n - 10))

unfoldable pub stage_count : Kind → ℕ
stage_count SingleStep = 1
stage_count Itself = 11
stage_count Resting = 18
stage_count Moving = 18

-- the stages from n on, j of them
unfoldable pub stages_from : Kind → (n j : ℕ) → List Stage
stages_from kind n zero = []
stages_from kind n (suc j) = stage_at kind n ∷ stages_from kind (n + 1) j

-- ---- a search

-- some profile counts
abbrev pub is_found : Candidates → Bool
is_found c = ltb 0 c.current_index

module _ (start : Start) (target : Target) (k : Constants) (m : Limits) where
  -- a stage by its tries
  abbrev pub stage_tries : Stage → in-trees.Stage Try
  stage_tries s =
      record {
        guarded = s.guarded;
        stops = s.stops;
        questions = tries_of start target k (limits_for k m s.way) s.family;
      }

  -- the stages in their order
  abbrev pub search_of : List Stage → Candidates → CheckTree
  search_of stages c = in_stages added is_found (map stage_tries stages) c
