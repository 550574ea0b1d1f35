-- `search::search` meets its contract. Assumes nothing.
-- At every turn what is left of the search, from the list so far, leads to the list at the end.
use mathlib.Core.Path.{◌≡◌, ap}
use mathlib.Core.Bool.{not}
use native.Mathlib.Nat.{le_of_suc-le-suc}
use Rattle.candidates.specs.declared.Candidates.{Candidates}
use Rattle.candidates.specs.List.{added}
use Rattle.candidates.proofs.SlotLaws.{six_slots, added_below, added_last, added_out}
use Rattle.search.proofs.PlaceLaws.{later, Place, outset, at_end, at_guard, enter, skip, refuse, accept}
use Rattle.search.proofs.PlaceLaws.{stage_left, none_left, fewer}
use Rattle.search.proofs.search.Goals.{After-slot_after-i}
use Rattle.search.proofs.search.Goals as goal

pub loop-i-init : goal.loop-i-init
loop-i-init c =
    outset _ _ _ _ _ _ _ _ (six_slots c.args.c _ c.well_formed.0) _ _ c.numbers-s.ensures

pub returns-then-stage-d : goal.returns-then-stage-d
returns-then-stage-d c =
    at_guard _ _ _ _ _ _ c.loop-i.invariant c.if-i-count.true (stage_left _ _ _ _ c.loop-i-test.true c.if-i-count.true) c.stage_at-stage.ensures
    c.if-stage-d.true

pub loop-i-smaller-then-i-count : goal.loop-i-smaller-then-i-count
loop-i-smaller-then-i-count c =
    fewer _ _ _ _ _ _ _ (stage_left _ _ _ _ c.loop-i-test.true c.if-i-count.true) c.stage_at-stage.ensures _ _
    c.limits_for-w.ensures
    c.shared-s.ensures
    c.slot_count-count.ensures

pub loop-i-preserved-then-i-count : goal.loop-i-preserved-then-i-count
loop-i-preserved-then-i-count c =
    enter _ _ _ _ _ _ c.loop-i.invariant c.if-i-count.true (stage_left _ _ _ _ c.loop-i-test.true c.if-i-count.true) c.stage_at-stage.ensures
    c.if-stage-d.false
    c.limits_for-w.ensures
    c.shared-s.ensures
    c.slot_count-count.ensures

pub loop-i-preserved-then-not-slot_holds : goal.loop-i-preserved-then-not-slot_holds
loop-i-preserved-then-not-slot_holds c =
    skip _ _ _ _ _ _ c.loop-i.invariant c.if-i-count.false c.slot_holds.ensures (ap not c.if-not-slot_holds.true)

pub loop-i-preserved-then-not-passes : goal.loop-i-preserved-then-not-passes
loop-i-preserved-then-not-passes c =
    refuse _ _ _ _ _ _ c.loop-i.invariant c.if-i-count.false c.slot_holds.ensures
    (ap not c.if-not-slot_holds.false)
    c.slot_times-t.ensures
    c.try_by-x.ensures
    c.passes.ensures
    (ap not c.if-not-passes.true)

-- a success, where d is the list with its try
success : (p : After-slot_after-i) {d : Candidates}
    → d ≡ added p.loop-i.d p.try_by-x.result
    → let x = p.args in
    let l = p.loop-i in
    Place x.start x.target x.k x.m x.kind x.stages.end
    (later x.start x.target x.k x.m x.kind x.stages.end x.stages.start x.c)
    d l.n l.family l.w l.stops l.s l.count p.slot_after-i.result
success p e =
    accept _ _ _ _ _ _ p.loop-i.invariant p.if-i-count.false p.slot_holds.ensures
    (ap not p.if-not-slot_holds.false)
    p.slot_times-t.ensures
    p.try_by-x.ensures
    p.passes.ensures
    (ap not p.if-not-passes.false)
    p.slot_after-i.ensures
    e

pub loop-i-preserved-then-at-lt-COUNTED : goal.loop-i-preserved-then-at-lt-COUNTED
loop-i-preserved-then-at-lt-COUNTED c =
    let stored = c.before.before.before in
    success stored.before.before.before
    (added_below _ _ c.loop-i.invariant.six _ c.if-at-lt-COUNTED.true c.profile_of-profile.ensures
    c.with_boundary_from_profile.ensures)

pub loop-i-preserved-else-at-lt-COUNTED : goal.loop-i-preserved-else-at-lt-COUNTED
loop-i-preserved-else-at-lt-COUNTED c =
    success c.before.before.before.before
    (added_last _ _ c.loop-i.invariant.six _ (le_of_suc-le-suc c.if-at-lt-SLOTS.true) c.if-at-lt-COUNTED.false
    c.profile_of-profile.ensures)

pub loop-i-preserved : goal.loop-i-preserved
loop-i-preserved c = success c.before (added_out _ _ c.loop-i.invariant.six c.if-at-lt-SLOTS.false)

pub returns : goal.returns
returns c =
    let w = none_left _ _ _ _ c.loop-i-test.false in
    at_end _ _ _ _ _ _ c.loop-i.invariant w.0 w.1
