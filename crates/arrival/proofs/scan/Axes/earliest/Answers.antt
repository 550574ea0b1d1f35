-- `arrival::scan::Axes::earliest` meets its contract. The invariant: the time is one that the scan has come to, and
-- none of the axes passed has it inside a stretch. The measure: right ends above the time, and axes to come. Assumes
-- nothing.
use mathlib.Core.Path.{◌≡◌, refl}
use native.Mathlib.Omega.{arith}
use Rattle.std.specs.Prelude.{Some, None}
use Rattle.arrival.specs.Axes.{axis_of}
use Rattle.arrival.specs.Steps.{past}
use Rattle.arrival.proofs.ScanLaws.{none_passed, one_passed, all_passed, again, fewer_turns, found}
use Rattle.arrival.proofs.scan.Axes.earliest.Goals as goal

pub loop-i-init : goal.loop-i-init
loop-i-init c = (omega arith, refl, none_passed _ _ c.args.self.now.well_formed c.latest-time.ensures)

pub loop-i-smaller-in-Some-past : goal.loop-i-smaller-in-Some-past
loop-i-smaller-in-Some-past c =
    let axes = c.args.self.now in
    let next = c.in-Some.ensures.steps.1 in
    let inside : past (axis_of axes.durations.now axes.ends.now c.loop-i.axes.start) c.loop-i.time
    ≡ Some c.in-Some-past.later = cc in
    fewer_turns _ _ _ _ _ c.loop-i.invariant.2 (omega arith) inside _ _

pub loop-i-preserved-in-Some-past : goal.loop-i-preserved-in-Some-past
loop-i-preserved-in-Some-past c =
    let axes = c.args.self.now in
    let next = c.in-Some.ensures.steps.1 in
    let inside : past (axis_of axes.durations.now axes.ends.now c.loop-i.axes.start) c.loop-i.time
    ≡ Some c.in-Some-past.later = cc in
    (omega arith, refl, again _ _ _ _ _ c.loop-i.invariant.2 (omega arith) inside)

pub loop-i-preserved : goal.loop-i-preserved
loop-i-preserved c =
    let axes = c.args.self.now in
    let next = c.in-Some.ensures.steps.1 in
    let outside : past (axis_of axes.durations.now axes.ends.now c.loop-i.axes.start) c.loop-i.time ≡ None = cc in
    (omega arith, omega arith, rw next.2 (one_passed _ _ _ _ c.loop-i.invariant.2 outside))

pub returns : goal.returns
returns c =
    let through = all_passed _ _ c.loop-i.invariant.2 (omega (arith, c.in_default.ensures.steps.1.0)) in
    rw (c.then_some.ensures, c.is_finite.ensures) (found _ _ through)
