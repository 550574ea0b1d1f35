-- `arrival::arrival` meets its contract. Assumes nothing.
use Rattle.std.proofs.Common.{rules}
use denote.Floats.{passes}
use Rattle.doubles.specs.Value.{Fits}
use Rattle.arrival.specs.Steps.{Found, Lowest}
use Rattle.arrival.proofs.ScanLaws.{earliest}
use Rattle.arrival.proofs.arrival.Goals as goal

pub returns : goal.returns
returns c =
    let same = c.in_ok-axes.ensures.ok in
    let axes = c.in_ok-axes.axes in
    let found : Found axes.durations.now axes.ends.now c.in_ok-time.time = search rules in
    let lowest : Lowest axes.durations.now axes.ends.now c.in_ok-time.time c.unwrap-axis.result =
    rw c.unwrap-axis.ensures at c.lowest.ensures in
    let double : Fits c.in_ok-time.time = search passes in
    rw (← same.0, ← same.1) (axes.well_formed, earliest _ _ double found lowest)
