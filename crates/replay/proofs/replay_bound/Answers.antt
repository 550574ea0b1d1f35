-- `replay::replay_bound` meets its contract: its theorem asks that the numbers are doubles, which the machine's are.
-- Assumes nothing.
use denote.Floats.{passes}
use Rattle.profile.proofs.MachineLaws.{of_machine}
use Rattle.replay.proofs.CheckedReplay.{ProfileFits, check_ends_at}
use Rattle.replay.proofs.replay_bound.Goals as goal

pub returns : goal.returns
returns c =
    let m = of_machine c.args.q _ c.well_formed.0 in
    let d : ProfileFits c.args.q (λ i. c.args.x.jf) =
    record {
      start = record { p = m.p.doubles 0; v = m.v.doubles 0; a = m.a.doubles 0 };
      times = λ i l. m.t.doubles i;
      jerks = λ i l. search passes;
      pf = m.pf;
      vf = m.vf;
      af = m.af;
    } in
    check_ends_at _ _ _ _ _ _ d (search passes) (search passes)
