-- `planner::plan` meets its contract: its laws ask that the numbers are doubles, which the machine's are. Assumes
-- nothing.
use denote.Floats.{passes}
use Rattle.planner.proofs.PlanLaws.{promised, joinable}
use Rattle.planner.proofs.MachineDoubles.{plan_of_doubles}
use Rattle.planner.proofs.plan.Goals as goal

pub returns : goal.returns
returns c =
    let move_fields = c.well_formed.0.1.1 in
    let brake = passes _ move_fields.1.1.1.0.1 in
    let accel = passes _ move_fields.1.1.1.1.0.1 in
    record {
      promised = promised _ _ brake accel (plan_of_doubles _ _ c.answer.type_inv.1.1) c.answer.ensures;
      joinable = joinable _ _ brake accel c.answer.ensures;
    }
