-- Laws of `planner`. Those for whole plans: RefusalLaws, PlanLaws, ArrivalLaws.
pub mod RefusalLaws
pub mod AcceptedLaws
pub mod DurationLaws
pub mod PartLaws
pub mod TotalLaws
pub mod AxisLaws
pub mod PlanLaws
pub mod MachineDoubles
pub mod ArrivalLaws
