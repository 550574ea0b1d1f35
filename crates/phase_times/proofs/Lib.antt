-- Laws about the definitions of `phase_times`, and examples.
pub mod ConstantsLaws
pub mod Examples
