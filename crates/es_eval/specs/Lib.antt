pub mod ModuleTables
pub mod Completions
pub mod Environments
pub mod Operands
pub mod Evaluation
pub mod Boot
pub mod ThinEvaluation
pub mod ThinBoot
