pub mod Samples
mod InstructionRows
mod ForeignRows
mod CallRows
mod BootRows
pub mod StepLaws
pub mod DecodingLaws
