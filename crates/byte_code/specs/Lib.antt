pub mod Operands
pub mod Instructions
pub mod Effects
pub mod ValidCode
pub mod Checking
pub mod Frames
pub mod Renaming
