pub mod Cuts
pub mod Reading
pub mod Fronts
pub mod Names
pub mod Codes
pub mod Running
pub mod Prints
pub mod Ended
