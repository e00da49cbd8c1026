pub mod Left
pub mod Braces
pub mod Reads
