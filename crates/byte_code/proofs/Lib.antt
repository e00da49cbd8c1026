pub mod Rows
pub mod Reading
pub mod Decoding
pub mod Laws
mod Samples
pub mod Starts
pub mod Entering
pub mod Refusing
pub mod Keeping
pub mod Kept
pub mod Sound
pub mod Passing
pub mod Renames
pub mod Renamed
pub mod Running
