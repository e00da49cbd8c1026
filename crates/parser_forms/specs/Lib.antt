pub mod Kept
pub mod Parts
pub mod Asks
pub mod Pieces
pub mod Shapes
