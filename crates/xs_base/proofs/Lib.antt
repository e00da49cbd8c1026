pub mod Writes
pub mod LineReads
pub mod LineCuts
pub mod Inputs
pub mod ByteReads
pub mod Totals
pub mod Packing
mod Rows
