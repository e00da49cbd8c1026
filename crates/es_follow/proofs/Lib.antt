pub mod Computing
pub mod Sides
mod StatementRows
mod ObjectRows
mod EndRows
