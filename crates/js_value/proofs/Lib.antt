pub mod Parts
pub mod Sequences
pub mod Pieces
pub mod Filling
pub mod Ascii
pub mod ReadsBack
pub mod Powers
pub mod Shifts
pub mod Digits
pub mod Reading
pub mod Trimming
pub mod Spelled
pub mod Indices
pub mod Laws
pub mod Samples
pub mod Below
pub mod Entries
pub mod Profile
mod KeyRows
pub mod Keys
pub mod NumberTexts
pub mod Tables
mod CaseRows
mod ValueRows
