pub mod TreeList
