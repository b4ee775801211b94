pub mod MarkedSets
pub mod CellByCell
pub mod Removed
pub mod Copied
