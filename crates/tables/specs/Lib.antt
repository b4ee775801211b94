pub mod Openings
pub mod Cells
