pub mod Openings
pub mod Cells
pub mod Stored
pub mod Ticks
pub mod TableRead
