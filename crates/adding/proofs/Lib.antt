pub mod Ticks
pub mod Listed
pub mod Turns
pub mod Added
