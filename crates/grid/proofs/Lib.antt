pub mod Places
pub mod Numbered
pub mod Reading
pub mod Walk
pub mod Flat
pub mod Steps
pub mod CellNumbers
