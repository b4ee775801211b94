pub mod Journey
pub mod Cell
pub mod Adding
pub mod Theorems
