pub mod Asking
pub mod Intervals
