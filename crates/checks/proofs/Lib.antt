pub mod Judged
pub mod Opened
