pub mod Joined
pub mod Collecting
