pub mod Walks
pub mod Collected
