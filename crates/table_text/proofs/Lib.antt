pub mod Writing
pub mod Digits
pub mod Texts
pub mod Lengths
