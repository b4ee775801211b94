pub mod Bits
pub mod Pens
pub mod Meetings
