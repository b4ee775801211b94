pub mod Front
pub mod Splice
pub mod Slots
pub mod Replace
pub mod Entered
