pub mod Passes
pub mod SortedByTick
pub mod TableContacts
pub mod WholeLog
pub mod Numbered
