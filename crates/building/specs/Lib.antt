pub mod RowsInUse
pub mod Marks
pub mod Stage
