pub mod Search
pub mod Lent
pub mod Rows
pub mod RowLoop
