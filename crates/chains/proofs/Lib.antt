pub mod Lending
pub mod Leading
pub mod Walking
pub mod Replies
