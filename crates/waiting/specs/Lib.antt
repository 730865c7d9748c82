pub mod Histories
pub mod Waits
pub mod Going
