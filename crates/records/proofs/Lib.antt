pub mod Ids
pub mod Rows
pub mod Lookups
