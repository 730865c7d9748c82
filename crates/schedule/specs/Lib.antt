pub mod Ranks
pub mod Policies
