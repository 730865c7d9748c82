pub mod Meaning
pub mod Tallies
pub mod Puts
pub mod Memory
