pub mod Credit
pub mod Calls
pub mod Gates
pub mod Transfers
pub mod Worked
