pub mod Calls
pub mod States
pub mod Happenings
pub mod Rules
pub mod Histories
pub mod Laws
