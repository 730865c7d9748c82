pub mod Points
pub mod Effects
pub mod Ties
pub mod Windows
pub mod Grants
pub mod Fates
pub mod Law
