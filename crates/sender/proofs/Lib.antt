pub mod Rows
pub mod Moves
pub mod Meanings
pub mod Changes
pub mod Updates
pub mod Initial
pub mod Endings
