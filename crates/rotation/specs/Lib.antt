pub mod Orders
pub mod Rotations
pub mod Choices
pub mod Answering
pub mod Places
pub mod Turning
pub mod Choosing
