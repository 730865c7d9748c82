pub mod Seats
pub mod Timing
pub mod Waiting
