pub mod Streams
pub mod Connections
pub mod Answers
pub mod Readings
