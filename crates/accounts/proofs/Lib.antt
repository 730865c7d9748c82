pub mod Balances
pub mod Streams
pub mod Fairness
pub mod Changes
pub mod Renewals
pub mod Beginnings
pub mod Settlements
pub mod Soundness
