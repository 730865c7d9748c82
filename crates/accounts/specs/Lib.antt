pub mod Accounts
pub mod Storages
pub mod Books
