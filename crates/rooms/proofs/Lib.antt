pub mod Rows
pub mod Laws
pub mod Search
pub mod Changing
