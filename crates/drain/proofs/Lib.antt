pub mod Storing
pub mod Steps
pub mod Handing
