pub mod Handing
pub mod Storing
