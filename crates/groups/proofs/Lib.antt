pub mod Numbers
pub mod Turns
