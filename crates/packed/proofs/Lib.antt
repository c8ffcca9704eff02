pub mod Concluding
pub mod Rounds
