pub mod Judging
pub mod Putting
