pub mod Loops
pub mod Homes
