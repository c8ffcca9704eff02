pub mod Attributes
pub mod Worked
pub mod Work
