pub mod Dashes
pub mod BySix
