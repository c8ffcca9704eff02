pub mod Tables
pub mod Bounds
pub mod Texts
pub mod Walk
pub mod Laws
pub mod Rows
