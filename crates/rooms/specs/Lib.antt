pub mod Rows
pub mod Records
pub mod Standing
pub mod Steps
