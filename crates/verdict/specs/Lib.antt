pub mod Fragments
pub mod Judging
