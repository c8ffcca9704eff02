pub mod Margin
pub mod Fragments
