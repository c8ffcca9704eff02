pub mod Rows
pub mod Stands
pub mod Single
pub mod Lists
pub mod Sheets
