pub mod Pairing
pub mod Beginning
pub mod Resuming
pub mod Asking
pub mod Sheets
