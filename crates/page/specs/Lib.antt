pub mod Paged
pub mod Refused
