pub mod Rows
pub mod Tables
pub mod Back
pub mod Matched
pub mod Lengths
pub mod Faithful
pub mod Raw
