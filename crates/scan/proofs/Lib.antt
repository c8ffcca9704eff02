-- The laws of scans, which the proofs of crates above cite too.
pub mod Closing
pub mod Addresses
pub mod Laws
