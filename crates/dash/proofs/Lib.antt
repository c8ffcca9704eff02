-- The laws of dashes, which the proofs of crates above cite too.
pub mod Splits
