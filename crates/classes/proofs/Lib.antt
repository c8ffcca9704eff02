-- The laws of the table and its flags; and of runs and of parts of a slice, which the proofs of crates above cite too.
pub mod Rule
pub mod Runs
pub mod Parts
