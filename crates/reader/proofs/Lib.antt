-- The laws of the call: the rooms at its end, and demand 3 of its outcome.
pub mod Ending
pub mod Calling
