-- The laws of feeding and of the work at braces, and the worked rows, which the proofs of crates above cite too. For these: the states of a list,
-- bytes that are treated alike, and the slots of validators that are under way.
pub mod Feeding
pub mod Rows
pub mod Work
mod States
mod Alike
mod Slots
