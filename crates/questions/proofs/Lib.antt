-- The laws of the questions: their chain, and the walk over the lines.
pub mod Asking
pub mod Walking
