-- The lemmas of the program's loop.
-- Assumes nothing.
pub mod Going
pub mod Steps
