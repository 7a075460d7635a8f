-- What the program's functions promise of the bytes that they read and write.
-- Assumes nothing.
pub mod Whole
pub mod Steps
