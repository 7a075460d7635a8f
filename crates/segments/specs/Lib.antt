-- The definitions of the table, in the order in which they are read.
-- Assumes nothing.
pub mod Rows
pub mod Tiling
pub mod Search
pub mod Counting
pub mod Changes
pub mod Steps
