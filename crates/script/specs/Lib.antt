-- The definitions of the script language, in the order in which they are read.
-- Assumes nothing.
pub mod Text
pub mod Commands
pub mod Machine
pub mod Session
pub mod Promises
pub mod Performed
pub mod Steps
