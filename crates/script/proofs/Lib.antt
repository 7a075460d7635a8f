-- The laws of the script language, and those that the proofs of its functions cite.
-- Assumes nothing.
pub mod Lists
pub mod Reading
pub mod Carrying
pub mod Writing
pub mod Parts
pub mod Holding
pub mod Feeding
pub mod Finishing
pub mod Laws
pub mod Performed
pub mod Example
