-- What the calls of a task answer and leave.
-- Assumes nothing.
pub mod Lending
