-- That a scan finds exactly the grammar's values (Complete one way, Sound the other, Exact both), where it stops else (Stopped), and
-- that the strict grammar is the public one (Strict).
pub mod Complete
pub mod Sound
pub mod Exact
pub mod Stopped
pub mod Strict
