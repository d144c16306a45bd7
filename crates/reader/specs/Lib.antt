-- The stream reader: its state and 28's tests, what its answers mean, and its calls.
pub mod Fits
pub mod Meaning
pub mod Calls
