-- Quoted strings: what stands at a place, and worked examples. Inside has how the private functions answer.
pub mod Quoted
pub mod Inside
pub mod Examples
