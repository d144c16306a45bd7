-- The claim about every worked example.
pub mod All
