-- What text ignores between tokens, and worked examples of it.
pub mod Skip
pub mod Examples
