-- What is searched for.
pub mod First
