-- A history of the reader's calls and its account, and the facts that theorems about it ask for.
pub mod History
pub mod Facts
