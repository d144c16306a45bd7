-- The worked examples of document 01 that are proved.
pub mod Examples
