-- What stands in a lent buffer.
pub mod Buffer
