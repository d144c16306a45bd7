-- Laws of the buffer's bytes: separators at the front, bytes moved and copied, a piece taken.
pub mod Buffer
