-- What the private functions write.
pub mod Overlay
