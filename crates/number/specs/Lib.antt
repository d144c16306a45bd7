-- Number text in a text stream: its bytes, its grammar, and the token that it is.
pub mod Bytes
pub mod Grammar
pub mod Number
pub mod Places
