-- What a value is, by the public grammar and with each looseness named, and where a scan that finds none stops.
pub mod Grammar
pub mod Public
pub mod Stopped
