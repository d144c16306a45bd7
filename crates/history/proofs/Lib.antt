-- The reader's calls in any order: that a state stays fitting (Blocks, Readings, Offers, Kept), which answers come again and what refused
-- calls leave (Stuck, Again, Later), which bytes are looked at (Unread), the account of every byte (Accounted), what stays (Stays), that
-- an answer means one thing (One), and all of it for binary records (InBinary).
pub mod Blocks
pub mod Readings
pub mod Offers
pub mod Kept
pub mod Stuck
pub mod Again
pub mod Later
pub mod Unread
pub mod Accounted
pub mod Stays
pub mod One
pub mod InBinary
