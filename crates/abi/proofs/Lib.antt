-- Laws of the C call: minus in 64 bits (Negated), the ways of a call (Scans), and that no two cases share a number (Cases).
pub mod Negated
pub mod Scans
pub mod Cases
