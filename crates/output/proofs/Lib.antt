-- Where a word fits and where it does not (Fits), and that a number's digits put into output are one list (One).
mod Fits
pub mod One
