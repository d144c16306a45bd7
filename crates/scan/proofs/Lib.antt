-- Laws of the scan. Bottom up: what it asks of the token reader (Tokens), one step of the run (Laws), the table row by row (Arms),
-- what each way through the code comes to (Parts, Pairs), tokens that are passed (Kept), how the run stops (Stops), and that an answer means one
-- thing (One).
pub mod Tokens
pub mod Laws
pub mod Arms
pub mod Parts
pub mod Pairs
pub mod Kept
pub mod Stops
pub mod One
