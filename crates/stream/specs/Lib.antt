-- Promise 3: what the theorems ask of a token reader (Interface), what a whole stream means (Whole, and case by case Framing), how many
-- tokens it has (Tokens), the calls of a caller who is handed it in pieces (Drive), and the readings of one call (Steps).
pub mod Interface
pub mod Whole
pub mod Framing
pub mod Tokens
pub mod Drive
pub mod Steps
