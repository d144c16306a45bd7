-- Laws of the cursor: the ways through a peek (Laws), and that an answer means one thing (Answers).
pub mod Laws
pub mod Answers
