-- Laws of the count: its steps (Laws), and that an answer means one thing (Answers).
pub mod Laws
pub mod Answers
