-- Laws of the automaton: a block that is opened (Opened), and the numbers of what is wrong (Named).
pub mod Opened
pub mod Named
