-- What a scan answers: the run of the automaton (crate `automaton`) over the bytes, how it stops, and what the private functions say.
pub mod Walk
pub mod Stops
pub mod Meaning
pub mod Post
