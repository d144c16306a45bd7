-- The automaton over tokens, and how deep blocks may stand in one another.
pub mod Limit
pub mod Step
