-- Laws of lengths and places: what the tests say (Tests).
pub mod Tests
