-- Laws of streams. Bottom up: the binary token reader (Binary), the open blocks behind a token (Automaton, Open), the readings one by one (Turns), that
-- they are the scan (Scan), the whole stream byte by byte (Records) and case by case (Framing), the readings of one call (Count), what a
-- state stands for (Telling, State), that no call changes it (Next, Cut), promise 3 (Cutting), and the worked stream of document 01 (Worked).
pub mod Binary
pub mod Automaton
pub mod Open
pub mod Turns
pub mod Scan
pub mod Records
pub mod Framing
pub mod Count
pub mod Telling
pub mod State
pub mod Next
pub mod Cut
pub mod Cutting
pub mod Worked
