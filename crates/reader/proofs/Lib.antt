-- Laws of the stream's calls: 28's tests one by one (Refusing), and what follows from them (Shell).
pub mod Shell
pub mod Refusing
