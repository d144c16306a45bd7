-- The vocabulary of every promise: numbers, answers, and what each refusal means.
pub mod Numbers
pub mod Paper
pub mod Meaning
