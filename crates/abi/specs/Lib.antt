-- What a host gets of the C call.
pub mod Call
