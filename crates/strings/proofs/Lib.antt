-- Laws of a part that is handed out.
pub mod Laws
