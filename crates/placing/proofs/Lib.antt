-- Laws of marks and of the walk over them.
pub mod Laws
