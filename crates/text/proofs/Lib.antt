-- Laws of digits and of text put at an offset, and the claims.
pub mod Laws
pub mod Claims
