-- Laws of a listing's lines: how long their parts are, the walk over names, and lines
-- after lines.
pub mod Laws
