-- What a C host is handed; Parts needs no belief.
pub mod Interface
pub mod Parts
