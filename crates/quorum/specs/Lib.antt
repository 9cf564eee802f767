-- Sets of hosts and majorities; Claims says what is proved of them. Parts needs no belief.
pub mod Sets
pub mod Claims
pub mod Parts
