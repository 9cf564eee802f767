-- The walk that places, over marks. Needs no belief.
pub mod Parts
