-- An event in the parts that a loop over events asks for. Needs no belief.
pub mod Parts
