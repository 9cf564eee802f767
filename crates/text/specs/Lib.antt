-- Decimal numbers as text; Claims says what is proved of them; Parts needs no belief.
pub mod Text
pub mod Parts
pub mod Claims
