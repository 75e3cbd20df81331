-- Games that begin with a world as a text opens it.
pub mod Openings
-- What is seen of a game after each round.
pub mod Seen
-- Worked values.
mod Worked
