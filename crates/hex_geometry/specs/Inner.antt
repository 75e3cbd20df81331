pub mod BallRows
pub mod Slant
