-- Steps, turns and what lies beside.
pub mod Turns
pub mod Places
pub mod Beside
-- Walks and the distance.
pub mod Walks
pub mod Reaches
pub mod Metric
-- Balls.
pub mod BallRows
pub mod BallSizes
-- Row order and the rim.
pub mod RowLemmas
pub mod Rim
-- Worked values.
pub mod Worked
-- Each law, used.
pub mod LawsUsed
