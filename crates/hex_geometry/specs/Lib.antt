pub mod Direction
pub mod Distance
pub mod DistanceLaws
pub mod Inner
pub mod Laws
pub mod Neighbourhood
pub mod Position
pub mod RowOrder
