pub mod Inner
pub mod Stream
