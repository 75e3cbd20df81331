pub mod Content
pub mod Inner
pub mod Texts
pub use Rattle.ant_base.specs.Layout
pub use Rattle.ant_base.specs.Sink
pub use Rattle.cell_world.specs.Grid
pub use Rattle.hex_geometry.specs.Direction
