pub mod Cups
pub mod Plans
pub mod Reading
