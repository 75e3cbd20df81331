pub mod Reading
pub mod Scan
