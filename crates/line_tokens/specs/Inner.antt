pub mod LineByLine
pub mod Scan
