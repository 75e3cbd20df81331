pub mod FaultText
pub mod Faulty
pub mod Fields
pub mod Inner
pub mod Judgement
pub mod Steps
pub mod TokenLines
pub mod Tokens
