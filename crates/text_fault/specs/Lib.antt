pub mod FaultText
pub mod Opens
pub mod Refusals
pub mod Verdicts
