pub mod Answered
pub mod FirstFault
pub mod Places
pub mod Verdict
