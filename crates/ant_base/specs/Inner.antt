pub mod Answered
pub mod Entries
pub mod Noted
pub mod SystemLog
