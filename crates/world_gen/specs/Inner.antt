pub mod Answers
pub mod Open
pub mod Sets
pub mod Drafts
