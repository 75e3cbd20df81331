-- Elements of lists, their numbers, and what holds for all of them.
pub mod Elements
pub mod Entries
pub mod AllElements
