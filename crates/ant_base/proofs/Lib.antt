-- Numbers and lines.
pub mod Digits
pub mod Numbered
pub mod Linewise
-- What is pushed, and what a stream was given.
pub mod Pushes
pub mod Streams
-- What is returned of a text.
pub mod AnswerLemmas
-- What is fetched.
pub mod Fetches
-- Worked values.
pub mod Worked
pub mod SystemWorked
