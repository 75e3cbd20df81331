-- The breaks between lines.
pub mod Breaks
-- Worked values.
pub mod Worked
