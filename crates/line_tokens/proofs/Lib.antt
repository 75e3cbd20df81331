-- Tokens, and what is printed read again.
pub mod TokensLemmas
pub mod PrintedLemmas
-- Positions of a line.
pub mod PlacesLemmas
pub mod StepsLemmas
pub mod JudgementLemmas
-- Faults of lines and of texts.
pub mod LineFaults
pub mod LineLemmas
pub mod LinesByTokens
-- Worked values.
pub mod Worked
