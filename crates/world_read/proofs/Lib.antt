-- Bytes, rows and the plan of a text.
pub mod BytesLemmas
pub mod ScanLemmas
pub mod RowReads
pub mod PlanReads
pub mod TextReads
-- Its fault, and that it has one verdict.
pub mod FaultReads
pub mod WrongReads
pub mod AnswersLemmas
pub mod VerdictLemmas
-- The world as a text again.
pub mod OpenedLemmas
pub mod CanonicalLemmas
pub mod ReadsAsLemmas
-- Worked values.
pub mod Worked
-- Each law, used.
pub mod LawsUsed
